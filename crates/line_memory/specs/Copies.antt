-- Memory's own copies of lines, by what the caches hold.
use Rattle.std.specs.Prelude.{ℕ, ◌&&◌, Bool, List, if◌then◌else◌}
use Rattle.conda_base.specs.declared.Line.{Line}
use Rattle.conda_base.specs.LineLists.{names}
use Rattle.line_memory.specs.Tags.{Tags, Shape, held_state, is_in_m, some_below, dirty_lines}

-- one holder has the line in M in both tags
abbrev pub has_same_owner : Shape → Tags → Tags → Line → Bool
has_same_owner shape old new l =
    some_below shape.holders (λ k.
    is_in_m (held_state shape old k l) && is_in_m (held_state shape new k l))

-- Memory's own copy of a line after a change of tags. A line that isn't dirty has the bytes that users see now. A dirty
-- one keeps its copy where the same holder had it in M before, and else has the bytes that users saw before.
abbrev pub copy_after : Shape → Tags → Tags → Line → List ℕ → List ℕ → List ℕ → List ℕ
copy_after shape old new l copy seen_before seen_now =
    if names (dirty_lines shape new) l
    then (if has_same_owner shape old new l then copy else seen_before)
    else seen_now
