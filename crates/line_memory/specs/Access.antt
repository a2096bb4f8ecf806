-- What accesses, flushes and commits make of the lists of the caches.
use Rattle.std.specs.Prelude.{ℕ, ◌==◌, ◌&&◌, not, Bool, List, ◌∷◌, map, filter, take, Option, Some, None, is_some, if◌then◌else◌}
use Rattle.conda_base.specs.declared.Line.{Line}
use Rattle.conda_base.specs.declared.Mesi.{Mesi}
use Rattle.conda_base.specs.declared.Mesi.TheVariants.{M, E, S}
use Rattle.conda_base.specs.LineLists.{names, same_line}
use Rattle.line_memory.specs.Tags.{Tag, Tags, Shape, set_number, held_state, some_below, without_line, cleaned_state, cleaned_line}

-- some holder other than h has the line
abbrev pub is_held_elsewhere : Shape → Tags → ℕ → Line → Bool
is_held_elsewhere shape tags h l =
    some_below shape.holders (λ k. not (k == h) && is_some (held_state shape tags k l))

-- a list with a line in front, cut to the ways
abbrev pub put_front : ℕ → Line → Mesi → List Tag → List Tag
put_front ways l state tags = take ways ((l, state) ∷ without_line l tags)

-- a list with S at one line
abbrev pub shared_at : Line → Tag → Tag
shared_at l tag = if same_line tag.0 l then (tag.0, S) else tag

abbrev pub shared_line : Line → List Tag → List Tag
shared_line l tags = map (shared_at l) tags

-- the state in which a holder has a line after loading it, by the one before
abbrev pub loaded_state : Shape → Tags → ℕ → Line → Option Mesi → Mesi
loaded_state shape tags h l (Some state) = state
loaded_state shape tags h l None = if is_held_elsewhere shape tags h l then S else E

-- another holder's list after the load of a line: where the line was missed, it is shared
abbrev pub list_beside_load : Line → Option Mesi → List Tag → List Tag
list_beside_load l (Some state) tags = tags
list_beside_load l None tags = shared_line l tags

-- the tags with the lists of one set changed: that of one holder, and those of the others
abbrev pub changed_set : ℕ → ℕ → (List Tag → List Tag) → (List Tag → List Tag) → Tags → Tags
changed_set h set own other tags k s =
    if s == set then (if k == h then own (tags k s) else other (tags k s)) else tags k s

-- A load of a held line brings it to the front. One that is missed becomes S elsewhere, and comes in front as E
-- where no other holder has it, else as S.
abbrev pub after_load : Shape → Tags → ℕ → Line → Tags
after_load shape tags h l =
    let before = held_state shape tags h l in
    changed_set h (set_number shape l)
    (put_front shape.ways l (loaded_state shape tags h l before)) (list_beside_load l before) tags

-- A store takes the line from all others and puts it in front as M.
abbrev pub after_store : Shape → Tags → ℕ → Line → Tags
after_store shape tags h l =
    changed_set h (set_number shape l) (put_front shape.ways l M) (without_line l) tags

-- one access of a holder to a line
abbrev pub after_access : Shape → Tags → ℕ → Line → Bool → Tags
after_access shape tags h l stores =
    if stores then after_store shape tags h l else after_load shape tags h l

-- E for M at one line
abbrev pub after_flush : Tags → Line → Tags
after_flush tags l k s = cleaned_line l (tags k s)

-- no holder has the line any more
abbrev pub after_merge : Tags → Line → Tags
after_merge tags l k s = without_line l (tags k s)

-- no holder has these lines any more
abbrev pub after_commit : Tags → List Line → Tags
after_commit tags lines k s = filter (λ (tag : Tag). not (names lines tag.0)) (tags k s)

-- each M becomes E
abbrev pub cleaned_tag : Tag → Tag
cleaned_tag tag = (tag.0, cleaned_state tag.1)

abbrev pub after_lock : Tags → Tags
after_lock tags k s = map cleaned_tag (tags k s)
