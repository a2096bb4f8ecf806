use Rattle.std.proofs.Common.{◌≡◌, ◌≤◌, ◌+◌, ◌-◌}
use Rattle.std.specs.List.{count_by}
use Rattle.bloom_sig.specs.Signatures.{is_member}
use Rattle.line_memory.specs.Backing.{dirty_from, dirty_in}
use Rattle.conflict_resolve.proofs.undoing.due_lines.Given as goal

-- the members so far and those of the rest of the walk are all
abbrev pub invariant-loop-place : goal.invariant-loop-place
invariant-loop-place g l = record {
  counted : l.due + count_by (is_member l.reads) (dirty_from (g.B.Backing.shown l.mem) l.from) ≡ count_by (is_member l.reads) (dirty_in (g.B.Backing.shown l.mem));
  few : l.due ≤ l.from;
  near : l.from ≤ 65536;
}

abbrev pub decreases-loop-place : goal.decreases-loop-place
decreases-loop-place g l = 65536 - l.from
