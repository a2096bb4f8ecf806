use Rattle.std.proofs.Common.{◌≡◌, ◌-◌}
use Rattle.std.specs.Prelude.{find}
use Rattle.line_memory.specs.Backing.{dirty_from, dirty_in}
use Rattle.bloom_sig.specs.Signatures.{is_member}
use Rattle.portion_ctl.proofs.walks.first_member.Given as goal

-- the members so far are none
abbrev pub invariant-loop-place : goal.invariant-loop-place
invariant-loop-place g l = find (is_member l.signature) (dirty_from (g.B.Backing.shown l.mem) l.from) ≡ find (is_member l.signature) (dirty_in (g.B.Backing.shown l.mem))

abbrev pub decreases-loop-place : goal.decreases-loop-place
decreases-loop-place g l = 65536 - l.from
