use Rattle.std.proofs.Common.{◌≡◌, ◌-◌}
use Rattle.line_memory.specs.Backing.{dirty_from, dirty_in}
use Rattle.portion_ctl.specs.Walks.{all_inserted}
use Rattle.portion_ctl.proofs.walks.insert_dirty.Given as goal

-- the rest of the walk completes the signature
abbrev pub invariant-loop-place : goal.invariant-loop-place
invariant-loop-place g l = all_inserted l.signature (dirty_from (g.B.Backing.shown l.mem) l.from) ≡ all_inserted l.fn.signature (dirty_in (g.B.Backing.shown l.fn.mem))

abbrev pub decreases-loop-place : goal.decreases-loop-place
decreases-loop-place g l = 65536 - l.from
