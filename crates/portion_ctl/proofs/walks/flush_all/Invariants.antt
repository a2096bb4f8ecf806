use Rattle.std.proofs.Common.{◌≡◌, ◌-◌}
use Rattle.line_memory.specs.Backing.{dirty_from, dirty_in}
use Rattle.line_memory.specs.Notes.{all_noted}
use Rattle.portion_ctl.specs.Walks.{all_flushed}
use Rattle.portion_ctl.proofs.WalkFacts.{all_flush_notes}
use Rattle.portion_ctl.proofs.walks.flush_all.Given as goal

-- the rest of the walk completes the memory and the notes
abbrev pub invariant-loop-place : goal.invariant-loop-place
invariant-loop-place g l = record {
  memory : all_flushed (g.B.Backing.shown l.mem) (dirty_from (g.B.Backing.shown l.mem) l.from) ≡ all_flushed (g.B.Backing.shown l.fn.mem) (dirty_in (g.B.Backing.shown l.fn.mem));
  notes : all_noted l.log (all_flush_notes (g.B.Backing.shown l.mem) (dirty_from (g.B.Backing.shown l.mem) l.from)) ≡ all_noted l.fn.log (all_flush_notes (g.B.Backing.shown l.fn.mem) (dirty_in (g.B.Backing.shown l.fn.mem)));
}

abbrev pub decreases-loop-place : goal.decreases-loop-place
decreases-loop-place g l = 65536 - l.from
