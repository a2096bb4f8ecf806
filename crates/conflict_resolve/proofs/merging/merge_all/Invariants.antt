use Rattle.std.proofs.Common.{◌≡◌, ◌≤◌, ◌-◌, length, drop}
use Rattle.line_memory.specs.Backing.{IsBacking}
use Rattle.line_memory.specs.Notes.{all_noted}
use Rattle.conflict_resolve.specs.Merges.{stored_in, all_merged, all_merge_notes}
use Rattle.conflict_resolve.proofs.merging.merge_all.Given as goal

-- the rest of the merges completes the memory and the notes
abbrev pub invariant-loop-l : goal.invariant-loop-l
invariant-loop-l g l = record {
  memory : all_merged (g.B.Backing.shown l.mem) (drop l.place (stored_in l.c.try.cache)) ≡ all_merged (g.B.Backing.shown l.fn.mem) (stored_in l.c.try.cache);
  notes : all_noted l.log (all_merge_notes (g.B.Backing.shown l.mem) l.core (drop l.place (stored_in l.c.try.cache))) ≡ all_noted l.fn.log (all_merge_notes (g.B.Backing.shown l.fn.mem) l.core (stored_in l.c.try.cache));
  within : l.place ≤ length l.c.try.cache.stored;
  few : l.place ≤ 2048;
  backing : IsBacking (g.B.Backing.shown l.mem);
  lines : (g.B.Backing.shown l.mem).line_bytes ≡ (g.B.Backing.shown l.fn.mem).line_bytes;
  base : (g.B.Backing.shown l.mem).base ≡ (g.B.Backing.shown l.fn.mem).base;
  long : length (g.B.Backing.shown l.mem).view ≡ length (g.B.Backing.shown l.fn.mem).view;
}

abbrev pub decreases-loop-l : goal.decreases-loop-l
decreases-loop-l g l = 2049 - l.place
