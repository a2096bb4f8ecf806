use Rattle.std.proofs.Common.{◌≡◌, ◌<◌, ◌≤◌, ◌+◌, ◌*◌}
use Rattle.line_memory.specs.Backing.{dirty_from}
use Rattle.coherent_mem.specs.Parts.{shown}
use Rattle.coherent_mem.proofs.coherent.backing.CoherentBacking.next_dirty.Given as goal

abbrev pub invariant-loop-mark : goal.invariant-loop-mark
invariant-loop-mark l = record {
  within : l.way < l.self.ways;
  after : l.from ≤ l.mark * l.self.ways + l.way;
  skipped : dirty_from (shown l.self) l.from ≡ dirty_from (shown l.self) (l.mark * l.self.ways + l.way);
}
