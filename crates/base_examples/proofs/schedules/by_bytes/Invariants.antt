use Rattle.std.proofs.Common.{◌≤◌}
use Rattle.base_examples.proofs.schedules.by_bytes.Given as goal

abbrev pub invariant-loop-byte : goal.invariant-loop-byte
invariant-loop-byte l = l.reader.ended ≤ l.byte-index
