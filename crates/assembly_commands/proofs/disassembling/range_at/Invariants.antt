use Rattle.std.proofs.Common.{◌≡◌, drop}
use Rattle.assembly_commands.specs.Disassembling.{range_at}
use Rattle.assembly_commands.proofs.disassembling.range_at.Given as goal

abbrev pub invariant-loop-range : goal.invariant-loop-range
invariant-loop-range l =
    range_at l.fn.ranges l.fn.pc ≡ range_at (drop l.range-index l.fn.ranges) l.fn.pc
