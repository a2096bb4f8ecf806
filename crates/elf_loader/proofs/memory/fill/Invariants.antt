use Rattle.elf_loader.proofs.FillFacts.{IsFilledBy}
use Rattle.std.proofs.Common.{take}
use Rattle.elf_loader.proofs.memory.fill.Given as goal

abbrev pub invariant-loop-segment : goal.invariant-loop-segment
invariant-loop-segment l = IsFilledBy l.file (take l.segment-index l.segments) l.base l.size l.memory.items
