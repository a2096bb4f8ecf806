use Rattle.std.proofs.Common.{◌≡◌, take}
use Rattle.elf_loader.specs.Loaded.{fetch_ranges}
use Rattle.elf_loader.proofs.memory.fetch_ranges.Given as goal

abbrev pub invariant-loop-segment : goal.invariant-loop-segment
invariant-loop-segment l = l.ranges.items ≡ fetch_ranges (take l.segment-index l.segments)
