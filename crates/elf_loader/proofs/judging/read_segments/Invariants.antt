use Rattle.std.proofs.Common.{◌≡◌, ◌+◌, ◌*◌, map}
use Rattle.std.specs.List.{range_with_len}
use Rattle.elf_loader.specs.Segments.{segment_at}
use Rattle.elf_loader.proofs.judging.read_segments.Given as goal

abbrev pub invariant-loop-number : goal.invariant-loop-number
invariant-loop-number l = l.segments.items ≡ map (λ k. segment_at l.file (l.first + 32 * k)) (range_with_len 0 l.number)
