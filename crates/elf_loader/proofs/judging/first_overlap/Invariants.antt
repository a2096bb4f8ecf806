use Rattle.std.proofs.Common.{◌≡◌, ℕ, ◌<◌, false, get_or, take}
use Rattle.elf_loader.specs.declared.segment.Segment.{Segment}
use Rattle.elf_loader.specs.Segments.{overlaps}
use Rattle.elf_loader.proofs.judging.first_overlap.Given as goal

abbrev pub invariant-loop-place : goal.invariant-loop-place
invariant-loop-place l =
    (k : ℕ) (d : Segment) → k < l.place → overlaps (take k l.segments) (get_or l.segments k d) ≡ false
