use Rattle.std.proofs.Common.{sym, ◌∙◌, arith}
use Rattle.elf_loader.specs.declared.segment.Segment.{Segment}
use Rattle.elf_loader.proofs.SegmentFacts.{first_overlap_is, no_overlap}
use Rattle.elf_loader.proofs.judging.first_overlap.Goals as goal

abbrev empty : Segment
empty = record { p_type = 0; p_offset = 0; p_vaddr = 0; p_filesz = 0; p_memsz = 0; p_flags = 0 }

pub returns-then-overlaps-clause-place : goal.returns-then-overlaps-clause-place
returns-then-overlaps-clause-place c =
    sym (first_overlap_is c.args.segments.now c.loop-place.place empty c.loop-place-test.true c.loop-place.invariant
    (sym c.overlaps.ensures ∙ c.if-overlaps.true))

pub returns-clause-place : goal.returns-clause-place
returns-clause-place c =
    sym (no_overlap c.args.segments.now empty (λ k e h. c.loop-place.invariant k e (omega arith)))
