use Rattle.std.proofs.Common.{◌≤◌, length, get_or, take, sym, ap, ◌∙◌, refl, true, false, ◌++◌, ◌∷◌, [], append-nil, arith}
use Rattle.std.proofs.lemmas.List.{length-take-le}
use Rattle.elf_loader.specs.declared.segment.Segment.{Segment}
use Rattle.elf_loader.specs.Loaded.{fetch_ranges, range_of}
use Rattle.elf_loader.proofs.RangeFacts.{fetch_ranges_more, length-fetch_ranges}
use Rattle.elf_loader.proofs.memory.fetch_ranges.Goals as goal
use Rattle.elf_loader.proofs.memory.fetch_ranges.Goals.{then-is_fetchable, else-is_fetchable}

abbrev empty : Segment
empty = record { p_type = 0; p_offset = 0; p_vaddr = 0; p_filesz = 0; p_memsz = 0; p_flags = 0 }

pub push-requires : goal.push-requires
push-requires c =
    let long = ap length c.loop-segment.invariant in
    let few = length-fetch_ranges (take c.loop-segment.segment-index c.args.segments.now) in
    let within : c.loop-segment.segment-index ≤ length c.args.segments.now = omega arith in
    let taken = length-take-le c.loop-segment.segment-index c.args.segments.now within in
    (omega arith, omega arith)

pub loop-segment-preserved : goal.loop-segment-preserved
loop-segment-preserved c =
    let segments = c.args.segments.now in
    let index = c.loop-segment.segment-index in
    elim c.if-is_fetchable.branch [
      | then-is_fetchable w ↦ rw w.ranges-is (w.push.ensures.items ∙ ap (λ r. r ++ range_of (get_or segments index empty) ∷ []) c.loop-segment.invariant
          ∙ sym (fetch_ranges_more segments index empty (get_or segments index empty) true c.loop-segment-test.true refl (sym c.is_fetchable.ensures ∙ w.if-is_fetchable.true)))
      | else-is_fetchable w ↦ rw w.ranges-is (c.loop-segment.invariant ∙ sym (append-nil (fetch_ranges (take index segments)))
          ∙ sym (fetch_ranges_more segments index empty (get_or segments index empty) false c.loop-segment-test.true refl (sym c.is_fetchable.ensures ∙ w.if-is_fetchable.false)))
    ]
