use Rattle.std.proofs.Common.{◌≡◌, length, take, get_or, ◌+◌, sym, ◌∙◌, subst, refl}
use Rattle.std.proofs.lemmas.List.{take_at}
use Rattle.elf_loader.specs.declared.segment.Segment.{Segment}
use Rattle.elf_loader.proofs.FillFacts.{IsFilledBy, filled_more, filled_all}
use Rattle.elf_loader.proofs.memory.fill.Goals as goal

abbrev empty : Segment
empty = record { p_type = 0; p_offset = 0; p_vaddr = 0; p_filesz = 0; p_memsz = 0; p_flags = 0 }

pub loop-segment-preserved : goal.loop-segment-preserved
loop-segment-preserved c =
    let segments = c.args.segments.now in
    let index = c.loop-segment.segment-index in
    let old = c.deref_mut.result.now in
    let new = c.copy_segment.new.memory in
    let within = c.loop-segment-test.true in
    let Filled = IsFilledBy c.args.file.now (take index segments) c.args.base c.args.size in
    let before : Filled old = subst Filled (sym c.deref_mut.ensures.value) c.loop-segment.invariant in
    let long : length new ≡ length old = c.copy_segment.auto.memory in
    subst (IsFilledBy c.args.file.now (take (index + 1) segments) c.args.base c.args.size)
    (sym (take_at new _ c.loop-segment.memory.len (long ∙ c.deref_mut.ensures.len)))
    (filled_more c.args.file.now segments index empty (get_or segments index empty) c.args.base c.args.size old new within refl
    (c.requires.good index empty within) (c.requires.apart index empty within) before long c.copy_segment.ensures)

pub returns : goal.returns
returns c = filled_all c.args.file.now c.args.segments.now c.loop-segment.segment-index c.args.base c.args.size c.loop-segment.memory.items c.loop-segment-test.false c.loop-segment.invariant
