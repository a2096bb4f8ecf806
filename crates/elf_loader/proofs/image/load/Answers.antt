use Rattle.std.proofs.Common.{length, ap, ◌∙◌, refl, arith}
use Rattle.std.proofs.lemmas.Result.{err_from_is_err_and}
use Rattle.elf_loader.proofs.RefusalFacts.{never_memory}
use Rattle.elf_loader.proofs.LoadedFacts.{length_made, ranges_made, image_made}
use Rattle.elf_loader.proofs.image.load.Goals as goal

pub returns-in_err-accepted-clause-out_of_memory : goal.returns-in_err-accepted-clause-out_of_memory
returns-in_err-accepted-clause-out_of_memory c =
    let p = err_from_is_err_and c.from_residual.result c.from_residual.ensures.1 in
    rw (p.1, p.2) (never_memory c.args.bytes.now c.args.base c.args.size c.in_err-accepted.field-0.0 c.in_err-accepted.ensures.verdict)

pub new-requires-clause-room : goal.new-requires-clause-room
new-requires-clause-room c =
    let long = length_made c.args.bytes.now c.in_ok-memory.memory.items c.args.base c.args.size c.in_ok-memory.memory.len c.as_slice-segments.result.now c.in_ok-memory.memory.ok.0 c.in_ok-memory.ensures in
    omega arith

pub new-requires-clause-ranges : goal.new-requires-clause-ranges
new-requires-clause-ranges c =
    let long = length_made c.args.bytes.now c.in_ok-memory.memory.items c.args.base c.args.size c.in_ok-memory.memory.len c.as_slice-segments.result.now c.in_ok-memory.memory.ok.0 c.in_ok-memory.ensures in
    ranges_made c.args.bytes.now c.args.base c.args.size c.in_ok-memory.memory.len c.as_slice-segments.result.now c.in_ok-accepted.accepted.segments.items
    c.fetch_ranges-ranges.result.items c.in_ok-accepted.ensures.loadable c.as_slice-segments.ensures.value long c.fetch_ranges-ranges.ensures

pub returns-clause-image : goal.returns-clause-image
returns-clause-image c =
    image_made c.args.bytes.now c.in_ok-memory.memory.items c.args.base c.args.size c.in_ok-accepted.accepted.entry c.as_slice-segments.result.now
    c.fetch_ranges-ranges.result.items c.new.result c.in_ok-accepted.ensures.entry (c.as_slice-segments.ensures.value ∙ c.in_ok-accepted.ensures.segments)
    c.in_ok-memory.ensures c.fetch_ranges-ranges.ensures c.new.ensures

pub returns-clause-size : goal.returns-clause-size
returns-clause-size c =
    ap (λ v. length v.bytes) c.new.ensures ∙ length_made c.args.bytes.now c.in_ok-memory.memory.items c.args.base c.args.size (length c.in_ok-memory.memory.items) c.as_slice-segments.result.now refl c.in_ok-memory.ensures
