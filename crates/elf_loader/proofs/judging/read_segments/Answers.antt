use Rattle.std.proofs.Common.{◌≡◌, length, ap, ◌∙◌, arith}
use Rattle.std.proofs.lemmas.List.FromFn.{length-map-range_with_len}
use Rattle.elf_loader.proofs.SegmentFacts.{segments_more}
use Rattle.elf_loader.proofs.judging.read_segments.Goals as goal

pub push-requires : goal.push-requires
push-requires c =
    let long : length c.loop-number.segments.items ≡ c.loop-number.number =
    ap length c.loop-number.invariant ∙ length-map-range_with_len _ 0 c.loop-number.number in
    (omega arith, omega arith)

pub loop-number-preserved : goal.loop-number-preserved
loop-number-preserved c =
    segments_more c.args.file.now c.args.first c.loop-number.number c.loop-number.segments.items c.push.new.self.items c.read.result
    c.loop-number.invariant c.read.ensures c.push.ensures.items
