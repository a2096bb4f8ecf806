use Rattle.conda_base.proofs.LineLemmas.{access_size_cases}
use Rattle.write_masks.proofs.MarkLemmas.{run_bits}
use Rattle.std.proofs.Common.{◌<◌, arith}
use Rattle.write_masks.proofs.masked.run_mask.Goals as goal

pub returns : goal.returns
returns c =
    let sizes = access_size_cases c.args.size c.requires.size in
    let some : 0 < c.args.size = grind arith in
    let small : c.args.size < 128 = grind arith in
    run_bits c.args.off c.args.size some small c.requires.within
