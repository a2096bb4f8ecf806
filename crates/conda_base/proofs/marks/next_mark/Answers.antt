use Rattle.std.proofs.Common.{rules, ◌<◌, ◌/◌, ◌^◌, arith}
use Rattle.conda_base.proofs.MarkLemmas.{next_mark_is, no_mark_is}
use Rattle.conda_base.proofs.marks.next_mark.Goals as goal

pub returns-then-rest-eq0 : goal.returns-then-rest-eq0
returns-then-rest-eq0 c = no_mark_is c.args.mask c.args.place c.requires c.ranges.mask.fits c.if-rest-eq0.true

pub returns : goal.returns
returns c =
    let some : 0 < c.args.mask / 2 ^ c.args.place = search rules in
    next_mark_is c.args.mask c.args.place c.ranges.mask.fits (omega (arith, c.requires, c.if-place-eq-MASK_BITS.false)) some
