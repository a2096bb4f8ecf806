use Rattle.std.proofs.Common.{length, sym, ◌∙◌, arith}
use Rattle.std.proofs.lemmas.Grind.{same_number_lists}
use Rattle.conda_base.proofs.MarkLemmas.{length-mixed, get_or-mixed, IsTurn, is_turn, mixed_turn}
use Rattle.conda_base.proofs.marks.put_marked.Goals as goal

pub loop-place-smaller : goal.loop-place-smaller
loop-place-smaller c =
    let turn : IsTurn c.args.mask c.min-start.result c.min-end.result c.loop-place.place (length c.args.bytes.now) =
    rw (c.min-start.ensures, c.min-end.ensures)
    (is_turn c.args.mask c.loop-place.place (length c.args.bytes.now) c.next_mark.result c.next_mark-in-loop-place.result c.ranges.mask.fits c.requires.room c.loop-place-test.true c.next_mark.ensures
    (rw c.min-start.ensures at c.next_mark-in-loop-place.ensures)) in
    let more = turn.more in
    let within = turn.within in
    omega arith

pub loop-place-preserved : goal.loop-place-preserved
loop-place-preserved c =
    let turn : IsTurn c.args.mask c.min-start.result c.min-end.result c.loop-place.place (length c.args.bytes.now) =
    rw (c.min-start.ensures, c.min-end.ensures)
    (is_turn c.args.mask c.loop-place.place (length c.args.bytes.now) c.next_mark.result c.next_mark-in-loop-place.result c.ranges.mask.fits c.requires.room c.loop-place-test.true c.next_mark.ensures
    (rw c.min-start.ensures at c.next_mark-in-loop-place.ensures)) in
    let more = turn.more in
    record {
      len = c.copy_run.ensures.len ∙ c.loop-place.invariant.len;
      within = turn.within;
      passed = λ k below.
          mixed_turn c.args.mask c.min-start.result c.min-end.result c.loop-place.place (length c.args.bytes.now) k c.args.from.now c.args.bytes.now c.loop-place.bytes c.copy_run.new.bytes
          turn c.copy_run.ensures c.loop-place.invariant.passed c.loop-place.invariant.ahead below;
      ahead = λ k past. c.copy_run.ensures.behind k past ∙ c.loop-place.invariant.ahead k (omega arith);
    }

pub returns : goal.returns
returns c =
    let done = c.loop-place-test.false in
    let len = c.loop-place.invariant.len in
    same_number_lists _ _ (omega (arith, length-mixed c.args.mask c.args.from.now c.args.bytes.now))
    (λ k within.
    c.loop-place.invariant.passed k (omega arith) ∙
    sym (get_or-mixed c.args.mask c.args.from.now c.args.bytes.now k (omega arith)))
