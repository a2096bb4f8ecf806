use Rattle.std.proofs.Common.{◌<◌, ◌+◌, sym, subst, length, List}
use Rattle.flat_check.specs.Marks.{Marked}
use Rattle.flat_check.specs.Portions.{FitsImage, MarksToo, no_marked}
use Rattle.flat_check.proofs.MarkFacts.{any_default}
use Rattle.flat_check.proofs.TryFacts.{MarkedTo, marked-next, marked-past}
use Rattle.flat_check.proofs.portions.mark_beside.Goals as goal
use Rattle.flat_check.proofs.portions.mark_beside.Goals.{then-k-j, else-k-j}

pub mark_access-requires-clause-marks : goal.mark_access-requires-clause-marks
mark_access-requires-clause-marks c =
    let inside : c.loop-k.k < length c.loop-k.marks = subst (λ n. c.loop-k.k < n) (sym c.loop-k.auto.marks) c.loop-k-test.true in
    subst (λ (m : Marked). FitsImage m c.args.code.now) (any_default c.loop-k.marks c.loop-k.k no_marked c.index-marks-k.result inside) (c.loop-k.invariant.fit c.loop-k.k inside)

pub loop-k-preserved : goal.loop-k-preserved
loop-k-preserved c =
    elim c.if-k-j.branch [
      | then-k-j w ↦
          let inside : c.loop-k.k < length c.loop-k.marks = subst (λ n. c.loop-k.k < n) (sym c.loop-k.auto.marks) c.loop-k-test.true in
          subst (λ (ms : List Marked). MarkedTo c.args.marks.now ms c.args.code.now c.args.j (c.loop-k.k + 1) c.args.access) (sym w.marks-is)
          (marked-next c.args.marks.now c.loop-k.marks c.args.code.now c.args.j c.loop-k.k c.args.access w.mark_access.new.marks c.loop-k.invariant c.loop-k-test.true w.if-k-j.true
          (subst (λ (m : Marked). MarksToo m w.mark_access.new.marks c.args.code.now.base c.args.access)
          (any_default c.loop-k.marks c.loop-k.k w.index-marks-k.result no_marked inside) w.mark_access.ensures.marks)
          w.mark_access.ensures.kept)
      | else-k-j w ↦
          subst (λ (ms : List Marked). MarkedTo c.args.marks.now ms c.args.code.now c.args.j (c.loop-k.k + 1) c.args.access) (sym w.marks-is)
          (marked-past c.args.marks.now c.loop-k.marks c.args.code.now c.args.j c.loop-k.k c.args.access c.loop-k.invariant w.if-k-j.false)
    ]
