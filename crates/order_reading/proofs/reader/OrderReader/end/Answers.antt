use Rattle.std.proofs.Common.{◌≡◌, ◌<◌, length, true, false, refl, sym, ◌∙◌, arith}
use Rattle.std.proofs.lemmas.Bool.Decides.{nat_tests}
use Rattle.order_reading.proofs.LineFacts.{end_bad}
use Rattle.order_reading.proofs.reader.OrderReader.end.Goals.{then-self, else-self}
use Rattle.order_reading.proofs.reader.OrderReader.end.Goals as goal

pub returns-then-not-is_empty : goal.returns-then-not-is_empty
returns-then-not-is_empty c =
    let r = c.self.inside in
    rw (← c.self.view_is) (
      refl,
      refl,
      λ good.
          elim c.if-self.branch [
            | then-self w ↦ let never : true ≡ false = sym w.if-self.true ∙ good in absurd (cc)
            | else-self w ↦
                let some : 0 < length r.begun.items = grind (arith, nat_tests) in
                end_bad (record { ended = r.ended; begun = r.begun.items; bad = r.bad }) c.self.invariant.0.no_feed some
          ],
    )
