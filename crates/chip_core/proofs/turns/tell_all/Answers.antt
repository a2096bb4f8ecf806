use Rattle.std.proofs.Common.{refl, ◌≡◌, ◌<◌, ◌∙◌, ap, sym, subst, set, arith, length, Some}
use Rattle.std.specs.Prelude.{slice_get}
use Rattle.std.proofs.lemmas.Option.{slice_get_read}
use Rattle.chip_core.specs.declared.stage.Stage.{Stage}
use Rattle.chip_core.specs.Rulings.{HasBits, joined_portion}
use Rattle.chip_core.proofs.ListFacts.{map-next, map-here}
use Rattle.chip_core.proofs.TurnFacts.{get-at}
use Rattle.chip_core.proofs.turns.tell_all.Goals as goal

pub loop-portion-preserved : goal.loop-portion-preserved
loop-portion-preserved c =
    let i = c.loop-portion.portion-index in
    let f = joined_portion c.args.writes.now in
    let inside : i < length c.loop-portion.portion-items = omega (arith, c.loop-portion-test.true, c.loop-portion.auto.portion-items) in
    ap (λ xs. set xs i c.join_one.new.portion) c.loop-portion.invariant
    ∙ map-next f c.args.portions.now i c.portion-item.result c.join_one.new.portion
    (subst (λ xs. slice_get xs i ≡ Some c.portion-item.result) c.loop-portion.invariant
    (slice_get_read c.loop-portion.portion-items (length c.loop-portion.portion-items) i c.portion-item.result refl inside c.portion-item.is))
    (c.join_one.ensures ∙ ap f (sym c.portion-item.is))

pub join_one-requires : goal.join_one-requires
join_one-requires c =
    let i = c.loop-portion.portion-index in
    let f = joined_portion c.args.writes.now in
    let inside : i < length c.loop-portion.portion-items = omega (arith, c.loop-portion-test.true, c.loop-portion.auto.portion-items) in
    let at : slice_get c.args.portions.now i ≡ Some c.portion-item.result =
    sym (map-here f c.args.portions.now i) ∙ subst (λ xs. slice_get xs i ≡ Some c.portion-item.result) c.loop-portion.invariant
    (slice_get_read c.loop-portion.portion-items (length c.loop-portion.portion-items) i c.portion-item.result refl inside c.portion-item.is) in
    subst (λ (p : Stage). HasBits c.args.writes.now.bits p) (get-at c.args.portions.now i c.portion-item.result c.portion-item.result at ∙ c.portion-item.is)
    (c.requires i c.portion-item.result c.loop-portion-test.true)
