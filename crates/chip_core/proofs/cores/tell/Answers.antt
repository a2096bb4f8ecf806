use Rattle.std.proofs.Common.{refl, ◌≡◌, ◌∷◌, [], ◌<◌, ◌∙◌, ap, sym, subst, set, arith, length, Some}
use Rattle.std.specs.Prelude.{slice_get}
use Rattle.std.proofs.lemmas.Option.{slice_get_read}
use Rattle.chip_core.specs.Steps.{told_portion}
use Rattle.chip_core.proofs.ListFacts.{map-next}
use Rattle.chip_core.proofs.cores.tell.Goals as goal

pub loop-portion-preserved : goal.loop-portion-preserved
loop-portion-preserved c =
    let i = c.loop-portion.portion-index in
    let f = told_portion (c.args.l ∷ []) in
    let inside : i < length c.loop-portion.portion-items = omega (arith, c.loop-portion-test.true, c.loop-portion.auto.portion-items) in
    ap (λ xs. set xs i c.tell_one.new.portion) c.loop-portion.invariant
    ∙ map-next f c.args.portions.now i c.portion-item.result c.tell_one.new.portion
    (subst (λ xs. slice_get xs i ≡ Some c.portion-item.result) c.loop-portion.invariant
    (slice_get_read c.loop-portion.portion-items (length c.loop-portion.portion-items) i c.portion-item.result refl inside c.portion-item.is))
    (c.tell_one.ensures ∙ ap f (sym c.portion-item.is))
