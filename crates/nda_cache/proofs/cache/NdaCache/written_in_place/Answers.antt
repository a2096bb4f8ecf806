use Rattle.std.proofs.Common.{◌≡◌, Some, ap, sym, subst, ◌∙◌}
use Rattle.std.specs.List.{slice_get}
use Rattle.write_masks.specs.declared.Masked.{Masked}
use Rattle.nda_cache.specs.Tried.{HaveSameMarked}
use Rattle.nda_cache.proofs.TriedFacts.{known_in, IsTried-seen}
use Rattle.nda_cache.proofs.cache.NdaCache.written_in_place.Goals as goal

pub returns-clause-line : goal.returns-clause-line
returns-clause-line c =
    let l = c.in_ok-l.l in
    let got : slice_get c.self.inside.stored.items c.args.place ≡ Some l =
    sym (c.nth_line.ensures ∙ ap (λ es. slice_get es c.args.place) c.deref.ensures.value) ∙ c.in_ok-l.was in
    let P : Masked → Type 0 = λ m. HaveSameMarked c.marked.result.now m in
    rw (← c.self.view_is) (
      got,
      subst P
          (known_in c.self.inside.lines c.self.inside.index l c.unwrap-place.result c.self.invariant.0.is_index (sym c.peek.ensures.value ∙ c.unwrap-place.ensures))
          c.marked.ensures,
    )

pub returns-clause-kept : goal.returns-clause-kept
returns-clause-kept c = rw (← c.self.view_is) (IsTried-seen _ _ _ _ _ _ c.self.invariant.0)

pub returns-in_err-l-clause-kept : goal.returns-in_err-l-clause-kept
returns-in_err-l-clause-kept c = rw (← c.self.view_is) (IsTried-seen _ _ _ _ _ _ c.self.invariant.0)
