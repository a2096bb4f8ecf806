use Rattle.std.proofs.Common.{◌≡◌, sym, ap, ◌∙◌, refl}
use Rattle.std.specs.Option.{is_some}
use Rattle.set_assoc.specs.Entries.{lookup}
use Rattle.set_assoc.specs.SetLists.{find}
use Rattle.nda_cache.proofs.TriedFacts.{there_of, IsTried-seen}
use Rattle.nda_cache.proofs.cache.NdaCache.is_there.Goals as goal

pub returns-clause-there : goal.returns-clause-there
returns-clause-there c =
    let same : c.is_some.result ≡ is_some (lookup c.args.l c.self.inside.lines.lines) =
    c.is_some.ensures ∙ ap is_some c.peek.ensures.value ∙
    sym (there_of c.self.inside.index c.self.inside.lines.lines c.args.l (find c.self.inside.index c.args.l) c.self.invariant.0.is_index refl) in
    rw (← c.self.view_is) (λ on. sym same ∙ on, λ there. same ∙ there)

pub returns-clause-kept : goal.returns-clause-kept
returns-clause-kept c = rw (← c.self.view_is) (IsTried-seen _ _ _ _ _ _ c.self.invariant.0)
