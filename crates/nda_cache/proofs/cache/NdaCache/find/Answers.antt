use Rattle.std.proofs.Common.{sym}
use Rattle.nda_cache.proofs.TriedFacts.{found_some, found_none, IsTried-seen}
use Rattle.nda_cache.proofs.cache.NdaCache.find.Goals as goal

pub returns-in-Some-clause-found : goal.returns-in-Some-clause-found
returns-in-Some-clause-found c =
    rw (← c.self.view_is) (found_some _ _ _ _ _ _ c.args.l c.in-Some.place c.self.invariant.0 (sym c.in-Some.ensures.value))

pub returns-in-Some-clause-kept : goal.returns-in-Some-clause-kept
returns-in-Some-clause-kept c = rw (← c.self.view_is) (IsTried-seen _ _ _ _ _ _ c.self.invariant.0)

pub returns-in-None-clause-found : goal.returns-in-None-clause-found
returns-in-None-clause-found c =
    rw (← c.self.view_is) (found_none _ _ _ _ _ _ c.args.l c.self.invariant.0 (sym c.in-None.ensures.value))

pub returns-in-None-clause-kept : goal.returns-in-None-clause-kept
returns-in-None-clause-kept c = rw (← c.self.view_is) (IsTried-seen _ _ _ _ _ _ c.self.invariant.0)
