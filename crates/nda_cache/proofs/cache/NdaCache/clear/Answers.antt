use Rattle.std.proofs.Common.{[], refl}
use Rattle.nda_cache.proofs.TriedFacts.{IsTried-seen, IsTried-empty}
use Rattle.nda_cache.proofs.cache.NdaCache.clear.Goals as goal

pub returns-clause-kept : goal.returns-clause-kept
returns-clause-kept c =
    rw c.clear-2.ensures
    (IsTried-empty _ (IsTried-seen _ _ _ _ _ _ c.self.invariant.0) [] c.clear-3.new.self.items refl c.clear-3.ensures.items)
