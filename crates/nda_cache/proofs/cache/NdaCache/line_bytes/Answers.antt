use Rattle.std.proofs.Common.{subst, sym}
use Rattle.conda_base.specs.Lines.{IsLineSize}
use Rattle.nda_cache.proofs.TriedFacts.{IsTried-seen}
use Rattle.nda_cache.proofs.cache.NdaCache.line_bytes.Goals as goal

pub returns-clause-kept : goal.returns-clause-kept
returns-clause-kept c = rw (← c.self.view_is) (IsTried-seen _ _ _ _ _ _ c.self.invariant.0)

pub returns-clause-size : goal.returns-clause-size
returns-clause-size c = subst IsLineSize (sym c.line_bytes.ensures) c.self.invariant.0.size
