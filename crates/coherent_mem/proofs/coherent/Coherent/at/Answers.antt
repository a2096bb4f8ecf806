use Rattle.coherent_mem.proofs.CoherentFacts.{coherent}
use Rattle.coherent_mem.proofs.coherent.Coherent.at.Goals as goal

pub returns-clause-kept : goal.returns-clause-kept
returns-clause-kept c = rw (← c.self.view_is) (coherent _ c.self.invariant.1)
