use Rattle.coherent_mem.proofs.CoherentFacts.{cache_of, coherent}
use Rattle.coherent_mem.proofs.coherent.Coherent.cache.Goals as goal

pub returns : goal.returns
returns c =
    record {
      cache = rw (← c.self.view_is) (cache_of _ _ _ c.self.invariant.1 (rw (← c.self.view_is) at c.requires) c.index.ensures);
      kept = rw (← c.self.view_is) (coherent _ c.self.invariant.1);
    }
