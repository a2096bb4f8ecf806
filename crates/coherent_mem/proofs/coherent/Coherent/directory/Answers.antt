use Rattle.coherent_mem.proofs.CoherentFacts.{coherent, directory_of}
use Rattle.coherent_mem.proofs.coherent.Coherent.directory.Goals as goal

pub returns : goal.returns
returns c =
    record {
      directory = rw (← c.self.view_is) (directory_of _ c.self.invariant.1);
      kept = rw (← c.self.view_is) (coherent _ c.self.invariant.1);
    }
