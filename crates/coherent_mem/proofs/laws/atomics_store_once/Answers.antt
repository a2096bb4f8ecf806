use Rattle.coherent_mem.proofs.AgainFacts.{atomic, stored_again}
use Rattle.coherent_mem.proofs.laws.atomics_store_once.Goals as goal

pub returns : goal.returns
returns c =
    record {
      again = stored_again;
      atomic = λ old mid new h addr bytes is first second. atomic old mid new h addr bytes is.backing first second;
    }
