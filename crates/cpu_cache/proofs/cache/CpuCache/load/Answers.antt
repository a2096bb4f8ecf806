use Rattle.std.proofs.Common.{sym, ◌∙◌}
use Rattle.cpu_cache.proofs.ViewFacts.{loaded_value, some_loaded}
use Rattle.cpu_cache.proofs.cache.CpuCache.load.Goals as goal

pub unwrap-requires : goal.unwrap-requires
unwrap-requires c = rw c.load_held.ensures.value (some_loaded _ _ _ c.requires.held)

pub returns-clause-value : goal.returns-clause-value
returns-clause-value c = loaded_value _ _ c.unwrap.result _ (sym c.load_held.ensures.value ∙ c.unwrap.ensures)
