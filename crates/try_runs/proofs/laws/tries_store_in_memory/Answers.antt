use Rattle.try_runs.proofs.laws.tries_store_in_memory.Goals as goal
use Rattle.try_runs.proofs.TryFacts.{try_run-inside}

pub returns : goal.returns
returns c = try_run-inside
