use Rattle.try_runs.proofs.laws.tries_are_never_idle.Goals as goal
use Rattle.try_runs.proofs.TryFacts.{try_run-status}

pub returns : goal.returns
returns c = try_run-status
