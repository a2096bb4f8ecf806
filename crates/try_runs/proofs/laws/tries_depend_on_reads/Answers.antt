use Rattle.try_runs.proofs.laws.tries_depend_on_reads.Goals as goal
use Rattle.try_runs.proofs.TryFacts.{try_run-depends}

pub returns : goal.returns
returns c = try_run-depends
