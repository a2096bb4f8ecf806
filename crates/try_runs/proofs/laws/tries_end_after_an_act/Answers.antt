use Rattle.try_runs.proofs.laws.tries_end_after_an_act.Goals as goal
use Rattle.try_runs.proofs.EndFacts.{ends_after_an_act}

pub returns : goal.returns
returns c = ends_after_an_act
