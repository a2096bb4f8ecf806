use Rattle.schedule_log.proofs.ActorLemmas.{finds_on}
use Rattle.schedule_log.proofs.laws.actors_are_on_chip.Goals as goal

pub returns : goal.returns
returns c = finds_on
