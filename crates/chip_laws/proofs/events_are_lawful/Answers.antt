use Rattle.chip_laws.proofs.events_are_lawful.Goals as goal
use Rattle.chip_laws.proofs.LawfulFacts.{lawful}

pub returns : goal.returns
returns c = lawful
