use Rattle.chip_laws.proofs.rollbacks_are_counted.Goals as goal
use Rattle.chip_laws.proofs.RollbackFacts.{rollbacks}

pub returns : goal.returns
returns c = rollbacks
