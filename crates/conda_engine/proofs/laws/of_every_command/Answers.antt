use Rattle.conda_engine.proofs.LawFacts.{is_complete, creates_no_other, opens_no_other}
use Rattle.conda_engine.proofs.laws.of_every_command.Goals as goal

pub returns-clause-complete : goal.returns-clause-complete
returns-clause-complete c = is_complete

pub returns-clause-created : goal.returns-clause-created
returns-clause-created c = creates_no_other

pub returns-clause-opened : goal.returns-clause-opened
returns-clause-opened c = opens_no_other
