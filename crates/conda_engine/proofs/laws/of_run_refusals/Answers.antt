use Rattle.conda_engine.proofs.LawFacts.{run_unmade, run_unread, run_unopened, run_keeps_report}
use Rattle.conda_engine.proofs.laws.of_run_refusals.Goals as goal

pub returns-clause-unmade : goal.returns-clause-unmade
returns-clause-unmade c = run_unmade

pub returns-clause-unread : goal.returns-clause-unread
returns-clause-unread c = run_unread

pub returns-clause-unopened : goal.returns-clause-unopened
returns-clause-unopened c = run_unopened

pub returns-clause-report : goal.returns-clause-report
returns-clause-report c = run_keeps_report
