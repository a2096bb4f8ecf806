use Rattle.conda_engine.proofs.LawFacts.{drive_done, drive_stopped, drive_fronts, drive_others, drive_unopened, drive_keeps_report}
use Rattle.conda_engine.proofs.laws.of_drive_files.Goals as goal

pub returns-clause-done : goal.returns-clause-done
returns-clause-done c = drive_done

pub returns-clause-stopped : goal.returns-clause-stopped
returns-clause-stopped c = drive_stopped

pub returns-clause-fronts : goal.returns-clause-fronts
returns-clause-fronts c = drive_fronts

pub returns-clause-others : goal.returns-clause-others
returns-clause-others c = drive_others

pub returns-clause-unopened : goal.returns-clause-unopened
returns-clause-unopened c = drive_unopened

pub returns-clause-report : goal.returns-clause-report
returns-clause-report c = drive_keeps_report
