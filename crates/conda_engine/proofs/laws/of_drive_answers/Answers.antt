use Rattle.conda_engine.proofs.LawFacts.{drive_answer, drive_cause, drive_complete, drive_later}
use Rattle.conda_engine.proofs.laws.of_drive_answers.Goals as goal

pub returns-clause-answer : goal.returns-clause-answer
returns-clause-answer c = drive_answer

pub returns-clause-cause : goal.returns-clause-cause
returns-clause-cause c = drive_cause

pub returns-clause-complete : goal.returns-clause-complete
returns-clause-complete c = drive_complete

pub returns-clause-later : goal.returns-clause-later
returns-clause-later c = drive_later
