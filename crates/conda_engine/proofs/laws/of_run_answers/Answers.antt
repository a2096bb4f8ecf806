use Rattle.conda_engine.proofs.LawFacts.{run_answer, run_cause, run_complete}
use Rattle.conda_engine.proofs.laws.of_run_answers.Goals as goal

pub returns-clause-answer : goal.returns-clause-answer
returns-clause-answer c = run_answer

pub returns-clause-cause : goal.returns-clause-cause
returns-clause-cause c = run_cause

pub returns-clause-complete : goal.returns-clause-complete
returns-clause-complete c = run_complete
