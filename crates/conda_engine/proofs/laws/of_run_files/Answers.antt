use Rattle.conda_engine.proofs.LawFacts.{run_done, run_stopped, run_fronts, run_others}
use Rattle.conda_engine.proofs.laws.of_run_files.Goals as goal

pub returns-clause-done : goal.returns-clause-done
returns-clause-done c = run_done

pub returns-clause-stopped : goal.returns-clause-stopped
returns-clause-stopped c = run_stopped

pub returns-clause-fronts : goal.returns-clause-fronts
returns-clause-fronts c = run_fronts

pub returns-clause-others : goal.returns-clause-others
returns-clause-others c = run_others
