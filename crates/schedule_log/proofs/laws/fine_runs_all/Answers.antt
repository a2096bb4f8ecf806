use Rattle.schedule_log.proofs.LawLemmas.{fine_runs_every}
use Rattle.schedule_log.proofs.laws.fine_runs_all.Goals as goal

pub returns : goal.returns
returns c = fine_runs_every
