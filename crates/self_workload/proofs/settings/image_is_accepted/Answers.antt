use Rattle.self_workload.proofs.WordFacts.{is_accepted}
use Rattle.self_workload.proofs.settings.image_is_accepted.Goals as goal

pub returns : goal.returns
returns c = is_accepted c.args.seed
