use Rattle.chip_laws.proofs.ends_have_openings.Goals as goal
use Rattle.chip_laws.proofs.PlaceFacts.{all_ends}

pub returns : goal.returns
returns c = all_ends
