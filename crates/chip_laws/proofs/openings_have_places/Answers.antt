use Rattle.chip_laws.proofs.openings_have_places.Goals as goal
use Rattle.chip_laws.proofs.PlaceFacts.{openings}

pub returns : goal.returns
returns c = openings
