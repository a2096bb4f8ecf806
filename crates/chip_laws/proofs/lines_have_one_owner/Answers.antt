use Rattle.chip_laws.proofs.lines_have_one_owner.Goals as goal
use Rattle.chip_laws.proofs.SoundFacts.{owners}

pub returns : goal.returns
returns c = owners
