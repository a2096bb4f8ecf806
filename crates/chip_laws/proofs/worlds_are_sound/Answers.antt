use Rattle.chip_laws.proofs.worlds_are_sound.Goals as goal
use Rattle.chip_laws.proofs.SoundFacts.{sound}

pub returns : goal.returns
returns c = sound
