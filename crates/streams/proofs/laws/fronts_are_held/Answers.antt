use Rattle.streams.proofs.FilesFacts.{front_holds}
use Rattle.streams.proofs.laws.fronts_are_held.Goals as goal

pub returns : goal.returns
returns c = front_holds
