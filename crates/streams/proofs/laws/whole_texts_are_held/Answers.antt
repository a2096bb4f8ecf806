use Rattle.streams.proofs.FilesFacts.{whole_holds}
use Rattle.streams.proofs.laws.whole_texts_are_held.Goals as goal

pub returns : goal.returns
returns c = whole_holds
