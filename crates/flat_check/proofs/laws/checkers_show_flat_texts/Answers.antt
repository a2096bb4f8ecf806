use Rattle.flat_check.proofs.ShownFacts.{checkers_show}
use Rattle.flat_check.proofs.laws.checkers_show_flat_texts.Goals as goal

pub returns : goal.returns
returns c = checkers_show
