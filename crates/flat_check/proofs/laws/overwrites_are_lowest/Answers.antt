use Rattle.flat_check.proofs.LowestFacts.{overwrites_lowest}
use Rattle.flat_check.proofs.laws.overwrites_are_lowest.Goals as goal

pub returns : goal.returns
returns c = overwrites_lowest
