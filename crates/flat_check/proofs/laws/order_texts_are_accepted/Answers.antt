use Rattle.flat_check.proofs.OrderTextFacts.{orders_are_accepted}
use Rattle.flat_check.proofs.laws.order_texts_are_accepted.Goals as goal

pub returns : goal.returns
returns c = orders_are_accepted
