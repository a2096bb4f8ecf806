use Rattle.flat_check.proofs.OrderTextFacts.{texts_are_orders}
use Rattle.flat_check.proofs.laws.accepted_texts_are_orders.Goals as goal

pub returns : goal.returns
returns c = texts_are_orders
