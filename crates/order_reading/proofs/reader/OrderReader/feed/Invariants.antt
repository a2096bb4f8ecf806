use Rattle.std.proofs.Common.{take}
use Rattle.order_reading.proofs.LineFacts.{Walks}
use Rattle.order_reading.proofs.reader.OrderReader.feed.Given as goal

abbrev pub invariant-loop-index : goal.invariant-loop-index
invariant-loop-index l = Walks l.fn.self (take l.index l.piece) l.self
