use Rattle.std.proofs.Common.{take}
use Rattle.schedule_log.proofs.WalkLemmas.{Walks}
use Rattle.schedule_log.proofs.reader.Reader.feed.Given as goal

abbrev pub invariant-loop-index : goal.invariant-loop-index
invariant-loop-index l = Walks l.fn.self (take l.index l.piece) l.self
