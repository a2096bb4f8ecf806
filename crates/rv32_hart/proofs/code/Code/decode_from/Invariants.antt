use Rattle.std.proofs.Common.{◌≡◌, length}
use Rattle.rv32_hart.specs.Kept.{AreDecoded}
use Rattle.rv32_hart.proofs.code.Code.decode_from.Given as goal

abbrev pub invariant-loop-k : goal.invariant-loop-k
invariant-loop-k l = (length l.kept.items ≡ l.k) × AreDecoded l.self l.first l.kept.items
