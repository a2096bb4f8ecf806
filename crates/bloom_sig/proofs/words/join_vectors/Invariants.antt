use Rattle.std.proofs.Common.{◌*◌}
use Rattle.bloom_sig.specs.Words.{AreJoined}
use Rattle.bloom_sig.proofs.words.join_vectors.Given as goal

abbrev pub invariant-loop-i : goal.invariant-loop-i
invariant-loop-i l = AreJoined 0 (l.i * 4) l.initial.words l.others l.words
