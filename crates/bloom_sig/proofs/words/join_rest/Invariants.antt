use Rattle.bloom_sig.specs.Words.{AreJoined}
use Rattle.bloom_sig.proofs.words.join_rest.Given as goal

abbrev pub invariant-loop-k : goal.invariant-loop-k
invariant-loop-k l = AreJoined l.from l.k l.initial.words l.others l.words
