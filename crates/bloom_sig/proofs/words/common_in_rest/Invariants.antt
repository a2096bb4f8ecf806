use Rattle.std.proofs.Common.{◌≡◌, ◌↔◌}
use Rattle.bloom_sig.specs.Words.{AreDisjoint}
use Rattle.bloom_sig.proofs.words.common_in_rest.Given as goal

abbrev pub invariant-loop-k : goal.invariant-loop-k
invariant-loop-k l = (l.common ≡ 0) ↔ AreDisjoint l.from l.k l.words l.others
