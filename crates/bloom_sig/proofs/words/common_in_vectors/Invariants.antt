use Rattle.std.proofs.Common.{◌≡◌, ◌↔◌, ◌*◌}
use Rattle.bloom_sig.specs.Words.{AreDisjoint}
use Rattle.bloom_sig.proofs.words.common_in_vectors.Given as goal

abbrev pub invariant-loop-i : goal.invariant-loop-i
invariant-loop-i l = (l.common ≡ 0) ↔ AreDisjoint 0 (l.i * 4) l.words l.others
