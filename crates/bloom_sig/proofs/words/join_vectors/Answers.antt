use Rattle.bloom_sig.proofs.VectorLemmas.{joined_next}
use Rattle.std.proofs.Common.{arith}
use Rattle.bloom_sig.proofs.words.join_vectors.Goals as goal

pub loop-i-preserved : goal.loop-i-preserved
loop-i-preserved c =
    joined_next c.loop-i.i c.loop-i.words c.args.others.now c.join_vector.new.words c.args.words.now
    (omega (arith, c.requires.room, c.loop-i.invariant.len)) (omega (arith, c.requires.same, c.loop-i.invariant.len)) c.loop-i.invariant c.join_vector.ensures
