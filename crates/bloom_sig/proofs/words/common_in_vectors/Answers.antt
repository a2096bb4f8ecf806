use Rattle.bloom_sig.proofs.VectorLemmas.{apart_next}
use Rattle.bloom_sig.proofs.words.common_in_vectors.Goals as goal

pub loop-i-preserved : goal.loop-i-preserved
loop-i-preserved c =
    apart_next c.loop-i.common _ c.loop-i.i c.args.words.now c.args.others.now c.loop-i.invariant c.common_in_vector-common.ensures
