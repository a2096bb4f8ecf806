use Rattle.std.proofs.Common.{arith}
use Rattle.bloom_sig.proofs.VectorLemmas.{apart-append, apart_word}
use Rattle.bloom_sig.proofs.words.common_in_rest.Goals as goal

pub loop-k-preserved : goal.loop-k-preserved
loop-k-preserved c =
    apart-append _ _ c.args.from c.loop-k.k _ c.args.words.now c.args.others.now c.loop-k.auto.k (omega arith) c.loop-k.invariant
    (apart_word c.loop-k.k c.args.words.now c.args.others.now)
