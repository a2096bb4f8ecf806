use Rattle.std.proofs.Common.{arith}
use Rattle.bloom_sig.proofs.VectorLemmas.{apart-append, share_a_bit-from}
use Rattle.bloom_sig.proofs.words.share_a_bit.Goals as goal

pub returns : goal.returns
returns c =
    share_a_bit-from _ c.args.words.now c.args.others.now (λ k. (c.type_inv.words k).fits)
    (apart-append _ _ 0 _ _ c.args.words.now c.args.others.now (omega arith) (omega arith) c.common_in_vectors-in_vectors.ensures c.common_in_rest-in_rest.ensures)
