use Rattle.std.proofs.Common.{arith}
use Rattle.bloom_sig.proofs.VectorLemmas.{apart_vector}
use Rattle.bloom_sig.proofs.words.common_in_vector.Goals as goal

pub returns : goal.returns
returns c = apart_vector c.args.at c.args.words.now c.args.others.now c.requires.room (omega (arith, c.requires.same, c.requires.room))
