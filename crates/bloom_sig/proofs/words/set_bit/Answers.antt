use Rattle.bloom_sig.proofs.WordLemmas.{word_set}
use Rattle.bloom_sig.proofs.words.set_bit.Goals as goal

pub returns : goal.returns
returns c = word_set c.args.words.now c.args.number c.requires
