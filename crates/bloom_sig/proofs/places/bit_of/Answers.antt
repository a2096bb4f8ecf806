use Rattle.bloom_sig.proofs.SegmentLemmas.{high_bits_below}
use Rattle.std.proofs.Common.{◌*◌}
use Rattle.bloom_sig.proofs.places.bit_of.Goals as goal

pub returns-clause-within : goal.returns-clause-within
returns-clause-within c = high_bits_below (c.args.line.0 * c.args.constant) c.args.bits c.requires.few
