use Rattle.bloom_sig.proofs.PlaceLemmas.{fill-most}
use Rattle.bloom_sig.proofs.signature.Signature.fill.Goals as goal

pub returns-clause-most : goal.returns-clause-most
returns-clause-most c = fill-most _ _ _ _ _ _ c.self.invariant
