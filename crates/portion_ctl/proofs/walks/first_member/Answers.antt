use Rattle.std.proofs.Common.{ap}
use Rattle.std.specs.Prelude.{find}
use Rattle.line_memory.proofs.WalkLemmas.{dirty_from-zero}
use Rattle.bloom_sig.specs.Signatures.{is_member}
use Rattle.portion_ctl.proofs.walks.first_member.Goals as goal

pub loop-place-init : goal.loop-place-init
loop-place-init g c = ap (λ ls. find (is_member c.args.signature.now) ls) (dirty_from-zero (g.B.Backing.shown c.args.mem.now))
