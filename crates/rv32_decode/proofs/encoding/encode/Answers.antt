use Rattle.std.proofs.Common.{ap, ◌∙◌}
use Rattle.rv32_decode.specs.Encoding.{encoded}
use Rattle.rv32_decode.proofs.RoundTrip.{decoded-encoded, encoded-fence}
use Rattle.rv32_decode.proofs.encoding.encode.Goals as goal

pub returns-clause-decodes : goal.returns-clause-decodes
returns-clause-decodes c = rw c.by_format.ensures (decoded-encoded c.args.i c.requires)

pub returns-clause-fence : goal.returns-clause-fence
returns-clause-fence c = λ e. c.by_format.ensures ∙ (ap encoded e ∙ encoded-fence)
