use Rattle.std.proofs.Common.{ap, ◌∙◌}
use Rattle.line_memory.specs.Backing.{dirty_in}
use Rattle.bloom_sig.specs.Signatures.{Sets}
use Rattle.portion_ctl.proofs.WalkFacts.{all_inserted-bits}
use Rattle.portion_ctl.proofs.walks.open_memory.Goals as goal

pub returns-else-locked-clause-bits : goal.returns-else-locked-clause-bits
returns-else-locked-clause-bits g c =
    ap (λ (s : Sets). s.bits) c.insert_dirty.ensures.lines ∙ all_inserted-bits c.args.signature.now (dirty_in (g.B.Backing.shown c.args.mem.now))
