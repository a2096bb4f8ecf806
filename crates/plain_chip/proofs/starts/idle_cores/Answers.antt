use Rattle.std.proofs.Common.{◌++◌, ◌∷◌, [], ◌∙◌, ap}
use Rattle.offload_calls.specs.declared.status.CoreStatus.TheVariants as Core_is
use Rattle.plain_chip.proofs.EventFacts.{replicate-more}
use Rattle.plain_chip.proofs.starts.idle_cores.Goals as goal

pub loop-j-preserved : goal.loop-j-preserved
loop-j-preserved c = c.push.ensures.items ∙ ap (λ xs. xs ++ Core_is.Idle ∷ []) c.loop-j.invariant
    ∙ replicate-more c.loop-j.j Core_is.Idle
