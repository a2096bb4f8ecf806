use Rattle.std.proofs.Common.{◌∙◌, sym, ap}
use Rattle.std.specs.Prelude.{slice_get}
use Rattle.rv32_hart.specs.Act.{plan_of}
use Rattle.offload_calls.specs.HartAct.{HartEffect}
use Rattle.offload_calls.specs.Stores.{stored_addresses}
use Rattle.flat_check.specs.Acts.{stored_by}
use Rattle.flat_check.proofs.HartFacts.{turn-acts, hart_effect-stores}
use Rattle.flat_check.proofs.acts.hart_turn.Goals as goal

pub returns-clause-stores : goal.returns-clause-stores
returns-clause-stores c =
    ap (λ (e : HartEffect). stored_addresses e.stores)
    (turn-acts c.args.code.now (slice_get c.args.cores.now.items) c.args.memory.now c.args.hart.now (sym c.is_running_hart.ensures ∙ c.if-not-is_running_hart.false)
    (sym c.is_waiting.ensures ∙ c.if-is_waiting.false))
    ∙ hart_effect-stores (slice_get c.args.cores.now.items) c.args.hart.now.regs (plan_of c.args.code.now c.args.hart.now.regs) _
    ∙ ap stored_by (sym c.hart_act.ensures.access)
