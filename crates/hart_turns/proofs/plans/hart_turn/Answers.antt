use Rattle.std.proofs.Common.{◌∙◌, sym, refl, slice_get}
use Rattle.hart_turns.specs.Plans.{beside}
use Rattle.hart_turns.proofs.PlanFacts.{waits-call, over-trap, over-call}
use Rattle.hart_turns.proofs.plans.hart_turn.Goals as goal

pub returns-then-waits-clause-takes : goal.returns-then-waits-clause-takes
returns-then-waits-clause-takes c =
    let plan = sym c.plan.ensures.value ∙ c.in-Ok.is in (
      waits-call c.args.code.now (slice_get c.args.statuses.now.items) c.args.hart.now.regs c.in-Ok.planned plan
          (sym c.is_call.ensures ∙ c.if-is_call.true)
          ∙ sym c.waits.ensures ∙ c.if-waits.true,
      record { same = refl; none = c.requires.empty },
    )

pub returns-in-Err-clause-takes : goal.returns-in-Err-clause-takes
returns-in-Err-clause-takes c =
    over-trap c.args.code.now (beside c.args.hart.now c.args.statuses.now.items) _ c.args.out.now.items c.in-Err.trap
    (sym c.plan.ensures.value ∙ c.in-Err.is) refl c.requires.empty

pub returns-else-waits-clause-takes : goal.returns-else-waits-clause-takes
returns-else-waits-clause-takes c =
    over-call c.args.code.now (beside c.args.hart.now c.args.statuses.now.items)
    (beside c.hart_call.new.hart c.hart_call.new.statuses.items) c.hart_call.result c.hart_call.new.out.items
    c.in-Ok.planned
    (sym c.plan.ensures.value ∙ c.in-Ok.is) (sym c.is_call.ensures ∙ c.if-is_call.true)
    (sym c.waits.ensures ∙ c.if-waits.false) c.hart_call.ensures.makes
