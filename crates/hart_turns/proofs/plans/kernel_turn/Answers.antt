use Rattle.std.proofs.Common.{◌∙◌, sym, refl}
use Rattle.hart_turns.specs.Plans.{core_with}
use Rattle.hart_turns.proofs.PlanFacts.{kernel-over-trap, kernel-over-call}
use Rattle.hart_turns.proofs.plans.kernel_turn.Goals as goal

pub returns-in-Err-clause-takes : goal.returns-in-Err-clause-takes
returns-in-Err-clause-takes c =
    kernel-over-trap c.args.code.now c.args.regs.now _ c.args.out.now.items c.in-Err.trap
    (sym c.plan.ensures.value ∙ c.in-Err.is) refl c.requires.empty

pub returns-in-Ok-clause-takes : goal.returns-in-Ok-clause-takes
returns-in-Ok-clause-takes c =
    kernel-over-call c.args.code.now c.args.regs.now (core_with c.kernel_call.new.regs c.kernel_call.new.status)
    c.kernel_call.new.out.items c.in-Ok.planned
    (sym c.plan.ensures.value ∙ c.in-Ok.is) (sym c.is_call.ensures ∙ c.if-is_call.true) c.kernel_call.ensures.makes
