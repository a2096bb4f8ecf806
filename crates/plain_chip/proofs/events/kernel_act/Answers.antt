use Rattle.coherent_mem.specs.Parts.{shown}
use Rattle.hart_turns.specs.Plans.{core_with}
use Rattle.hart_turns.specs.Flat.{traced}
use Rattle.plain_chip.proofs.EventFacts.{kernel-over-event, kernel-acts-event}
use Rattle.std.proofs.Common.{◌≡◌, subst, sym, ap, ◌∙◌, true}
use Rattle.offload_calls.specs.declared.status.Core.{Core}
use Rattle.offload_calls.specs.CoreActs.{core_runs}
use Rattle.hart_turns.specs.Plans.{IsToBeMade}
use Rattle.plain_chip.proofs.events.kernel_act.Goals as goal

pub returns-in-Some-clause-event : goal.returns-in-Some-clause-event
returns-in-Some-clause-event c s f j code_is bytes at =
    let t = c.in-Some.ensures.takes in
    let was : Core = core_with c.kernel_turn.new.regs c.kernel_turn.new.status in
    kernel-acts-event s f j c.args.holder c.args.code.now (traced (shown c.args.memory.now) c.args.log.now)
    (traced (shown c.act.new.memory) c.act.new.log)
    was c.act.new.regs c.in-Some.planned c.kernel_turn.new.out.items code_is bytes (t.1 ∙ at)
    (ap (λ (x : Core). core_runs x.status) t.1 ∙ c.requires.runs)
    (subst (λ (x : Core). IsToBeMade c.args.code.now x.regs c.in-Some.planned) (sym t.1) t.0)
    c.act.ensures.regs c.act.ensures.memory c.act.ensures.notes t.2

pub returns-in-None-clause-event : goal.returns-in-None-clause-event
returns-in-None-clause-event c s f j code_is bytes at =
    kernel-over-event s f j c.args.holder c.args.code.now (traced (shown c.args.memory.now) c.args.log.now)
    (core_with c.args.regs.now c.args.status.now) (core_with c.kernel_turn.new.regs c.kernel_turn.new.status)
    c.kernel_turn.new.out.items
    c.requires.same.coherent.backing code_is bytes at c.requires.runs c.in-None.ensures.takes
