use Rattle.std.proofs.Common.{◌≡◌, ◌∙◌, ap, refl, sym, subst, true, false}
use Rattle.std.proofs.lemmas.Bool.{false≢true}
use Rattle.conda_base.specs.declared.actor.Actor.TheVariants as Actor_is
use Rattle.schedule_log.specs.declared.entry.Entry.TheVariants.{Idle, Held, Waits}
use Rattle.offload_calls.specs.declared.status.Hart.{Hart}
use Rattle.offload_calls.specs.HartAct.{hart_runs}
use Rattle.coherent_mem.specs.Parts.{shown}
use Rattle.std.proofs.Common.{[], Ok, Err}
use Rattle.chip_core.proofs.CallFacts.{call-steps, call-fits, many-statuses}
use Rattle.chip_core.proofs.ReachedFacts.{reached-sound}
use Rattle.std.specs.Prelude.{slice_get}
use Rattle.std.proofs.Math.Path.{fun_ext}
use Rattle.offload_calls.specs.declared.status.HartStatus.TheVariants as Hart_is
use Rattle.chip_core.proofs.HartFacts.{nobody, next-idle, next-held, next-waits, next-step, quiet-turns, step-turns, held-hart, free-hart, waits-call, waits-trap, waits-plain, waiting-at, plan-at, trap-steps, hart-of, same-hart}
use Rattle.chip_core.proofs.harts.hart_event.Goals as goal
use Rattle.chip_config.specs.Settings.{settings}

pub returns-then-not-is_running-clause-turns : goal.returns-then-not-is_running-clause-turns
returns-then-not-is_running-clause-turns c d w reached s at =
    let h = c.args.h in
    quiet-turns d w h c.args.code.now c.args.hart.now (shown c.args.memory.now) c.args.log.now c.args.cores.now (Idle (Actor_is.Hart h)) c.args.out.now.items tt
    c.requires.same.coherent s at
    (next-idle d w h (subst (λ (x : Hart). hart_runs x.status ≡ false) at (sym c.is_running.ensures ∙ c.if-not-is_running.true)))
    c.requires.empty

pub returns-then-held-clause-turns : goal.returns-then-held-clause-turns
returns-then-held-clause-turns c d w reached s at =
    let h = c.args.h in
    quiet-turns d w h c.args.code.now c.args.hart.now (shown c.args.memory.now) c.args.log.now c.args.cores.now (Held (Actor_is.Hart h)) c.args.out.now.items tt
    c.requires.same.coherent s at
    (next-held d w h (subst (λ (x : Hart). hart_runs x.status ≡ true) at (sym c.is_running.ensures ∙ c.if-not-is_running.false))
    (held-hart d c.args.cores.now.lock w h s.lock (c.held.ensures.0 c.if-held.true)))
    c.requires.empty

pub returns-then-waits-clause-turns : goal.returns-then-waits-clause-turns
returns-then-waits-clause-turns c d w reached s at =
    let h = c.args.h in
    let r = c.args.hart.now.regs in
    let see = fun_ext s.cores.statuses in
    let free = free-hart d c.args.cores.now.lock w h s.lock (λ o. false≢true (sym c.if-held.false ∙ c.held.ensures.1 o)) in
    let plan = sym c.plan.ensures.value ∙ c.in-Ok.is in
    let waiting = waits-call c.args.code.now (slice_get c.args.cores.now.statuses.items) r c.in-Ok.planned plan (sym c.is_call.ensures ∙ c.if-is_call.true)
    ∙ sym c.waits.ensures ∙ c.if-waits.true in
    quiet-turns d w h c.args.code.now c.args.hart.now (shown c.args.memory.now) c.args.log.now c.args.cores.now (Waits h) c.args.out.now.items tt
    c.requires.same.coherent s at
    (next-waits d w h (subst (λ (x : Hart). hart_runs x.status ≡ true) at (sym c.is_running.ensures ∙ c.if-not-is_running.false)) free
    (waiting-at d w h c.args.code.now c.args.hart.now (slice_get c.args.cores.now.statuses.items) true s.code_is at see waiting))
    c.requires.empty

pub returns-in-Err-clause-turns : goal.returns-in-Err-clause-turns
returns-in-Err-clause-turns c d w reached s at =
    let h = c.args.h in
    let r = c.args.hart.now.regs in
    let see = fun_ext s.cores.statuses in
    let runs = subst (λ (x : Hart). hart_runs x.status ≡ true) at (sym c.is_running.ensures ∙ c.if-not-is_running.false) in
    let free = free-hart d c.args.cores.now.lock w h s.lock (λ o. false≢true (sym c.if-held.false ∙ c.held.ensures.1 o)) in
    let plan = sym c.plan.ensures.value ∙ c.in-Err.is in
    step-turns d w h c.args.code.now (hart-of r (Hart_is.Trapped c.in-Err.trap)) (shown c.args.memory.now) c.args.log.now c.args.cores.now c.args.out.now.items []
    (next-step d w h runs free
    (waiting-at d w h c.args.code.now c.args.hart.now (slice_get c.args.cores.now.statuses.items) false s.code_is at see
    (waits-trap c.args.code.now (slice_get c.args.cores.now.statuses.items) r c.in-Err.trap plan)))
    c.requires.empty
    (trap-steps d w h c.args.code.now (hart-of r (Hart_is.Trapped c.in-Err.trap)) (shown c.args.memory.now) c.args.log.now c.args.cores.now c.in-Err.trap
    c.requires.same.coherent s runs (plan-at d w h c.args.code.now c.args.hart.now (Err c.in-Err.trap) s.code_is at plan)
    (same-hart (ap (λ (x : Hart). x.regs) at) refl))

pub returns-else-waits-clause-turns : goal.returns-else-waits-clause-turns
returns-else-waits-clause-turns c d w reached s at =
    let h = c.args.h in
    let r = c.args.hart.now.regs in
    let see = fun_ext s.cores.statuses in
    let own = sym c.is_running.ensures ∙ c.if-not-is_running.false in
    let runs = subst (λ (x : Hart). hart_runs x.status ≡ true) at own in
    let free = free-hart d c.args.cores.now.lock w h s.lock (λ o. false≢true (sym c.if-held.false ∙ c.held.ensures.1 o)) in
    let plan = sym c.plan.ensures.value ∙ c.in-Ok.is in
    let is_call = sym c.is_call.ensures ∙ c.if-is_call.true in
    step-turns d w h c.args.code.now c.call.new.hart (shown c.args.memory.now) c.args.log.now c.call.new.cores c.call.new.out.items c.call.new.out.items
    (next-step d w h runs free
    (waiting-at d w h c.args.code.now c.args.hart.now (slice_get c.args.cores.now.statuses.items) false s.code_is at see
    (waits-call c.args.code.now (slice_get c.args.cores.now.statuses.items) r c.in-Ok.planned plan is_call ∙ sym c.waits.ensures ∙ c.if-waits.false)))
    refl
    (call-steps d w h c.args.code.now c.args.hart.now c.call.new.hart (shown c.args.memory.now) c.args.log.now c.args.cores.now c.call.new.cores c.in-Ok.planned c.call.new.out.items
    (reached-sound d w reached) c.requires.same.coherent s at runs (plan-at d w h c.args.code.now c.args.hart.now (Ok c.in-Ok.planned) s.code_is at plan) is_call
    (sym c.waits.ensures ∙ c.if-waits.false) (many-statuses d w c.args.cores.now s) c.call.ensures)

pub returns-in-Ok-2-clause-turns : goal.returns-in-Ok-2-clause-turns
returns-in-Ok-2-clause-turns c d w reached s at =
    let h = c.args.h in
    let r = c.args.hart.now.regs in
    let see = fun_ext s.cores.statuses in
    let own = sym c.is_running.ensures ∙ c.if-not-is_running.false in
    let runs = subst (λ (x : Hart). hart_runs x.status ≡ true) at own in
    let free = free-hart d c.args.cores.now.lock w h s.lock (λ o. false≢true (sym c.if-held.false ∙ c.held.ensures.1 o)) in
    let plan = sym c.plan.ensures.value ∙ c.in-Ok.is in
    step-turns d w h c.args.code.now c.act.new.hart (shown c.act.new.memory) c.act.new.log c.act.new.cores c.args.out.now.items []
    (next-step d w h runs free
    (waiting-at d w h c.args.code.now c.args.hart.now (slice_get c.args.cores.now.statuses.items) false s.code_is at see
    (waits-plain c.args.code.now (slice_get c.args.cores.now.statuses.items) r c.in-Ok.planned plan (sym c.is_call.ensures ∙ c.if-is_call.false))))
    c.requires.empty
    (c.act.ensures.steps d w reached s at own plan)

pub returns-else-waits-clause-cores : goal.returns-else-waits-clause-cores
returns-else-waits-clause-cores c =
    let f = c.requires.cores in
    call-fits c.args.code.now c.args.hart.now c.call.new.hart c.args.cores.now c.call.new.cores c.call.new.out.items
    (f.portions ∙ sym f.statuses) c.call.ensures (settings c.args.config.now)
    (nobody c.args.cores.now.lock.locked c.args.h (λ o. false≢true (sym c.if-held.false ∙ c.held.ensures.1 o))) f

pub returns-in-Ok-2-clause-cores : goal.returns-in-Ok-2-clause-cores
returns-in-Ok-2-clause-cores c =
    c.act.ensures.fits (settings c.args.config.now) (nobody c.args.cores.now.lock.locked c.args.h (λ o. false≢true (sym c.if-held.false ∙ c.held.ensures.1 o))) c.requires.cores
