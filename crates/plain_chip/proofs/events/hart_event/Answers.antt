use Rattle.std.proofs.Common.{◌≡◌, ◌∙◌, sym, ap, subst, refl, true, false, set, [], None, Some, List, ℕ}
use Rattle.std.specs.Vec.{with_items}
use Rattle.std.proofs.lemmas.List.{with_items_is}
use Rattle.conda_base.specs.declared.actor.Actor.TheVariants as Actor_is
use Rattle.schedule_log.specs.declared.entry.Entry.TheVariants.{Idle, Held, Waits}
use Rattle.coherent_mem.specs.Parts.{shown}
use Rattle.offload_calls.specs.State.{launched_core}
use Rattle.offload_calls.specs.HartAct.{hart_runs}
use Rattle.hart_turns.specs.Plans.{Beside, beside, IsToBeMade}
use Rattle.hart_turns.specs.Flat.{traced, HartStepped, ShowsHart}
use Rattle.hart_turns.proofs.FlatFacts.{hart-over, hart-acts}
use Rattle.plain_chip.proofs.EventFacts.{still-event, entry-idle, entry-held, entry-waits, step-event, waits-at, runs-at, unmoved-shows}
use Rattle.plain_chip.proofs.events.hart_event.Goals as goal

pub returns-then-not-is_running-clause-event : goal.returns-then-not-is_running-clause-event
returns-then-not-is_running-clause-event c s f code_is bytes shows cores =
    let h = c.args.h in
    still-event s f h c.args.held (traced (shown c.args.memory.now) c.args.log.now)
    (beside c.args.hart.now c.args.statuses.now.items) c.args.regs.now.items
    (Idle (Actor_is.Hart h)) c.args.out.now.items c.requires.same.coherent.backing bytes shows cores c.requires.empty tt
    (entry-idle s f h c.args.held
    (runs-at s f h (beside c.args.hart.now c.args.statuses.now.items) false shows
    (sym c.is_running.ensures ∙ c.if-not-is_running.true)))

pub returns-then-held-clause-event : goal.returns-then-held-clause-event
returns-then-held-clause-event c s f code_is bytes shows cores =
    let h = c.args.h in
    still-event s f h c.args.held (traced (shown c.args.memory.now) c.args.log.now)
    (beside c.args.hart.now c.args.statuses.now.items) c.args.regs.now.items
    (Held (Actor_is.Hart h)) c.args.out.now.items c.requires.same.coherent.backing bytes shows cores c.requires.empty tt
    (entry-held s f h c.args.held
    (runs-at s f h (beside c.args.hart.now c.args.statuses.now.items) true shows
    (sym c.is_running.ensures ∙ c.if-not-is_running.false)) c.if-held.true)

pub returns-in-Waits-clause-event : goal.returns-in-Waits-clause-event
returns-in-Waits-clause-event c s f code_is bytes shows cores =
    let h = c.args.h in
    let t = c.in-Waits.ensures.takes in
    let old : Beside = beside c.args.hart.now c.args.statuses.now.items in
    let new : Beside = beside c.hart_turn.new.hart c.hart_turn.new.statuses.items in
    still-event s f h c.args.held (traced (shown c.args.memory.now) c.args.log.now) new c.args.regs.now.items
    (Waits h) c.hart_turn.new.out.items c.requires.same.coherent.backing bytes
    (unmoved-shows s f h old new t.1.same shows) cores t.1.none tt
    (entry-waits s f h c.args.held
    (runs-at s f h old true shows (sym c.is_running.ensures ∙ c.if-not-is_running.false)) c.if-held.false
    (waits-at s f h c.args.code.now old true code_is shows t.0))

pub returns-in-Over-None-clause-event : goal.returns-in-Over-None-clause-event
returns-in-Over-None-clause-event c s f code_is bytes shows cores =
    let h = c.args.h in
    let old : Beside = beside c.args.hart.now c.args.statuses.now.items in
    let new : Beside = beside c.hart_turn.new.hart c.hart_turn.new.statuses.items in
    let x = traced (shown c.args.memory.now) c.args.log.now in
    let own = sym c.is_running.ensures ∙ c.if-not-is_running.false in
    step-event s f h c.args.held x x new c.args.regs.now.items c.args.regs.now.items None c.hart_turn.new.out.items
    (runs-at s f h old true shows own) c.if-held.false cores
    (hart-over s f h c.args.code.now x old new None c.hart_turn.new.out.items code_is bytes shows
    c.requires.same.coherent.backing own
    (rw c.in-Over-None.field-0-is at c.in-Over-None.ensures.takes)) refl

pub returns-in-Over-Some-clause-event : goal.returns-in-Over-Some-clause-event
returns-in-Over-Some-clause-event c s f code_is bytes shows cores =
    let h = c.args.h in
    let l = c.in-Over-Some.launch in
    let old : Beside = beside c.args.hart.now c.args.statuses.now.items in
    let new : Beside = beside c.hart_turn.new.hart c.hart_turn.new.statuses.items in
    let x = traced (shown c.args.memory.now) c.args.log.now in
    let own = sym c.is_running.ensures ∙ c.if-not-is_running.false in
    step-event s f h c.args.held x x new c.args.regs.now.items (with_items c.args.regs.now c.start.new.regs).items
    (Some l) c.hart_turn.new.out.items
    (runs-at s f h old true shows own) c.if-held.false cores
    (hart-over s f h c.args.code.now x old new (Some l) c.hart_turn.new.out.items code_is bytes shows
    c.requires.same.coherent.backing own
    (rw c.in-Over-Some.field-0-is at c.in-Over-Some.ensures.takes))
    (with_items_is c.args.regs.now c.start.new.regs (c.start.auto.regs ∙ c.deref_mut.ensures.len) ∙ c.start.ensures
    ∙ ap (λ xs. set xs l.core (launched_core l.entry l.arg).regs) c.deref_mut.ensures.value)

pub returns-in-Acts-clause-event : goal.returns-in-Acts-clause-event
returns-in-Acts-clause-event c s f code_is bytes shows cores =
    let h = c.args.h in
    let t = c.in-Acts.ensures.takes in
    let p = c.in-Acts.planned in
    let old : Beside = beside c.args.hart.now c.args.statuses.now.items in
    let new : Beside = beside c.hart_turn.new.hart c.hart_turn.new.statuses.items in
    let left : Beside = beside (record c.hart_turn.new.hart { regs = c.act.new.regs }) c.hart_turn.new.statuses.items in
    let x = traced (shown c.args.memory.now) c.args.log.now in
    let y = traced (shown c.act.new.memory) c.act.new.log in
    let own : hart_runs c.args.hart.now.status ≡ true = sym c.is_running.ensures ∙ c.if-not-is_running.false in
    step-event s f h c.args.held x y left c.args.regs.now.items c.args.regs.now.items None c.hart_turn.new.out.items
    (runs-at s f h old true shows own) c.if-held.false cores
    (subst (λ puts. HartStepped s f h x y left None puts) (sym t.1.none)
    (hart-acts s f h c.args.code.now x y new c.act.new.regs p code_is bytes (unmoved-shows s f h old new t.1.same shows)
    (ap (λ (b : Beside). hart_runs b.hart.status) t.1.same ∙ own)
    (subst (λ (b : Beside). IsToBeMade c.args.code.now b.hart.regs p) (sym t.1.same) t.0)
    c.act.ensures.regs c.act.ensures.memory c.act.ensures.notes)) refl
