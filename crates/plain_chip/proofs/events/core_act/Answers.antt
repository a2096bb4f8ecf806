use Rattle.std.proofs.Common.{◌≡◌, ◌∙◌, sym, ap, refl, set, length}
use Rattle.std.specs.List.{refill}
use Rattle.std.proofs.lemmas.List.{length-set}
use Rattle.hart_turns.specs.Plans.{core_with}
use Rattle.plain_chip.proofs.EventFacts.{core-at, read-at, refilled-same}
use Rattle.plain_chip.proofs.events.core_act.Goals as goal

pub returns-clause-event : goal.returns-clause-event
returns-clause-event c s f code_is bytes status regs =
    let e = c.kernel_act in
    let j = c.args.j in
    let at = read-at c.args.statuses.now.items c.deref.result.now j _ (f.cores j).status c.deref.ensures.0 status in
    record {
      left = core_with e.new.regs e.new.status;
      event = e.ensures.event s f j code_is bytes
          (core-at (f.cores j) _ _ (c.index_mut.ensures.value
          ∙ read-at c.args.regs.now.items c.args.regs.now.items j c.index_mut.result.now (f.cores j).regs refl regs) at);
      statuses = refilled;
      regs = refl;
    }
  where
    refilled : refill (length c.args.statuses.now.items) c.args.statuses.now.items
        (set c.deref_mut.result.now c.args.j c.kernel_act.new.status)
        ≡ set c.args.statuses.now.items c.args.j c.kernel_act.new.status
    refilled =
        ap (λ xs. refill (length c.args.statuses.now.items) c.args.statuses.now.items
        (set xs c.args.j c.kernel_act.new.status)) c.deref_mut.ensures.value
        ∙ refilled-same c.args.statuses.now.items (set c.args.statuses.now.items c.args.j c.kernel_act.new.status)
        (length-set c.args.statuses.now.items c.args.j c.kernel_act.new.status)
