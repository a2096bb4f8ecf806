use Rattle.std.proofs.Common.{◌∙◌, sym, refl, true, false, []}
use Rattle.std.proofs.lemmas.Bool.{false≢true}
use Rattle.coherent_mem.specs.Parts.{shown}
use Rattle.std.specs.Vec.{with_item}
use Rattle.portion_ctl.specs.States.{next_flush}
use Rattle.conda_base.specs.declared.actor.Actor.TheVariants as Actor_is
use Rattle.schedule_log.specs.declared.entry.Entry.TheVariants as Entry_is
use Rattle.chip_core.specs.declared.stage.Stage.TheVariants as Stage_is
use Rattle.chip_core.specs.declared.cores.Cores.{Cores}
use Rattle.chip_core.specs.Seats.{is_spent, others_in, turned}
use Rattle.chip_core.proofs.EntryFacts.{commits_are_entries, backs_are_entries}
use Rattle.chip_core.proofs.TryFacts.{others-bits, without, try-turn, try-numbers, try-fits}
use Rattle.chip_core.proofs.TurnFacts.{LeavesCores}
use Rattle.chip_core.proofs.ArmFacts.{runs-from, start-at, set-twice, inside-held, code-fits, opens-numbers, owed-numbers, unlocked, ready-turn, ready-fits, owed-turn, owed-fits, spec-fits, idle-turn, held-turn}
use Rattle.chip_core.proofs.NotedFacts.{opens-noted, owed-noted, try-noted}
use Rattle.chip_core.proofs.turns.core_event.Goals as goal
use Rattle.chip_config.specs.Settings.{settings}

pub returns-then-not-is_running-clause-turns : goal.returns-then-not-is_running-clause-turns
returns-then-not-is_running-clause-turns c d w reached same s =
    idle-turn d w (settings c.args.config.now) c.args.j c.args.code.now (shown c.args.memory.now) c.args.log.now c.args.cores.now (turned (Entry_is.Idle (Actor_is.Core c.args.j)) c.args.out.now.items) same c.requires.range c.requires.same.coherent s
    (runs-from c.args.cores.now.statuses.items c.deref.result.now c.args.j _ c.is_running.result false c.deref.ensures.0 c.is_running.ensures c.if-not-is_running.true)
    refl c.requires.empty

pub returns-then-held-clause-turns : goal.returns-then-held-clause-turns
returns-then-held-clause-turns c d w reached same s =
    held-turn d w (settings c.args.config.now) c.args.j c.args.code.now (shown c.args.memory.now) c.args.log.now c.args.cores.now (turned (Entry_is.Held (Actor_is.Core c.args.j)) c.args.out.now.items) same c.requires.range c.requires.same.coherent s
    (runs-from c.args.cores.now.statuses.items c.deref.result.now c.args.j _ c.is_running.result true c.deref.ensures.0 c.is_running.ensures c.if-not-is_running.false)
    (c.held.ensures.0 c.if-held.true)
    refl c.requires.empty

pub open-after-requires-clause-free : goal.open-after-requires-clause-free
open-after-requires-clause-free c =
    let start = start-at (settings c.args.config.now) c.args.j c.args.code.now (shown c.args.memory.now) c.args.cores.now (Stage_is.Ready c.in-Ready.ready) c.index_mut.result.now c.replace.result
    c.requires.range c.requires.same c.requires.line_bytes c.requires.cores
    (runs-from c.args.cores.now.statuses.items c.deref.result.now c.args.j _ c.is_running.result true c.deref.ensures.0 c.is_running.ensures c.if-not-is_running.false)
    (λ o. false≢true (sym c.if-held.false ∙ c.held.ensures.1 o))
    c.index_mut.ensures.value c.replace.ensures.value c.in-Ready.is in
    unlocked (settings c.args.config.now) c.args.j c.args.code.now (shown c.args.memory.now) c.args.cores.now (Stage_is.Ready c.in-Ready.ready) start refl

pub flush-after-requires-clause-free : goal.flush-after-requires-clause-free
flush-after-requires-clause-free c =
    let start = start-at (settings c.args.config.now) c.args.j c.args.code.now (shown c.args.memory.now) c.args.cores.now (Stage_is.Flushing c.in-Flushing.flushing) c.index_mut.result.now c.replace.result
    c.requires.range c.requires.same c.requires.line_bytes c.requires.cores
    (runs-from c.args.cores.now.statuses.items c.deref.result.now c.args.j _ c.is_running.result true c.deref.ensures.0 c.is_running.ensures c.if-not-is_running.false)
    (λ o. false≢true (sym c.if-held.false ∙ c.held.ensures.1 o))
    c.index_mut.ensures.value c.replace.ensures.value c.in-Flushing.is in
    unlocked (settings c.args.config.now) c.args.j c.args.code.now (shown c.args.memory.now) c.args.cores.now (Stage_is.Flushing c.in-Flushing.flushing) start refl

pub spec-after-requires-clause-bits : goal.spec-after-requires-clause-bits
spec-after-requires-clause-bits c =
    let start = start-at (settings c.args.config.now) c.args.j c.args.code.now (shown c.args.memory.now) c.args.cores.now (Stage_is.Open c.in-Open.tried) c.index_mut.result.now c.replace.result
    c.requires.range c.requires.same c.requires.line_bytes c.requires.cores
    (runs-from c.args.cores.now.statuses.items c.deref.result.now c.args.j _ c.is_running.result true c.deref.ensures.0 c.is_running.ensures c.if-not-is_running.false)
    (λ o. false≢true (sym c.if-held.false ∙ c.held.ensures.1 o))
    c.index_mut.ensures.value c.replace.ensures.value c.in-Open.is in
    others-bits (settings c.args.config.now) c.args.j c.args.code.now (shown c.args.memory.now) c.args.cores.now c.in-Open.tried c.replace.new.dest start c.replace.ensures.after

pub spec-after-requires-clause-portion : goal.spec-after-requires-clause-portion
spec-after-requires-clause-portion c =
    let start = start-at (settings c.args.config.now) c.args.j c.args.code.now (shown c.args.memory.now) c.args.cores.now (Stage_is.Open c.in-Open.tried) c.index_mut.result.now c.replace.result
    c.requires.range c.requires.same c.requires.line_bytes c.requires.cores
    (runs-from c.args.cores.now.statuses.items c.deref.result.now c.args.j _ c.is_running.result true c.deref.ensures.0 c.is_running.ensures c.if-not-is_running.false)
    (λ o. false≢true (sym c.if-held.false ∙ c.held.ensures.1 o))
    c.index_mut.ensures.value c.replace.ensures.value c.in-Open.is in
    (spec-fits (settings c.args.config.now) c.args.j c.args.code.now (shown c.args.memory.now) c.args.cores.now c.in-Open.tried start).portion

pub spec-after-requires-clause-fits : goal.spec-after-requires-clause-fits
spec-after-requires-clause-fits c =
    let start = start-at (settings c.args.config.now) c.args.j c.args.code.now (shown c.args.memory.now) c.args.cores.now (Stage_is.Open c.in-Open.tried) c.index_mut.result.now c.replace.result
    c.requires.range c.requires.same c.requires.line_bytes c.requires.cores
    (runs-from c.args.cores.now.statuses.items c.deref.result.now c.args.j _ c.is_running.result true c.deref.ensures.0 c.is_running.ensures c.if-not-is_running.false)
    (λ o. false≢true (sym c.if-held.false ∙ c.held.ensures.1 o))
    c.index_mut.ensures.value c.replace.ensures.value c.in-Open.is in
    (spec-fits (settings c.args.config.now) c.args.j c.args.code.now (shown c.args.memory.now) c.args.cores.now c.in-Open.tried start).memory

pub returns-in-Ready-clause-turns : goal.returns-in-Ready-clause-turns
returns-in-Ready-clause-turns c =
    let start = start-at (settings c.args.config.now) c.args.j c.args.code.now (shown c.args.memory.now) c.args.cores.now (Stage_is.Ready c.in-Ready.ready) c.index_mut.result.now c.replace.result
    c.requires.range c.requires.same c.requires.line_bytes c.requires.cores
    (runs-from c.args.cores.now.statuses.items c.deref.result.now c.args.j _ c.is_running.result true c.deref.ensures.0 c.is_running.ensures c.if-not-is_running.false)
    (λ o. false≢true (sym c.if-held.false ∙ c.held.ensures.1 o))
    c.index_mut.ensures.value c.replace.ensures.value c.in-Ready.is in
    let left : Cores = record { statuses = c.args.cores.now.statuses; portions = with_item (with_item c.args.cores.now.portions c.args.j c.replace.new.dest) c.args.j c.open-after.result.0; lock = c.open-after.new.lock } in
    let leaves : LeavesCores c.args.j c.open-after.result.0 c.args.cores.now left = record {
      statuses = refl;
      portions = set-twice c.args.cores.now.portions.items c.args.j c.replace.new.dest c.open-after.result.0 (inside-held (settings c.args.config.now) c.args.j c.args.code.now c.args.cores.now c.requires.range c.requires.cores);
    } in
    rw c.requires.empty
    (ready-turn (settings c.args.config.now) c.args.j c.args.code.now (shown c.args.memory.now) (shown c.open-after.new.memory) c.args.log.now c.open-after.new.log c.args.cores.now left c.in-Ready.ready c.open-after.result.0 (turned c.open-after.result.1 [])
    start c.plain-coherent.ensures.kept c.open-after.ensures leaves)

pub returns-in-Ready-clause-kept : goal.returns-in-Ready-clause-kept
returns-in-Ready-clause-kept c =
    code-fits c.args.code.now (shown c.args.memory.now) (shown c.open-after.new.memory) c.requires.same (opens-numbers (is_spent c.args.cores.now.lock c.args.j) c.args.j c.in-Ready.ready (shown c.args.memory.now) (shown c.open-after.new.memory) c.args.cores.now.lock c.open-after.new.lock c.args.log.now c.open-after.new.log c.open-after.result.0 (turned c.open-after.result.1 []) c.open-after.ensures) c.plain-coherent.ensures.kept

pub returns-in-Ready-clause-numbers : goal.returns-in-Ready-clause-numbers
returns-in-Ready-clause-numbers c = opens-numbers (is_spent c.args.cores.now.lock c.args.j) c.args.j c.in-Ready.ready (shown c.args.memory.now) (shown c.open-after.new.memory) c.args.cores.now.lock c.open-after.new.lock c.args.log.now c.open-after.new.log c.open-after.result.0 (turned c.open-after.result.1 []) c.open-after.ensures

pub returns-in-Ready-clause-cores : goal.returns-in-Ready-clause-cores
returns-in-Ready-clause-cores c =
    let start = start-at (settings c.args.config.now) c.args.j c.args.code.now (shown c.args.memory.now) c.args.cores.now (Stage_is.Ready c.in-Ready.ready) c.index_mut.result.now c.replace.result
    c.requires.range c.requires.same c.requires.line_bytes c.requires.cores
    (runs-from c.args.cores.now.statuses.items c.deref.result.now c.args.j _ c.is_running.result true c.deref.ensures.0 c.is_running.ensures c.if-not-is_running.false)
    (λ o. false≢true (sym c.if-held.false ∙ c.held.ensures.1 o))
    c.index_mut.ensures.value c.replace.ensures.value c.in-Ready.is in
    let left : Cores = record { statuses = c.args.cores.now.statuses; portions = with_item (with_item c.args.cores.now.portions c.args.j c.replace.new.dest) c.args.j c.open-after.result.0; lock = c.open-after.new.lock } in
    let leaves : LeavesCores c.args.j c.open-after.result.0 c.args.cores.now left = record {
      statuses = refl;
      portions = set-twice c.args.cores.now.portions.items c.args.j c.replace.new.dest c.open-after.result.0 (inside-held (settings c.args.config.now) c.args.j c.args.code.now c.args.cores.now c.requires.range c.requires.cores);
    } in
    ready-fits (settings c.args.config.now) c.args.j c.args.code.now (shown c.args.memory.now) (shown c.open-after.new.memory) c.args.log.now c.open-after.new.log c.args.cores.now left c.in-Ready.ready c.open-after.result.0 (turned c.open-after.result.1 [])
    start c.open-after.ensures leaves

pub returns-in-Flushing-clause-turns : goal.returns-in-Flushing-clause-turns
returns-in-Flushing-clause-turns c =
    let start = start-at (settings c.args.config.now) c.args.j c.args.code.now (shown c.args.memory.now) c.args.cores.now (Stage_is.Flushing c.in-Flushing.flushing) c.index_mut.result.now c.replace.result
    c.requires.range c.requires.same c.requires.line_bytes c.requires.cores
    (runs-from c.args.cores.now.statuses.items c.deref.result.now c.args.j _ c.is_running.result true c.deref.ensures.0 c.is_running.ensures c.if-not-is_running.false)
    (λ o. false≢true (sym c.if-held.false ∙ c.held.ensures.1 o))
    c.index_mut.ensures.value c.replace.ensures.value c.in-Flushing.is in
    let left : Cores = record { statuses = c.args.cores.now.statuses; portions = with_item (with_item c.args.cores.now.portions c.args.j c.replace.new.dest) c.args.j c.flush-after.result.0; lock = c.flush-after.new.lock } in
    let leaves : LeavesCores c.args.j c.flush-after.result.0 c.args.cores.now left = record {
      statuses = refl;
      portions = set-twice c.args.cores.now.portions.items c.args.j c.replace.new.dest c.flush-after.result.0 (inside-held (settings c.args.config.now) c.args.j c.args.code.now c.args.cores.now c.requires.range c.requires.cores);
    } in
    rw c.requires.empty
    (owed-turn (settings c.args.config.now) c.args.j c.args.code.now (shown c.args.memory.now) (shown c.flush-after.new.memory) c.args.log.now c.flush-after.new.log c.args.cores.now left c.in-Flushing.flushing c.flush-after.result.0 (turned c.flush-after.result.1 [])
    start c.plain-coherent-in-Flushing.ensures.kept c.flush-after.ensures leaves)

pub returns-in-Flushing-clause-kept : goal.returns-in-Flushing-clause-kept
returns-in-Flushing-clause-kept c =
    code-fits c.args.code.now (shown c.args.memory.now) (shown c.flush-after.new.memory) c.requires.same (owed-numbers (next_flush c.in-Flushing.flushing (shown c.args.memory.now)) c.args.j c.in-Flushing.flushing (shown c.args.memory.now) (shown c.flush-after.new.memory) c.args.cores.now.lock c.flush-after.new.lock c.args.log.now c.flush-after.new.log c.flush-after.result.0 (turned c.flush-after.result.1 []) c.flush-after.ensures) c.plain-coherent-in-Flushing.ensures.kept

pub returns-in-Flushing-clause-numbers : goal.returns-in-Flushing-clause-numbers
returns-in-Flushing-clause-numbers c = owed-numbers (next_flush c.in-Flushing.flushing (shown c.args.memory.now)) c.args.j c.in-Flushing.flushing (shown c.args.memory.now) (shown c.flush-after.new.memory) c.args.cores.now.lock c.flush-after.new.lock c.args.log.now c.flush-after.new.log c.flush-after.result.0 (turned c.flush-after.result.1 []) c.flush-after.ensures

pub returns-in-Flushing-clause-cores : goal.returns-in-Flushing-clause-cores
returns-in-Flushing-clause-cores c =
    let start = start-at (settings c.args.config.now) c.args.j c.args.code.now (shown c.args.memory.now) c.args.cores.now (Stage_is.Flushing c.in-Flushing.flushing) c.index_mut.result.now c.replace.result
    c.requires.range c.requires.same c.requires.line_bytes c.requires.cores
    (runs-from c.args.cores.now.statuses.items c.deref.result.now c.args.j _ c.is_running.result true c.deref.ensures.0 c.is_running.ensures c.if-not-is_running.false)
    (λ o. false≢true (sym c.if-held.false ∙ c.held.ensures.1 o))
    c.index_mut.ensures.value c.replace.ensures.value c.in-Flushing.is in
    let left : Cores = record { statuses = c.args.cores.now.statuses; portions = with_item (with_item c.args.cores.now.portions c.args.j c.replace.new.dest) c.args.j c.flush-after.result.0; lock = c.flush-after.new.lock } in
    let leaves : LeavesCores c.args.j c.flush-after.result.0 c.args.cores.now left = record {
      statuses = refl;
      portions = set-twice c.args.cores.now.portions.items c.args.j c.replace.new.dest c.flush-after.result.0 (inside-held (settings c.args.config.now) c.args.j c.args.code.now c.args.cores.now c.requires.range c.requires.cores);
    } in
    owed-fits (settings c.args.config.now) c.args.j c.args.code.now (shown c.args.memory.now) (shown c.flush-after.new.memory) c.args.log.now c.flush-after.new.log c.args.cores.now left c.in-Flushing.flushing c.flush-after.result.0 (turned c.flush-after.result.1 [])
    start c.flush-after.ensures leaves

pub returns-in-Open-clause-turns : goal.returns-in-Open-clause-turns
returns-in-Open-clause-turns c =
    let start = start-at (settings c.args.config.now) c.args.j c.args.code.now (shown c.args.memory.now) c.args.cores.now (Stage_is.Open c.in-Open.tried) c.index_mut.result.now c.replace.result
    c.requires.range c.requires.same c.requires.line_bytes c.requires.cores
    (runs-from c.args.cores.now.statuses.items c.deref.result.now c.args.j _ c.is_running.result true c.deref.ensures.0 c.is_running.ensures c.if-not-is_running.false)
    (λ o. false≢true (sym c.if-held.false ∙ c.held.ensures.1 o))
    c.index_mut.ensures.value c.replace.ensures.value c.in-Open.is in
    let left : Cores = record { statuses = c.spec-after.new.cores.statuses; portions = with_item c.spec-after.new.cores.portions c.args.j c.spec-after.result.0; lock = c.spec-after.new.cores.lock } in
    try-turn (settings c.args.config.now) c.args.j c.args.code.now (shown c.args.memory.now) (shown c.spec-after.new.memory) c.args.log.now c.spec-after.new.log c.args.cores.now left c.in-Open.tried c.replace.new.dest
    c.spec-after.result.0 (others_in c.spec-after.new.cores) (turned c.spec-after.result.1 c.spec-after.new.out.items) commits_are_entries backs_are_entries start c.plain-coherent-in-Open.ensures.kept c.spec-after.ensures refl refl

pub returns-in-Open-clause-kept : goal.returns-in-Open-clause-kept
returns-in-Open-clause-kept c =
    let start = start-at (settings c.args.config.now) c.args.j c.args.code.now (shown c.args.memory.now) c.args.cores.now (Stage_is.Open c.in-Open.tried) c.index_mut.result.now c.replace.result
    c.requires.range c.requires.same c.requires.line_bytes c.requires.cores
    (runs-from c.args.cores.now.statuses.items c.deref.result.now c.args.j _ c.is_running.result true c.deref.ensures.0 c.is_running.ensures c.if-not-is_running.false)
    (λ o. false≢true (sym c.if-held.false ∙ c.held.ensures.1 o))
    c.index_mut.ensures.value c.replace.ensures.value c.in-Open.is in
    code-fits c.args.code.now (shown c.args.memory.now) (shown c.spec-after.new.memory) c.requires.same (try-numbers c.args.code.now c.args.j c.in-Open.tried (shown c.args.memory.now) (shown c.spec-after.new.memory) c.args.cores.now.lock c.spec-after.new.cores.lock c.args.log.now c.spec-after.new.log (without c.args.cores.now c.args.j c.replace.new.dest) (others_in c.spec-after.new.cores) c.spec-after.result.0 (turned c.spec-after.result.1 c.spec-after.new.out.items) (spec-fits (settings c.args.config.now) c.args.j c.args.code.now (shown c.args.memory.now) c.args.cores.now c.in-Open.tried start).portion c.spec-after.ensures) c.plain-coherent-in-Open.ensures.kept

pub returns-in-Open-clause-numbers : goal.returns-in-Open-clause-numbers
returns-in-Open-clause-numbers c =
    let start = start-at (settings c.args.config.now) c.args.j c.args.code.now (shown c.args.memory.now) c.args.cores.now (Stage_is.Open c.in-Open.tried) c.index_mut.result.now c.replace.result
    c.requires.range c.requires.same c.requires.line_bytes c.requires.cores
    (runs-from c.args.cores.now.statuses.items c.deref.result.now c.args.j _ c.is_running.result true c.deref.ensures.0 c.is_running.ensures c.if-not-is_running.false)
    (λ o. false≢true (sym c.if-held.false ∙ c.held.ensures.1 o))
    c.index_mut.ensures.value c.replace.ensures.value c.in-Open.is in
    try-numbers c.args.code.now c.args.j c.in-Open.tried (shown c.args.memory.now) (shown c.spec-after.new.memory) c.args.cores.now.lock c.spec-after.new.cores.lock c.args.log.now c.spec-after.new.log (without c.args.cores.now c.args.j c.replace.new.dest) (others_in c.spec-after.new.cores) c.spec-after.result.0 (turned c.spec-after.result.1 c.spec-after.new.out.items) (spec-fits (settings c.args.config.now) c.args.j c.args.code.now (shown c.args.memory.now) c.args.cores.now c.in-Open.tried start).portion c.spec-after.ensures

pub returns-in-Open-clause-cores : goal.returns-in-Open-clause-cores
returns-in-Open-clause-cores c =
    let start = start-at (settings c.args.config.now) c.args.j c.args.code.now (shown c.args.memory.now) c.args.cores.now (Stage_is.Open c.in-Open.tried) c.index_mut.result.now c.replace.result
    c.requires.range c.requires.same c.requires.line_bytes c.requires.cores
    (runs-from c.args.cores.now.statuses.items c.deref.result.now c.args.j _ c.is_running.result true c.deref.ensures.0 c.is_running.ensures c.if-not-is_running.false)
    (λ o. false≢true (sym c.if-held.false ∙ c.held.ensures.1 o))
    c.index_mut.ensures.value c.replace.ensures.value c.in-Open.is in
    let left : Cores = record { statuses = c.spec-after.new.cores.statuses; portions = with_item c.spec-after.new.cores.portions c.args.j c.spec-after.result.0; lock = c.spec-after.new.cores.lock } in
    try-fits (settings c.args.config.now) c.args.j c.args.code.now (shown c.args.memory.now) (shown c.spec-after.new.memory) c.args.log.now c.spec-after.new.log c.args.cores.now left c.in-Open.tried c.replace.new.dest
    c.spec-after.result.0 (others_in c.spec-after.new.cores) (turned c.spec-after.result.1 c.spec-after.new.out.items) start c.spec-after.ensures refl refl

pub returns-in-Moved-clause-turns : goal.returns-in-Moved-clause-turns
returns-in-Moved-clause-turns c =
    let start = start-at (settings c.args.config.now) c.args.j c.args.code.now (shown c.args.memory.now) c.args.cores.now (Stage_is.Moved) c.index_mut.result.now c.replace.result
    c.requires.range c.requires.same c.requires.line_bytes c.requires.cores
    (runs-from c.args.cores.now.statuses.items c.deref.result.now c.args.j _ c.is_running.result true c.deref.ensures.0 c.is_running.ensures c.if-not-is_running.false)
    (λ o. false≢true (sym c.if-held.false ∙ c.held.ensures.1 o))
    c.index_mut.ensures.value c.replace.ensures.value c.in-Moved.is in
    absurd (start.fits.each c.args.j Stage_is.Moved start.holds)

pub returns-in-Ready-clause-noted : goal.returns-in-Ready-clause-noted
returns-in-Ready-clause-noted c =
    opens-noted (is_spent c.args.cores.now.lock c.args.j) c.args.j c.in-Ready.ready (shown c.args.memory.now) (shown c.open-after.new.memory) c.args.cores.now.lock c.open-after.new.lock
    c.args.log.now c.open-after.new.log c.open-after.result.0 (turned c.open-after.result.1 []) c.requires.same.coherent.backing c.open-after.ensures

pub returns-in-Flushing-clause-noted : goal.returns-in-Flushing-clause-noted
returns-in-Flushing-clause-noted c =
    owed-noted (next_flush c.in-Flushing.flushing (shown c.args.memory.now)) c.args.j c.in-Flushing.flushing (shown c.args.memory.now) (shown c.flush-after.new.memory) c.args.cores.now.lock c.flush-after.new.lock
    c.args.log.now c.flush-after.new.log c.flush-after.result.0 (turned c.flush-after.result.1 []) c.requires.same.coherent.backing refl c.flush-after.ensures

pub returns-in-Open-clause-noted : goal.returns-in-Open-clause-noted
returns-in-Open-clause-noted c =
    let start = start-at (settings c.args.config.now) c.args.j c.args.code.now (shown c.args.memory.now) c.args.cores.now (Stage_is.Open c.in-Open.tried) c.index_mut.result.now c.replace.result
    c.requires.range c.requires.same c.requires.line_bytes c.requires.cores
    (runs-from c.args.cores.now.statuses.items c.deref.result.now c.args.j _ c.is_running.result true c.deref.ensures.0 c.is_running.ensures c.if-not-is_running.false)
    (λ o. false≢true (sym c.if-held.false ∙ c.held.ensures.1 o))
    c.index_mut.ensures.value c.replace.ensures.value c.in-Open.is in
    let fits = spec-fits (settings c.args.config.now) c.args.j c.args.code.now (shown c.args.memory.now) c.args.cores.now c.in-Open.tried start in
    try-noted c.args.code.now c.args.j c.in-Open.tried (shown c.args.memory.now) (shown c.spec-after.new.memory) c.args.cores.now.lock c.spec-after.new.cores.lock c.args.log.now c.spec-after.new.log
    (without c.args.cores.now c.args.j c.replace.new.dest) (others_in c.spec-after.new.cores) c.spec-after.result.0 (turned c.spec-after.result.1 c.spec-after.new.out.items)
    c.base-addresses.ensures.code c.requires.same fits.memory fits.portion c.spec-after.ensures
