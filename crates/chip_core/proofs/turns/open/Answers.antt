use Rattle.std.proofs.Common.{◌≡◌, ◌∙◌, sym, subst, refl, true, false, []}
use Rattle.schedule_log.specs.declared.entry.Entry.TheVariants.{Open, Lock}
use Rattle.coherent_mem.specs.Parts.{shown}
use Rattle.chip_core.specs.declared.stage.Stage.TheVariants as Stage_is
use Rattle.chip_core.specs.Seats.{around, is_spent, OpensTry, turned}
use Rattle.chip_core.proofs.turns.open.Goals as goal

pub returns-then-is_next_locked : goal.returns-then-is_next_locked
returns-then-is_next_locked c =
    let e : is_spent c.args.lock.now c.args.j ≡ true = sym c.is_next_locked.ensures ∙ c.if-is_next_locked.true in
    subst (λ x. OpensTry x c.args.j c.args.ready (around (shown c.args.memory.now) c.args.lock.now c.args.log.now)
    (around (shown c.open-open.new.mem) c.took.new.self c.open-open.new.log) (Stage_is.Open c.open-open.result) (turned (Lock c.args.j) [])) (sym e)
    (record {
      tried = c.open-open.result;
      holds = refl;
      opens = c.open-open.ensures.opens;
      stands = c.open-open.ensures.stands;
      lock = c.took.ensures;
      entry = refl;
      puts = refl;
    })

pub returns : goal.returns
returns c =
    let e : is_spent c.args.lock.now c.args.j ≡ false = sym c.is_next_locked.ensures ∙ c.if-is_next_locked.false in
    subst (λ x. OpensTry x c.args.j c.args.ready (around (shown c.args.memory.now) c.args.lock.now c.args.log.now)
    (around (shown c.open-open-2.new.mem) c.args.lock.now c.open-open-2.new.log) (Stage_is.Open c.open-open-2.result) (turned (Open c.args.j) [])) (sym e)
    (record {
      tried = c.open-open-2.result;
      holds = refl;
      opens = c.open-open-2.ensures.opens;
      stands = c.open-open-2.ensures.stands;
      lock = refl;
      entry = refl;
      puts = refl;
    })
