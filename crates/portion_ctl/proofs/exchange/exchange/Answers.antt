use Rattle.std.proofs.Common.{◌≡◌, sym, subst, refl, None, Some}
use Rattle.rv32_hart.specs.declared.act.Access.{Access}
use Rattle.portion_ctl.specs.Bodies.{Exchanges, cause_of_access, opened_of}
use Rattle.portion_ctl.proofs.exchange.exchange.Goals as goal

pub returns-in-None-clause-exchanges : goal.returns-in-None-clause-exchanges
returns-in-None-clause-exchanges g c t fills holds =
    let P : Access → Type 0 = λ x.
    (cause_of_access (opened_of c.args.b.now).limits t x ≡ None)
    × Exchanges (g.B.Backing.shown c.args.mem.now) (opened_of c.args.b.now) (opened_of c.store.new.b) t fills x 0 c.args.log.now c.args.log.now in
    subst P (sym c.in-Store.is) (c.in-None.ensures.stores t fills c.args.log.now (g.B.Backing.shown c.args.mem.now) holds)

pub returns-in-Some-clause-exchanges : goal.returns-in-Some-clause-exchanges
returns-in-Some-clause-exchanges g c t fills holds =
    let ends = c.in-Some.ensures.stores t fills c.args.log.now (g.B.Backing.shown c.args.mem.now) holds in
    let P : Access → Type 0 = λ x. cause_of_access (opened_of c.args.b.now).limits t x ≡ Some c.in-Some.cause in
    (subst P (sym c.in-Store.is) ends.0, ends.1, refl)
