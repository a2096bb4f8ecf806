use Rattle.std.proofs.Common.{◌+◌, refl, sym, subst}
use Rattle.chip_laws.specs.Design.{setup_of}
use Rattle.flat_check.specs.Checkers.{CheckerView, HasWalked, checker_view}
use Rattle.flat_check.specs.Walks.{walk}
use Rattle.flat_check.proofs.CheckerFacts.{if_ok-map, next-walked}
use Rattle.flat_check.proofs.checker.Checker.entry.Goals as goal

pub returns-clause-walks : goal.returns-clause-walks
returns-clause-walks c = λ d order h.
    let known = subst (λ (v : CheckerView). HasWalked d v order) (sym c.self.view_is) h in
    if_ok-map c.take-taken.result _ _
    (next-walked d (checker_view c.self.inside.code c.self.inside.line_bytes c.self.inside.walker c.self.inside.entries c.self.inside.traffic)
    (checker_view c.self.inside.code c.self.inside.line_bytes c.take-taken.new.self (c.self.inside.entries + 1) c.self.inside.traffic) order c.args.e known refl refl refl)
    (c.take-taken.ensures.walks (setup_of d) (walk (setup_of d) order) (sym known.code) known.shows)
