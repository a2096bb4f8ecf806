use Rattle.std.proofs.Common.{ap, sym, ◌∙◌, arith}
use Rattle.set_assoc.specs.Entries.{touched}
use Rattle.set_assoc.proofs.RowLemmas.{are_places, place_told, touched_lines, untouched_lines, IsRow-touched}
use Rattle.set_assoc.proofs.row.Row.touch.Goals as goal

pub bounds-self-inside-place : goal.bounds-self-inside-place
bounds-self-inside-place g c =
    let at = place_told c.self.inside.entries.items c.self.inside.ages c.self.inside.used c.args.line c.args.place c.self.invariant.0 (rw c.self.view_is c.requires) in
    omega (arith, at.within, c.self.invariant.0.few)

pub invariant_of-self : goal.invariant_of-self
invariant_of-self g c =
    let at = place_told c.self.inside.entries.items c.self.inside.ages c.self.inside.used c.args.line c.args.place c.self.invariant.0 (rw c.self.view_is c.requires) in
    (IsRow-touched c.self.inside.entries.items c.self.inside.ages c.raise.new.ages c.self.inside.used c.args.line c.args.place c.self.invariant.0 at c.raise.ensures, c.self.invariant.1)

pub returns-then-self-place-ne0-clause-front : goal.returns-then-self-place-ne0-clause-front
returns-then-self-place-ne0-clause-front g c =
    let at = place_told c.self.inside.entries.items c.self.inside.ages c.self.inside.used c.args.line c.args.place c.self.invariant.0 (rw c.self.view_is c.requires) in
    touched_lines c.self.inside.entries.items c.self.inside.ages c.raise.new.ages c.self.inside.used c.args.line c.args.place c.self.invariant.0 at c.raise.ensures ∙
    ap (λ es. touched c.args.line es) c.self.view_is

pub returns-else-self-place-ne0-clause-front : goal.returns-else-self-place-ne0-clause-front
returns-else-self-place-ne0-clause-front g c =
    let at = place_told c.self.inside.entries.items c.self.inside.ages c.self.inside.used c.args.line c.args.place c.self.invariant.0 (rw c.self.view_is c.requires) in
    rw (← c.self.view_is) (sym (untouched_lines c.self.inside.entries.items c.self.inside.ages c.self.inside.used c.args.line c.args.place c.self.invariant.0 at (omega (arith, c.if-self-place-ne0.false))))

pub returns-then-self-place-ne0-clause-places : goal.returns-then-self-place-ne0-clause-places
returns-then-self-place-ne0-clause-places g c = are_places _ c.raise.new.ages c.self.inside.used (invariant_of-self g c).0

pub returns-else-self-place-ne0-clause-places : goal.returns-else-self-place-ne0-clause-places
returns-else-self-place-ne0-clause-places g c = rw (← c.self.view_is) (are_places _ c.self.inside.ages c.self.inside.used c.self.invariant.0)
