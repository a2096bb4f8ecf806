use Rattle.std.proofs.Common.{Some, ap, ◌∙◌}
use Rattle.set_assoc.specs.Ages.{placed_entry}
use Rattle.set_assoc.specs.Places.{placed}
use Rattle.set_assoc.proofs.RowLemmas.{entry_of_way, no_entry_of_way}
use Rattle.set_assoc.proofs.row.Row.at.Goals as goal

pub returns-then-way-self : goal.returns-then-way-self
returns-then-way-self g c =
    let items = c.self.inside.entries.items in
    let d = c.index.result.now in
    let place = c.place_of_age-place.result in
    rw (← c.self.view_is)
    (ap (λ e. Some (e.0, placed e.1 place)) c.index.ensures ∙
    ap (λ p. Some (placed_entry items d p)) c.place_of_age-place.ensures ∙
    entry_of_way items d c.self.inside.ages c.self.inside.used c.args.way c.self.invariant.0 c.if-way-self.true)

pub returns-else-way-self : goal.returns-else-way-self
returns-else-way-self g c =
    rw (← c.self.view_is)
    (no_entry_of_way c.self.inside.entries.items c.self.inside.ages c.self.inside.used c.args.way c.self.invariant.0 c.if-way-self.false)
