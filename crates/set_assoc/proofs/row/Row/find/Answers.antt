use Rattle.std.proofs.Common.{Some, ap, sym, ◌∙◌, arith}
use Rattle.set_assoc.specs.Ages.{IsPlaceOf, IsNowhere}
use Rattle.set_assoc.specs.Places.{placed}
use Rattle.set_assoc.proofs.RowLemmas.{lookup_in_lines, absent_in_lines}
use Rattle.set_assoc.proofs.row.Row.find.Goals as goal

pub index-requires : goal.index-requires
index-requires g c =
    let at : IsPlaceOf c.self.inside.entries.items c.self.inside.ages c.self.inside.used c.args.line c.in-Some.place = rw (← c.deref.ensures.value) c.in-Some.ensures in
    omega (arith, at.within, c.self.inside.entries.ok.0)

pub returns-in-Some : goal.returns-in-Some
returns-in-Some g c =
    let items = c.self.inside.entries.items in
    let at : IsPlaceOf c.self.inside.entries.items c.self.inside.ages c.self.inside.used c.args.line c.in-Some.place = rw (← c.deref.ensures.value) c.in-Some.ensures in
    rw (← c.self.view_is)
    (ap (λ e. Some (placed e.1 c.in-Some.place)) c.index.ensures ∙
    sym (lookup_in_lines items c.index.result.now c.self.inside.ages c.self.inside.used c.args.line c.in-Some.place c.self.invariant.0 at))

pub returns-in-None : goal.returns-in-None
returns-in-None g c =
    let none : IsNowhere c.self.inside.entries.items c.self.inside.ages c.self.inside.used c.args.line = rw (← c.deref.ensures.value) c.in-None.ensures in
    rw (← c.self.view_is) (sym (absent_in_lines c.self.inside.entries.items c.self.inside.ages c.self.inside.used c.args.line c.self.invariant.0 none))
