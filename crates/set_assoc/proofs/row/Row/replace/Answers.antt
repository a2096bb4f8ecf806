use Rattle.std.proofs.Common.{ap, ◌∙◌, arith}
use Rattle.set_assoc.specs.Entries.{replaced}
use Rattle.set_assoc.proofs.RowLemmas.{are_places, place_told, replaced_lines, IsRow-replaced}
use Rattle.set_assoc.proofs.row.Row.replace.Goals as goal

pub index_mut-requires : goal.index_mut-requires
index_mut-requires g c =
    let at = place_told c.self.inside.entries.items c.self.inside.ages c.self.inside.used c.args.line c.args.place c.self.invariant.0 (rw c.self.view_is c.requires) in
    omega (arith, at.within, c.self.inside.entries.ok.0)

pub invariant_of-self : goal.invariant_of-self
invariant_of-self g c =
    let at = place_told c.self.inside.entries.items c.self.inside.ages c.self.inside.used c.args.line c.args.place c.self.invariant.0 (rw c.self.view_is c.requires) in
    (IsRow-replaced c.self.inside.entries.items c.self.inside.ages c.self.inside.used c.args.line c.args.place c.args.value c.self.invariant.0 at, c.self.invariant.1)

pub returns-clause-written : goal.returns-clause-written
returns-clause-written g c =
    let at = place_told c.self.inside.entries.items c.self.inside.ages c.self.inside.used c.args.line c.args.place c.self.invariant.0 (rw c.self.view_is c.requires) in
    replaced_lines c.self.inside.entries.items c.self.inside.ages c.self.inside.used c.args.line c.args.place c.args.value c.self.invariant.0 at ∙
    ap (λ es. replaced c.args.line (record { value = c.args.value; place = c.args.place }) es) c.self.view_is

pub returns-clause-places : goal.returns-clause-places
returns-clause-places g c = are_places _ c.self.inside.ages c.self.inside.used (invariant_of-self g c).0
