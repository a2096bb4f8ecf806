use Rattle.std.proofs.Common.{◌≡◌, ◌≤◌, ◌-◌, length, ap, ◌∙◌, rules, arith}
use Rattle.set_assoc.specs.Entries.{without}
use Rattle.set_assoc.proofs.RowLemmas.{are_places, place_told, removed_lines, IsRow-removed, length-lines}
use Rattle.set_assoc.proofs.row.Row.remove.Goals as goal

pub lower-requires-clause-place : goal.lower-requires-clause-place
lower-requires-clause-place g c =
    let at = place_told c.self.inside.entries.items c.self.inside.ages c.self.inside.used c.args.line c.args.place c.self.invariant.0 (rw c.self.view_is c.requires) in
    let len : c.len.result ≡ length c.self.inside.entries.items = search rules in
    omega (arith, at.within)

pub invariant_of-self : goal.invariant_of-self
invariant_of-self g c =
    let at = place_told c.self.inside.entries.items c.self.inside.ages c.self.inside.used c.args.line c.args.place c.self.invariant.0 (rw c.self.view_is c.requires) in
    let len : c.len.result ≡ length c.self.inside.entries.items = search rules in
    (IsRow-removed c.self.inside.entries.items c.self.inside.ages c.lower.new.ages c.self.inside.used c.args.line c.args.place c.self.invariant.0 at (rw (← len) c.lower.ensures), c.self.invariant.1)

pub returns-clause-removed : goal.returns-clause-removed
returns-clause-removed g c =
    let at = place_told c.self.inside.entries.items c.self.inside.ages c.self.inside.used c.args.line c.args.place c.self.invariant.0 (rw c.self.view_is c.requires) in
    let len : c.len.result ≡ length c.self.inside.entries.items = search rules in
    removed_lines c.self.inside.entries.items c.self.inside.ages c.lower.new.ages c.self.inside.used c.args.line c.args.place c.self.invariant.0 at (rw (← len) c.lower.ensures) ∙
    ap (λ es. without c.args.line es) c.self.view_is

pub returns-clause-len : goal.returns-clause-len
returns-clause-len g c =
    let filled = c.self.invariant.0.filled in
    let fewer : c.self.inside.used - 1 ≤ length c.self.inside.entries.items = omega arith in
    let now = length-lines c.self.inside.entries.items c.lower.new.ages (c.self.inside.used - 1) fewer in
    let was = length-lines c.self.inside.entries.items c.self.inside.ages c.self.inside.used filled in
    omega (arith, ap length c.self.view_is)

pub returns-clause-places : goal.returns-clause-places
returns-clause-places g c = are_places _ c.lower.new.ages (c.self.inside.used - 1) (invariant_of-self g c).0
