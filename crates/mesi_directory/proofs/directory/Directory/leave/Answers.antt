use Rattle.std.proofs.Common.{◌≡◌, ◌-◌, get_or, set, ap, ◌∙◌}
use Rattle.mesi_directory.specs.declared.row.Row.TheVariants.{Nobody}
use Rattle.mesi_directory.specs.Rows.{has_holder, row_of, with_row, without_holder, unpacked_rows}
use Rattle.mesi_directory.proofs.RowLemmas.{AreRows-set, row_of-with_row_same, has-without}
use Rattle.mesi_directory.proofs.directory.Directory.leave.Goals as goal

pub invariant_of-self : goal.invariant_of-self
invariant_of-self c = rw c.put_row.ensures (AreRows-set (unpacked_rows c.self.inside.rows.items) c.place-place.result c.without-row.result c.self.invariant c.without-row.ensures.valid)

pub returns-clause-others : goal.returns-clause-others
returns-clause-others c =
    let place : c.place-place.result ≡ c.args.l.0 - c.self.inside.first.0 = rw (← c.self.view_is) at c.place-place.ensures.place in
    let was : c.row_in.result ≡ row_of (record { first = c.self.inside.first.0; rows = unpacked_rows c.self.inside.rows.items }) c.args.l = c.row_in.ensures.value ∙ ap (λ k. get_or (unpacked_rows c.self.inside.rows.items) k Nobody) place in
    rw (← c.self.view_is)
    (ap (λ rows. record { first = c.self.inside.first.0; rows = rows }) (c.put_row.ensures ∙ ap (λ k. set (unpacked_rows c.self.inside.rows.items) k c.without-row.result) place) ∙ ap (λ row. with_row (record { first = c.self.inside.first.0; rows = unpacked_rows c.self.inside.rows.items }) c.args.l row) (c.without-row.ensures.value ∙ ap (λ row. without_holder row c.args.h) was))

pub returns-clause-row : goal.returns-clause-row
returns-clause-row c =
    ap (λ d. row_of d c.args.l) (returns-clause-others c) ∙ row_of-with_row_same c.args.self.now c.args.l (without_holder (row_of c.args.self.now c.args.l) c.args.h) c.requires.line

pub returns-clause-holders : goal.returns-clause-holders
returns-clause-holders c = λ k. ap (λ r. has_holder r k) (returns-clause-row c) ∙ has-without (row_of c.args.self.now c.args.l) c.args.h k c.requires.held

pub returns-clause-kept : goal.returns-clause-kept
returns-clause-kept c = invariant_of-self c
