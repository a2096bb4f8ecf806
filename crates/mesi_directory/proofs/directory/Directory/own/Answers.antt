use Rattle.std.proofs.Common.{◌≡◌, ◌-◌, set, ap, ◌∙◌}
use Rattle.mesi_directory.specs.declared.row.Row.TheVariants.{Owner}
use Rattle.mesi_directory.specs.Rows.{has_holder, row_of, unpacked_rows}
use Rattle.mesi_directory.proofs.RowLemmas.{AreRows-set, row_of-with_row_same, has-owner}
use Rattle.mesi_directory.proofs.directory.Directory.own.Goals as goal

pub invariant_of-self : goal.invariant_of-self
invariant_of-self c = rw c.put_row.ensures (AreRows-set (unpacked_rows c.self.inside.rows.items) c.place-place.result (Owner c.args.h) c.self.invariant c.requires.holder)

pub returns-clause-others : goal.returns-clause-others
returns-clause-others c =
    let place : c.place-place.result ≡ c.args.l.0 - c.self.inside.first.0 = rw (← c.self.view_is) at c.place-place.ensures.place in
    rw (← c.self.view_is)
    (ap (λ rows. record { first = c.self.inside.first.0; rows = rows }) (c.put_row.ensures ∙ ap (λ k. set (unpacked_rows c.self.inside.rows.items) k (Owner c.args.h)) place))

pub returns-clause-row : goal.returns-clause-row
returns-clause-row c =
    ap (λ d. row_of d c.args.l) (returns-clause-others c) ∙ row_of-with_row_same c.args.self.now c.args.l (Owner c.args.h) c.requires.line

pub returns-clause-holders : goal.returns-clause-holders
returns-clause-holders c = λ k. ap (λ r. has_holder r k) (returns-clause-row c) ∙ has-owner c.args.h k

pub returns-clause-kept : goal.returns-clause-kept
returns-clause-kept c = invariant_of-self c
