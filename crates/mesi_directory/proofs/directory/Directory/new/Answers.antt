use Rattle.std.proofs.Common.{◌≡◌, replicate, ap, ◌∙◌, rules}
use Rattle.mesi_directory.specs.Rows.{unpacked_rows}
use Rattle.mesi_directory.proofs.RowLemmas.{rows_none, AreRows-none}
use Rattle.mesi_directory.proofs.directory.Directory.new.Goals as goal

pub invariant_of-result : goal.invariant_of-result
invariant_of-result c =
    let items : c.in_ok-rows.rows.items ≡ replicate c.args.count 0 = search rules in
    rw (ap unpacked_rows items ∙ rows_none c.args.count) (AreRows-none c.args.count)

pub returns-clause-empty : goal.returns-clause-empty
returns-clause-empty c =
    let items : c.in_ok-rows.rows.items ≡ replicate c.args.count 0 = search rules in
    ap (λ rows. record { first = c.args.first.0; rows = rows }) (ap unpacked_rows items ∙ rows_none c.args.count)

pub returns-clause-kept : goal.returns-clause-kept
returns-clause-kept c = invariant_of-result c
