use Rattle.std.proofs.Common.{◌≡◌, get_or, sym, ap, ◌∙◌}
use Rattle.mesi_directory.specs.Rows.{IsRow, unpacked}
use Rattle.mesi_directory.proofs.RowLemmas.{row_at}
use Rattle.std.proofs.lemmas.List.{get_or_default}
use Rattle.mesi_directory.proofs.directory.row_in.Goals as goal

pub unpacked-requires : goal.unpacked-requires
unpacked-requires c =
    let same : c.index.result.now ≡ get_or c.args.rows.now.items c.args.place 0 = c.index.ensures ∙ get_or_default c.args.rows.now.items c.args.place c.index.result.now 0 c.requires.within in
    let is : IsRow (unpacked (get_or c.args.rows.now.items c.args.place 0)) = rw (row_at c.args.rows.now.items c.args.place c.requires.within) at (c.requires.valid c.args.place) in
    rw (ap unpacked same) is

pub returns-clause-value : goal.returns-clause-value
returns-clause-value c =
    let same : c.index.result.now ≡ get_or c.args.rows.now.items c.args.place 0 = c.index.ensures ∙ get_or_default c.args.rows.now.items c.args.place c.index.result.now 0 c.requires.within in
    c.unpacked.ensures ∙ ap unpacked same ∙ sym (row_at c.args.rows.now.items c.args.place c.requires.within)

pub returns-clause-valid : goal.returns-clause-valid
returns-clause-valid c = rw (returns-clause-value c) (c.requires.valid c.args.place)
