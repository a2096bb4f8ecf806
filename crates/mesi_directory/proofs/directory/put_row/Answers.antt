use Rattle.mesi_directory.proofs.RowLemmas.{rows_set}
use Rattle.mesi_directory.proofs.directory.put_row.Goals as goal

pub returns : goal.returns
returns c = rows_set c.args.rows.now.items c.args.place c.packed.result c.args.row c.packed.ensures
