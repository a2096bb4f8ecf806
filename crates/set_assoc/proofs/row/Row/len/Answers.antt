use Rattle.std.proofs.Common.{sym, length, ap, ◌∙◌}
use Rattle.set_assoc.proofs.RowLemmas.{length-lines}
use Rattle.set_assoc.proofs.row.Row.len.Goals as goal

pub returns : goal.returns
returns g c = sym (length-lines _ _ _ c.self.invariant.0.filled) ∙ ap length c.self.view_is
