use Rattle.std.proofs.Common.{eq-eqb, eqb-true}
use Rattle.write_masks.proofs.MarkLemmas.{covers_from_and, and_from_covers}
use Rattle.write_masks.proofs.masked.Masked.covers.Goals as goal

pub returns : goal.returns
returns c = (
  λ same. covers_from_and _ _ _ _ c.run_mask-run.ensures (eqb-true _ _ same),
  λ covers. eq-eqb _ _ (and_from_covers _ _ _ _ c.run_mask-run.ensures covers),
)
