use Rattle.write_masks.proofs.MarkLemmas.{is_marked-or}
use Rattle.write_masks.proofs.masked.Masked.put.Goals as goal

pub returns-clause-marks : goal.returns-clause-marks
returns-clause-marks c =
    λ place. is_marked-or c.args.self.now.mask c.args.off c.args.size c.run_mask.result place c.run_mask.ensures
