use Rattle.std.proofs.Common.{refl, ◌+◌}
use Rattle.chip_config.specs.Settings.{settings}
use Rattle.chip_laws.specs.Design.{design_for}
use Rattle.baseline_laws.specs.Rules.{fine_rules}
use Rattle.plain_chip.proofs.StandsFacts.{made-stands}
use Rattle.nda_fine.proofs.fine.FineChip.new.Goals as goal

pub returns : goal.returns
returns c =
    let d = design_for c.args.config.now c.args.image in
    made-stands d (c.args.config.now.harts + c.args.config.now.cores) (fine_rules d) c.in_ok-plain.plain refl c.in_ok-plain.ensures
