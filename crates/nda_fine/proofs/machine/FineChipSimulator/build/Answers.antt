use Rattle.std.proofs.Common.{refl}
use Rattle.std.specs.Prelude.{[], Result, Ok, Err, IfOk}
use Rattle.baseline_laws.specs.Rules.{fine_rules, fine_shape}
use Rattle.chip_laws.specs.Design.{Design, design_for}
use Rattle.plain_chip.specs.Views.{PlainView}
use Rattle.plain_chip.proofs.ReportFacts.{reports_are_of_events}
use Rattle.nda_fine.specs.Fine.{FineReports, FineStands}
use Rattle.nda_fine.proofs.machine.FineChipSimulator.build.Goals as goal

reports : {E : Type 0} (d : Design) (made : Result PlainView E) → IfOk made (λ chip. FineStands d chip [])
    → IfOk made (λ chip. FineReports d chip [])
reports d (Ok chip) stands = record {
  stands = stands;
  report = reports_are_of_events d (fine_shape d) (fine_rules d) chip [] refl stands.shows;
}
reports d (Err e) stands = tt

pub returns-clause-stands : goal.returns-clause-stands
returns-clause-stands c = reports (design_for c.args.config.now c.args.image) c.new.result c.new.ensures
