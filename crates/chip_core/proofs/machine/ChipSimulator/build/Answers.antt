use Rattle.std.specs.Prelude.{[], Result, Ok, Err, IfOk}
use Rattle.chip_laws.specs.Design.{Design, design_for}
use Rattle.chip_core.specs.MachineLaws.{StandsAndReports}
use Rattle.chip_core.specs.Shows.{Stands}
use Rattle.chip_core.specs.Views.{ChipView}
use Rattle.chip_core.proofs.ReportFacts.{reports_are_of_events}
use Rattle.chip_core.proofs.machine.ChipSimulator.build.Goals as goal

reports : {E : Type 0} (d : Design) (made : Result ChipView E) → IfOk made (λ chip. Stands d chip []) → IfOk made (λ chip. StandsAndReports d chip [])
reports d (Ok chip) stands = record { stands = stands; report = reports_are_of_events d chip [] stands }
reports d (Err e) stands = tt

pub returns-clause-stands : goal.returns-clause-stands
returns-clause-stands c = reports (design_for c.args.config.now c.args.image) c.new.result c.new.ensures
