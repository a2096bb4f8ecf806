use Rattle.chip_core.proofs.ReportFacts.{reports_are_of_events}
use Rattle.chip_core.proofs.reports_are_of_events.Goals as goal

pub returns : goal.returns
returns c = reports_are_of_events
