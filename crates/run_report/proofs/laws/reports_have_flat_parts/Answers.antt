use Rattle.run_report.proofs.FlatFacts.{report-flat}
use Rattle.run_report.proofs.laws.reports_have_flat_parts.Goals as goal

pub returns : goal.returns
returns c = report-flat
