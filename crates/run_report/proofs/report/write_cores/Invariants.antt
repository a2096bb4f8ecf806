use Rattle.run_report.specs.Texts.{texts_below, core_text}
use Rattle.run_report.proofs.report.write_cores.Given as goal

abbrev pub invariant-loop-number : goal.invariant-loop-number
invariant-loop-number g l = g.T.ReportTarget.wrote l.fn.target l.target (texts_below (core_text (g.C.Shown.shown l.chip)) l.number)
