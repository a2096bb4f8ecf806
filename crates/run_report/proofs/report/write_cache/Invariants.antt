use Rattle.run_report.specs.Texts.{texts_below, set_text}
use Rattle.run_report.proofs.report.write_cache.Given as goal

abbrev pub invariant-loop-set : goal.invariant-loop-set
invariant-loop-set g l = g.T.ReportTarget.wrote l.fn.target l.target (texts_below (set_text (g.C.Shown.shown l.chip) l.hart) l.set)
