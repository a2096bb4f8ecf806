use Rattle.run_report.specs.Texts.{texts_below, cache_text}
use Rattle.run_report.proofs.report.write_caches.Given as goal

abbrev pub invariant-loop-hart : goal.invariant-loop-hart
invariant-loop-hart g l = g.T.ReportTarget.wrote l.fn.target l.target (texts_below (cache_text (g.C.Shown.shown l.chip)) l.hart)
