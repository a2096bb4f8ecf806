use Rattle.run_report.specs.Texts.{texts_below, slot_text}
use Rattle.run_report.proofs.report.write_set.Given as goal

abbrev pub invariant-loop-way : goal.invariant-loop-way
invariant-loop-way g l = g.T.ReportTarget.wrote l.fn.target l.target (texts_below (slot_text (g.C.Shown.shown l.chip) l.hart l.set) l.way)
