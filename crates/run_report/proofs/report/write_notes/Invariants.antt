use Rattle.run_report.specs.Texts.{texts_below, note_at_text}
use Rattle.run_report.proofs.report.write_notes.Given as goal

abbrev pub invariant-loop-place : goal.invariant-loop-place
invariant-loop-place g l = g.T.ReportTarget.wrote l.fn.target l.target (texts_below (note_at_text (g.C.Shown.shown l.chip)) l.place)
