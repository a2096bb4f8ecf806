use Rattle.std.proofs.Common.{◌+◌, ◌/◌}
use Rattle.run_report.specs.Texts.{texts_below, changed_text}
use Rattle.run_report.proofs.report.write_changes.Given as goal

abbrev pub invariant-loop-place : goal.invariant-loop-place
invariant-loop-place g l =
    let v = g.C.Shown.shown l.chip in
    g.T.ReportTarget.wrote l.fn.target l.target (texts_below (λ place. changed_text v (v.base / v.line_bytes + place)) l.place)
