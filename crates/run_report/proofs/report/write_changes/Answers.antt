use Rattle.std.proofs.Common.{◌+◌, ◌/◌, length, subst, arith}
use Rattle.std.proofs.lemmas.Result.{err_from_is_err_and}
use Rattle.run_report.specs.Texts.{changed_text}
use Rattle.run_report.proofs.ReportLemmas.{changes_are, lines_bound, loop_all, loop_next, loop_none, loop_stops}
use Rattle.run_report.proofs.report.write_changes.Goals as goal

pub overflow_add-first : goal.overflow_add-first
overflow_add-first g c =
    let bound = lines_bound (g.C.Shown.shown c.args.chip.now) c.lines-many.ensures.kept in
    omega arith

pub loop-place-init : goal.loop-place-init
loop-place-init g c =
    let v = g.C.Shown.shown c.args.chip.now in
    loop_none g.met.T.ReportTarget.joins c.args.target.now (λ place. changed_text v (v.base / v.line_bytes + place))

pub loop-place-preserved : goal.loop-place-preserved
loop-place-preserved g c =
    let v = g.C.Shown.shown c.args.chip.now in
    let at = c.loop-place in
    loop_next g.met.T.ReportTarget.joins c.args.target.now at.target c.write_change.new.target (λ k. changed_text v (v.base / v.line_bytes + k)) at.place at.invariant
    (subst (λ first. g.T.ReportTarget.wrote at.target c.write_change.new.target (changed_text v (first + at.place))) c.lines-many.ensures.first c.in_ok-write_change.ensures)

pub returns-in_err-write_change : goal.returns-in_err-write_change
returns-in_err-write_change g c =
    let v = g.C.Shown.shown c.args.chip.now in
    let at = c.loop-place in
    let stop = c.in_err-write_change.field-0.0 in
    let p = err_from_is_err_and c.from_residual.result c.from_residual.ensures.1 in
    rw (p.1, p.2)
    (loop_stops g.met.T.ReportTarget.joins c.args.target.now at.target c.write_change.new.target stop (λ k. changed_text v (v.base / v.line_bytes + k)) at.place (length v.memory / v.line_bytes) (changes_are v) (omega arith) at.invariant
    (subst (λ first. g.T.ReportTarget.stopped at.target c.write_change.new.target stop (changed_text v (first + at.place))) c.lines-many.ensures.first c.in_err-write_change.ensures))

pub returns : goal.returns
returns g c =
    let v = g.C.Shown.shown c.args.chip.now in
    loop_all g.met.T.ReportTarget.joins c.args.target.now c.loop-place.target (λ k. changed_text v (v.base / v.line_bytes + k)) c.loop-place.place (length v.memory / v.line_bytes) (changes_are v) (omega arith) c.loop-place.invariant
