use Rattle.std.proofs.Common.{arith}
use Rattle.std.proofs.lemmas.Result.{err_from_is_err_and}
use Rattle.run_report.specs.Texts.{hart_text}
use Rattle.run_report.proofs.ReportLemmas.{harts_are, loop_all, loop_next, loop_none, loop_stops}
use Rattle.run_report.proofs.report.write_harts.Goals as goal

pub loop-number-init : goal.loop-number-init
loop-number-init g c =
    let v = g.C.Shown.shown c.args.chip.now in
    loop_none g.met.T.ReportTarget.joins c.args.target.now (hart_text v)

pub loop-number-preserved : goal.loop-number-preserved
loop-number-preserved g c =
    let v = g.C.Shown.shown c.args.chip.now in
    loop_next g.met.T.ReportTarget.joins c.args.target.now c.loop-number.target c.write_hart.new.target (hart_text v) c.loop-number.number c.loop-number.invariant c.in_ok-write_hart.ensures

pub returns-in_err-write_hart : goal.returns-in_err-write_hart
returns-in_err-write_hart g c =
    let v = g.C.Shown.shown c.args.chip.now in
    let p = err_from_is_err_and c.from_residual.result c.from_residual.ensures.1 in
    rw (p.1, p.2) (loop_stops g.met.T.ReportTarget.joins c.args.target.now c.loop-number.target c.write_hart.new.target c.in_err-write_hart.field-0.0 (hart_text v) c.loop-number.number v.harts (harts_are v) (omega arith) c.loop-number.invariant c.in_err-write_hart.ensures)

pub returns : goal.returns
returns g c =
    let v = g.C.Shown.shown c.args.chip.now in
    loop_all g.met.T.ReportTarget.joins c.args.target.now c.loop-number.target (hart_text v) c.loop-number.number v.harts (harts_are v) (omega arith) c.loop-number.invariant
