use Rattle.std.proofs.Common.{arith}
use Rattle.std.proofs.lemmas.Result.{err_from_is_err_and}
use Rattle.run_report.specs.Texts.{set_text}
use Rattle.run_report.proofs.ReportLemmas.{sets_are, loop_all, loop_next, loop_none, loop_stops}
use Rattle.run_report.proofs.report.write_cache.Goals as goal

pub loop-set-init : goal.loop-set-init
loop-set-init g c =
    let v = g.C.Shown.shown c.args.chip.now in
    loop_none g.met.T.ReportTarget.joins c.args.target.now (set_text v c.args.hart)

pub loop-set-preserved : goal.loop-set-preserved
loop-set-preserved g c =
    let v = g.C.Shown.shown c.args.chip.now in
    loop_next g.met.T.ReportTarget.joins c.args.target.now c.loop-set.target c.write_set.new.target (set_text v c.args.hart) c.loop-set.set c.loop-set.invariant c.in_ok-write_set.ensures

pub returns-in_err-write_set : goal.returns-in_err-write_set
returns-in_err-write_set g c =
    let v = g.C.Shown.shown c.args.chip.now in
    let p = err_from_is_err_and c.from_residual.result c.from_residual.ensures.1 in
    rw (p.1, p.2) (loop_stops g.met.T.ReportTarget.joins c.args.target.now c.loop-set.target c.write_set.new.target c.in_err-write_set.field-0.0 (set_text v c.args.hart) c.loop-set.set v.sets (sets_are v c.args.hart) (omega arith) c.loop-set.invariant c.in_err-write_set.ensures)

pub returns : goal.returns
returns g c =
    let v = g.C.Shown.shown c.args.chip.now in
    loop_all g.met.T.ReportTarget.joins c.args.target.now c.loop-set.target (set_text v c.args.hart) c.loop-set.set v.sets (sets_are v c.args.hart) (omega arith) c.loop-set.invariant
