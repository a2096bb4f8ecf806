use Rattle.std.proofs.Common.{arith}
use Rattle.std.proofs.lemmas.Result.{err_from_is_err_and}
use Rattle.run_report.specs.Texts.{cache_text}
use Rattle.run_report.proofs.ReportLemmas.{caches_are, loop_all, loop_next, loop_none, loop_stops}
use Rattle.run_report.proofs.report.write_caches.Goals as goal

pub loop-hart-init : goal.loop-hart-init
loop-hart-init g c =
    let v = g.C.Shown.shown c.args.chip.now in
    loop_none g.met.T.ReportTarget.joins c.args.target.now (cache_text v)

pub loop-hart-preserved : goal.loop-hart-preserved
loop-hart-preserved g c =
    let v = g.C.Shown.shown c.args.chip.now in
    loop_next g.met.T.ReportTarget.joins c.args.target.now c.loop-hart.target c.write_cache.new.target (cache_text v) c.loop-hart.hart c.loop-hart.invariant c.in_ok-write_cache.ensures

pub returns-in_err-write_cache : goal.returns-in_err-write_cache
returns-in_err-write_cache g c =
    let v = g.C.Shown.shown c.args.chip.now in
    let p = err_from_is_err_and c.from_residual.result c.from_residual.ensures.1 in
    rw (p.1, p.2) (loop_stops g.met.T.ReportTarget.joins c.args.target.now c.loop-hart.target c.write_cache.new.target c.in_err-write_cache.field-0.0 (cache_text v) c.loop-hart.hart v.harts (caches_are v) (omega arith) c.loop-hart.invariant c.in_err-write_cache.ensures)

pub returns : goal.returns
returns g c =
    let v = g.C.Shown.shown c.args.chip.now in
    loop_all g.met.T.ReportTarget.joins c.args.target.now c.loop-hart.target (cache_text v) c.loop-hart.hart v.harts (caches_are v) (omega arith) c.loop-hart.invariant
