use Rattle.std.proofs.Common.{arith}
use Rattle.std.proofs.lemmas.Result.{err_from_is_err_and}
use Rattle.run_report.specs.Texts.{slot_text}
use Rattle.run_report.proofs.ReportLemmas.{slots_are, loop_all, loop_next, loop_none, loop_stops}
use Rattle.run_report.proofs.report.write_set.Goals as goal

pub loop-way-init : goal.loop-way-init
loop-way-init g c =
    let v = g.C.Shown.shown c.args.chip.now in
    loop_none g.met.T.ReportTarget.joins c.args.target.now (slot_text v c.args.hart c.args.set)

pub loop-way-preserved : goal.loop-way-preserved
loop-way-preserved g c =
    let v = g.C.Shown.shown c.args.chip.now in
    loop_next g.met.T.ReportTarget.joins c.args.target.now c.loop-way.target c.write_slot.new.target (slot_text v c.args.hart c.args.set) c.loop-way.way c.loop-way.invariant c.in_ok-write_slot.ensures

pub returns-in_err-write_slot : goal.returns-in_err-write_slot
returns-in_err-write_slot g c =
    let v = g.C.Shown.shown c.args.chip.now in
    let p = err_from_is_err_and c.from_residual.result c.from_residual.ensures.1 in
    rw (p.1, p.2) (loop_stops g.met.T.ReportTarget.joins c.args.target.now c.loop-way.target c.write_slot.new.target c.in_err-write_slot.field-0.0 (slot_text v c.args.hart c.args.set) c.loop-way.way 8 (slots_are v c.requires.kept c.args.hart c.args.set) (omega arith) c.loop-way.invariant c.in_err-write_slot.ensures)

pub returns : goal.returns
returns g c =
    let v = g.C.Shown.shown c.args.chip.now in
    loop_all g.met.T.ReportTarget.joins c.args.target.now c.loop-way.target (slot_text v c.args.hart c.args.set) c.loop-way.way 8 (slots_are v c.requires.kept c.args.hart c.args.set) (omega arith) c.loop-way.invariant
