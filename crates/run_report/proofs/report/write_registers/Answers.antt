use Rattle.std.proofs.Common.{arith}
use Rattle.std.proofs.lemmas.Result.{err_from_is_err_and}
use Rattle.run_report.specs.Texts.{register_text}
use Rattle.run_report.proofs.ReportLemmas.{registers_are, loop_all, loop_next, loop_none, loop_stops}
use Rattle.run_report.proofs.report.write_registers.Goals as goal

pub loop-number-init : goal.loop-number-init
loop-number-init g c =
    loop_none g.met.T.ReportTarget.joins c.args.target.now (register_text c.args.regs.now.x)

pub loop-number-preserved : goal.loop-number-preserved
loop-number-preserved g c =
    loop_next g.met.T.ReportTarget.joins c.args.target.now c.loop-number.target c.write_register.new.target (register_text c.args.regs.now.x) c.loop-number.number c.loop-number.invariant c.in_ok-write_register.ensures

pub returns-in_err-write_register : goal.returns-in_err-write_register
returns-in_err-write_register g c =
    let p = err_from_is_err_and c.from_residual.result c.from_residual.ensures.1 in
    rw (p.1, p.2) (loop_stops g.met.T.ReportTarget.joins c.args.target.now c.loop-number.target c.write_register.new.target c.in_err-write_register.field-0.0 (register_text c.args.regs.now.x) c.loop-number.number 32 (registers_are c.args.regs.now.x) (omega arith) c.loop-number.invariant c.in_err-write_register.ensures)

pub returns : goal.returns
returns g c =
    loop_all g.met.T.ReportTarget.joins c.args.target.now c.loop-number.target (register_text c.args.regs.now.x) c.loop-number.number 32 (registers_are c.args.regs.now.x) (omega arith) c.loop-number.invariant
