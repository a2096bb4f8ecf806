use Rattle.std.proofs.Common.{◌∙◌}
use Rattle.std.proofs.lemmas.Result.{err_from_is_err_and}
use Rattle.run_report.specs.Texts.{registers_text}
use Rattle.run_report.proofs.ReportLemmas.{core_pieces, stops_first, then_last}
use Rattle.run_report.proofs.report.write_core.Goals as goal

pub returns-in_err-put : goal.returns-in_err-put
returns-in_err-put g c =
    let is = core_pieces (g.C.Shown.shown c.args.chip.now) c.args.number _ _ _ c.core-status.ensures.regs c.core-status.ensures.status (c.as_slice.ensures.value ∙ c.core_line.ensures) in
    let p = err_from_is_err_and c.from_residual.result c.from_residual.ensures.1 in
    rw (p.1, p.2)
    (stops_first g.met.T.ReportTarget.joins c.args.target.now c.put.new.self c.in_err-put.field-0.0 c.as_slice.result.now (registers_text c.core-status.result.0.x) is c.in_err-put.ensures)

pub returns : goal.returns
returns g c =
    let is = core_pieces (g.C.Shown.shown c.args.chip.now) c.args.number _ _ _ c.core-status.ensures.regs c.core-status.ensures.status (c.as_slice.ensures.value ∙ c.core_line.ensures) in
    then_last g.met.T.ReportTarget.joins c.write_registers.result c.args.target.now c.put.new.self c.write_registers.new.target c.as_slice.result.now (registers_text c.core-status.result.0.x) is c.in_ok-put.ensures c.write_registers.ensures
