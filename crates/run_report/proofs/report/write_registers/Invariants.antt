use Rattle.run_report.specs.Texts.{texts_below, register_text}
use Rattle.run_report.proofs.report.write_registers.Given as goal

abbrev pub invariant-loop-number : goal.invariant-loop-number
invariant-loop-number g l = g.T.ReportTarget.wrote l.fn.target l.target (texts_below (register_text l.regs.x) l.number)
