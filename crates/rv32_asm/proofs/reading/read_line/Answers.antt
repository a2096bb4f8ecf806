use Rattle.rv32_asm.proofs.GrammarLemmas.{statement_fits}
use Rattle.rv32_asm.proofs.reading.read_line.Goals as goal

pub returns-then-is_ascii-clause-fits : goal.returns-then-is_ascii-clause-fits
returns-then-is_ascii-clause-fits c = statement_fits c.args.line.now
