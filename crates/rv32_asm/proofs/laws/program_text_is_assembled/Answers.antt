use Rattle.std.proofs.Common.{arith}
use Rattle.rv32_asm.proofs.ProgramTextLemmas.{small_from, program_back}
use Rattle.rv32_asm.proofs.laws.program_text_is_assembled.Goals as goal

pub returns : goal.returns
returns c = program_back c.args.at c.args.words.now (small_from c.args.words.now (λ i. omega (arith, c.type_inv.words i))) c.requires
