use Rattle.std.proofs.Common.{subst}
use Rattle.rv32_asm.specs.Faults.{IsFault}
use Rattle.assembly_commands.proofs.AssemblingFacts.{read_bad}
use Rattle.assembly_commands.proofs.assembling.status_of_source.Goals as goal

pub returns-in-Bad-clause-said : goal.returns-in-Bad-clause-said
returns-in-Bad-clause-said c = λ text fault. read_bad text c.in-Bad.line c.in-Bad.why (subst (IsFault text) c.in-Bad.is fault)
