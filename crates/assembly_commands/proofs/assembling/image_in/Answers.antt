use Rattle.assembly_commands.proofs.AssemblingFacts.{read_assembled}
use Rattle.assembly_commands.proofs.assembling.image_in.Goals as goal

pub returns-in_ok-plain-in-Ok-clause-ok : goal.returns-in_ok-plain-in-Ok-clause-ok
returns-in_ok-plain-in-Ok-clause-ok c =
    rw c.in_ok-plain-in-Ok.ensures (read_assembled c.args.text.now c.in-Ok.program.at c.in-Ok.program.words.items c.in-Ok.ensures.program)

pub returns-in-Err-clause-err : goal.returns-in-Err-clause-err
returns-in-Err-clause-err c = c.status_of_source.ensures.said c.args.text.now c.in-Err.ensures.fault
