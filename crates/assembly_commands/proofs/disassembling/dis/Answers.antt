use Rattle.conda_host.specs.declared.outside.Role.TheVariants as role
use Rattle.assembly_commands.specs.Disassembling.{text_said}
use Rattle.command_answers.specs.Verdict.{image_limit}
use Rattle.command_words.specs.Words.{program_named}
use Rattle.assembly_commands.proofs.DisassemblingFacts.{dis_ends, text_made, text_unmade}
use Rattle.assembly_commands.proofs.MakingFacts.{made_answers, refused_answers}
use Rattle.assembly_commands.proofs.disassembling.dis.Goals as goal

pub returns-in-Ok-clause-answers : goal.returns-in-Ok-clause-answers
returns-in-Ok-clause-answers g c =
    made_answers text_said (g.H.Host.state c.args.host.now) (g.H.Host.state c.read_text.new.host) (g.H.Host.state c.write_file.new.host) role.Program role.Source image_limit
    c.args.files.now.program.now c.args.files.now.source.now c.in-Ok.text.items c.write_file.result
    c.in-Ok.ensures.ok c.in-Ok.ensures.rest (rw c.deref.ensures.value at c.write_file.ensures.answers)

pub returns-in-Err-clause-answers : goal.returns-in-Err-clause-answers
returns-in-Err-clause-answers g c =
    refused_answers text_said (g.H.Host.state c.args.host.now) (g.H.Host.state c.read_text.new.host) role.Program role.Source image_limit
    c.args.files.now.program.now c.args.files.now.source.now c.in-Err.status
    c.in-Err.ensures.err c.in-Err.ensures.rest

pub returns-in-Ok-clause-back : goal.returns-in-Ok-clause-back
returns-in-Ok-clause-back g c =
    text_made (program_named c.args.files.now) (g.H.Host.state c.args.host.now) (g.H.Host.state c.read_text.new.host) (g.H.Host.state c.write_file.new.host) c.in-Ok.text.items c.write_file.result
    c.in-Ok.ensures.back c.in-Ok.ensures.rest (rw c.deref.ensures.value at c.write_file.ensures.answers)

pub returns-in-Err-clause-back : goal.returns-in-Err-clause-back
returns-in-Err-clause-back g c =
    text_unmade (program_named c.args.files.now) (g.H.Host.state c.args.host.now) (g.H.Host.state c.read_text.new.host) c.in-Err.status c.in-Err.ensures.err

pub returns-in-Ok-clause-end : goal.returns-in-Ok-clause-end
returns-in-Ok-clause-end g c = dis_ends c.write_file.result c.write_file.ensures.end
