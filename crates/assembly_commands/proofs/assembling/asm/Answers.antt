use Rattle.conda_host.specs.declared.outside.Role.TheVariants as role
use Rattle.command_run.specs.Driving.{bytes_of_file}
use Rattle.assembly_commands.specs.Assembling.{image_read, source_limit}
use Rattle.command_words.specs.Words.{program_named}
use Rattle.assembly_commands.proofs.AssemblingFacts.{asm_ends, loadable_made, loadable_unmade, says_read}
use Rattle.assembly_commands.proofs.MakingFacts.{made_answers, refused_answers}
use Rattle.assembly_commands.proofs.assembling.asm.Goals as goal

pub returns-in-Ok-clause-answers : goal.returns-in-Ok-clause-answers
returns-in-Ok-clause-answers g c = record {
  said = image_read (bytes_of_file (g.H.Host.state c.args.host.now) c.args.files.now.source.now);
  says = says_read (bytes_of_file (g.H.Host.state c.args.host.now) c.args.files.now.source.now);
  answers = made_answers image_read (g.H.Host.state c.args.host.now) (g.H.Host.state c.read_image.new.host) (g.H.Host.state c.write_file.new.host) role.Source role.Program source_limit
      c.args.files.now.source.now c.args.files.now.program.now c.in-Ok.image.items c.write_file.result
      c.in-Ok.ensures.ok c.in-Ok.ensures.rest (rw c.deref.ensures.value at c.write_file.ensures.answers);
}

pub returns-in-Err-clause-answers : goal.returns-in-Err-clause-answers
returns-in-Err-clause-answers g c = record {
  said = image_read (bytes_of_file (g.H.Host.state c.args.host.now) c.args.files.now.source.now);
  says = says_read (bytes_of_file (g.H.Host.state c.args.host.now) c.args.files.now.source.now);
  answers = refused_answers image_read (g.H.Host.state c.args.host.now) (g.H.Host.state c.read_image.new.host) role.Source role.Program source_limit
      c.args.files.now.source.now c.args.files.now.program.now c.in-Err.status
      c.in-Err.ensures.err c.in-Err.ensures.rest;
}

pub returns-in-Ok-clause-loadable : goal.returns-in-Ok-clause-loadable
returns-in-Ok-clause-loadable g c =
    loadable_made (program_named c.args.files.now) (g.H.Host.state c.args.host.now) (g.H.Host.state c.read_image.new.host) (g.H.Host.state c.write_file.new.host) c.in-Ok.image.items c.write_file.result
    c.in-Ok.ensures.ok c.in-Ok.ensures.rest (rw c.deref.ensures.value at c.write_file.ensures.answers)

pub returns-in-Err-clause-loadable : goal.returns-in-Err-clause-loadable
returns-in-Err-clause-loadable g c =
    loadable_unmade (program_named c.args.files.now) (g.H.Host.state c.args.host.now) (g.H.Host.state c.read_image.new.host) c.in-Err.status c.in-Err.ensures.err

pub returns-in-Ok-clause-end : goal.returns-in-Ok-clause-end
returns-in-Ok-clause-end g c = asm_ends c.write_file.result c.write_file.ensures.end
