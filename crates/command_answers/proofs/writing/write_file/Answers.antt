use Rattle.command_answers.proofs.LastFileFacts.{all_written, not_made, part_written}
use Rattle.command_answers.proofs.writing.write_file.Goals as goal

pub returns-in-Ok-write_all-clause-answers : goal.returns-in-Ok-write_all-clause-answers
returns-in-Ok-write_all-clause-answers g c =
    all_written c.args.role c.args.name.now c.args.text.now (g.H.Host.state c.args.host.now) (g.H.Host.state c.create.new.self) (g.H.Host.state c.write_all.new.host)
    c.in-Ok.ensures.ok c.in-Ok.ensures.rest c.in-Ok-write_all.ensures.rest c.in-Ok-write_all.ensures.ok

pub returns-in-Err-write_all-clause-answers : goal.returns-in-Err-write_all-clause-answers
returns-in-Err-write_all-clause-answers g c =
    part_written c.args.role c.args.name.now c.args.text.now (g.H.Host.state c.args.host.now) (g.H.Host.state c.create.new.self) (g.H.Host.state c.write_all.new.host)
    c.in-Ok.ensures.ok c.in-Ok.ensures.rest c.in-Err-write_all.ensures.rest c.in-Err-write_all.ensures.cause c.in-Err-write_all.ensures.err

pub returns-in-Err-clause-answers : goal.returns-in-Err-clause-answers
returns-in-Err-clause-answers g c =
    not_made c.args.role c.args.name.now c.args.text.now (g.H.Host.state c.args.host.now) (g.H.Host.state c.create.new.self)
    c.in-Err.ensures.err c.in-Err.ensures.cause c.in-Err.ensures.rest
