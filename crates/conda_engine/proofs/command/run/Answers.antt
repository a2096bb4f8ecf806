use Rattle.std.proofs.Common.{Some, inl, inr}
use Rattle.command_words.specs.Words.{named}
use Rattle.conda_engine.specs.Ends.{account_of}
use Rattle.conda_engine.proofs.CommandFacts.{answers_for, unready_for}
use Rattle.conda_engine.proofs.HeadlineFacts.{headline_for, unready_headline}
use Rattle.conda_engine.proofs.command.run.Goals as goal

pub returns-in-Ok-clause-answers : goal.returns-in-Ok-clause-answers
returns-in-Ok-clause-answers g c =
    answers_for (account_of g.M.Machine g.M.Simulator.report) (Some (named c.args.names.now)) (g.H.Host.state c.args.host.now) (g.H.Host.state c.prepare_files-prepared.new.host) (g.H.Host.state c.drive-status.new.host) c.in-Ok.prepared c.drive-status.result.0
    c.drive-status.ensures.late c.in-Ok.ensures.ready c.in-Ok.ensures.rest c.drive-status.ensures.answers

pub returns-in-Err-clause-answers : goal.returns-in-Err-clause-answers
returns-in-Err-clause-answers g c =
    unready_for (account_of g.M.Machine g.M.Simulator.report) (Some (named c.args.names.now)) (g.H.Host.state c.args.host.now) (g.H.Host.state c.prepare_files-prepared.new.host) c.in-Err.status
    c.in-Err.ensures.unready c.in-Err.ensures.rest

pub returns-in-Ok-clause-headline : goal.returns-in-Ok-clause-headline
returns-in-Ok-clause-headline g c =
    headline_for (account_of g.M.Machine g.M.Simulator.report) g.M.Machine.law (Some (named c.args.names.now)) (g.H.Host.state c.args.host.now) (g.H.Host.state c.prepare_files-prepared.new.host) (g.H.Host.state c.drive-status.new.host) c.in-Ok.prepared c.drive-status.result.0
    c.in-Ok.ensures.ready c.in-Ok.ensures.rest (returns-in-Ok-clause-answers g c) c.drive-status.ensures.lawful

pub returns-in-Err-clause-headline : goal.returns-in-Err-clause-headline
returns-in-Err-clause-headline g c =
    unready_headline (account_of g.M.Machine g.M.Simulator.report) g.M.Machine.law (Some (named c.args.names.now)) (g.H.Host.state c.args.host.now) (g.H.Host.state c.prepare_files-prepared.new.host) c.in-Err.status c.in-Err.ensures.unready

pub returns-in-Ok-clause-end : goal.returns-in-Ok-clause-end
returns-in-Ok-clause-end g c = inr c.drive-status.ensures.late

pub returns-in-Err-clause-end : goal.returns-in-Err-clause-end
returns-in-Err-clause-end g c = inl c.in-Err.ensures.unready.early
