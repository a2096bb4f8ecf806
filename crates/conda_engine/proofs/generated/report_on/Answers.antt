use Rattle.std.proofs.Common.{subst}
use Rattle.command_answers.specs.Answers.{Answers}
use Rattle.conda_engine.specs.Ends.{account_of}
use Rattle.command_answers.specs.LastFile.{text_outcome}
use Rattle.conda_engine.specs.SelfRun.{self_command, self_outcome}
use Rattle.conda_engine.proofs.SelfRunFacts.{is_unmade, report_of_first}
use Rattle.conda_engine.proofs.generated.report_on.Goals as goal

pub returns-in-Ok-clause-answers : goal.returns-in-Ok-clause-answers
returns-in-Ok-clause-answers g c = λ seed count ran.
    subst (λ text. Answers (self_command c.args.report.now) (text_outcome text) (g.H.Host.state c.args.host.now) (g.H.Host.state c.report_run.new.host) c.report_run.result)
    (report_of_first g.M.Machine g.M.Shown.shown g.M.Simulator.report (record { same = λ t m events h. g.met.M.Simulator.reports t m events h }) seed count c.in-Ok.run' (rw c.in-Ok.is at ran))
    c.report_run.ensures.answers

pub returns-in-Err-clause-answers : goal.returns-in-Err-clause-answers
returns-in-Err-clause-answers g c = λ seed count ran.
    is_unmade c.args.report.now (self_outcome (account_of g.M.Machine g.M.Simulator.report) seed count) (g.H.Host.state c.args.host.now)
