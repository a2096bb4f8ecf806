use Rattle.run_report.specs.Texts.{report_text}
use Rattle.conda_engine.proofs.SelfRunFacts.{is_unwritten, is_written}
use Rattle.conda_engine.proofs.generated.report_run.Goals as goal

pub returns-in-Ok-clause-answers : goal.returns-in-Ok-clause-answers
returns-in-Ok-clause-answers g c =
    let run = c.args.run.now in
    is_written c.args.report.now (report_text (g.M.Shown.shown run.machine) run.events run.output_bytes)
    (g.H.Host.state c.args.host.now) (g.H.Host.state c.write_report.new.host) c.in-Ok.ensures.ok c.in-Ok.ensures.keeps

pub returns-in-Err-clause-answers : goal.returns-in-Err-clause-answers
returns-in-Err-clause-answers g c =
    let run = c.args.run.now in
    is_unwritten c.args.report.now (report_text (g.M.Shown.shown run.machine) run.events run.output_bytes)
    (g.H.Host.state c.args.host.now) (g.H.Host.state c.write_report.new.host) c.in-Err.ensures.cause c.in-Err.ensures.front c.in-Err.ensures.keeps
