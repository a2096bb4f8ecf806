use Rattle.std.proofs.lemmas.Result.{err_from_is_err_and, on_ok_weaker}
use Rattle.run_report.specs.Texts.{report_text}
use Rattle.run_report.proofs.ReportLemmas.{on_err}
use Rattle.streams.specs.Calls.{led_trans}
use Rattle.streams.proofs.PutFacts.{puts_shown}
use Rattle.command_run.proofs.ReportSinks.{front_held, text_held, unwritten_held}
use Rattle.command_run.proofs.reporting.write_over.Goals as goal

pub returns-in_err-write-clause-err : goal.returns-in_err-write-clause-err
returns-in_err-write-clause-err g c =
    let p = err_from_is_err_and c.from_residual.result c.from_residual.ensures.1 in
    let f = c.args.files.now in
    let k = c.write.new.streams in
    let run = c.args.run.now in
    rw p.1
    (front_held (g.H.Host.state f.host.now) (g.H.Host.state k.host.now) f.sinks.now k.sinks.now (report_text (g.M.Shown.shown run.machine) run.events run.output_bytes) k.made c.in_err-write.ensures.err c.requires)

pub returns-in_err-write-clause-led : goal.returns-in_err-write-clause-led
returns-in_err-write-clause-led g c =
    let p = err_from_is_err_and c.from_residual.result c.from_residual.ensures.1 in
    rw (p.1, p.2) c.in_err-write.ensures.leads.2

pub returns-clause-ok : goal.returns-clause-ok
returns-clause-ok g c =
    let j = c.write.new.streams in
    let k = c.finish.new.self in
    let run = c.args.run.now in
    on_ok_weaker c.finish.result
    (λ whole.
    text_held (g.H.Host.state j.host.now) (g.H.Host.state k.host.now) j.sinks.now k.sinks.now (report_text (g.M.Shown.shown run.machine) run.events run.output_bytes) k.made whole c.finish.ensures.seen
    (puts_shown c.in_ok-write.ensures.ok c.requires))
    c.finish.ensures.whole

pub returns-clause-err : goal.returns-clause-err
returns-clause-err g c =
    let j = c.write.new.streams in
    let k = c.finish.new.self in
    let run = c.args.run.now in
    on_err c.finish.result
    (unwritten_held (g.H.Host.state j.host.now) (g.H.Host.state k.host.now) j.sinks.now k.sinks.now (report_text (g.M.Shown.shown run.machine) run.events run.output_bytes) k.made c.finish.ensures.seen
    (puts_shown c.in_ok-write.ensures.ok c.requires))

pub returns-clause-led : goal.returns-clause-led
returns-clause-led g c = λ r. led_trans (c.in_ok-write.ensures.leads.2 r) (c.finish.ensures.led r)
