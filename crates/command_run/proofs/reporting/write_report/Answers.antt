use Rattle.std.proofs.Common.{sym, subst, IsTrue}
use Rattle.std.proofs.lemmas.Result.{err_from_is_err_and, on_ok_weaker, on_err_weaker}
use Rattle.conda_host.proofs.Steps.{rose_for_all_after}
use Rattle.run_report.specs.Texts.{report_text}
use Rattle.streams.specs.Seen.{fault_in}
use Rattle.command_run.proofs.FrontFacts.{not_made}
use Rattle.command_run.proofs.ReportFacts.{report_made, report_written}
use Rattle.command_run.proofs.ReportSinks.{no_text, report_sinks_made, writes_report, report_fault, report_rose, report_file_is, report_front_is}
use Rattle.command_run.proofs.reporting.write_report.Goals as goal

pub returns-in_err-create-clause-keeps : goal.returns-in_err-create-clause-keeps
returns-in_err-create-clause-keeps g c = report_made c.args.name.now c.in_err-create.ensures.rest

pub returns-in_err-create-clause-front : goal.returns-in_err-create-clause-front
returns-in_err-create-clause-front g c =
    let p = err_from_is_err_and c.from_residual.result c.from_residual.ensures.1 in
    rw p.1 (λ told. not_made c.in_err-create.ensures.none)

pub write_made-requires-clause-made : goal.write_made-requires-clause-made
write_made-requires-clause-made g c = report_sinks_made (g.H.Host.state c.create.new.host) c.args.sinks.now c.args.name.now c.requires c.in_ok-create.ensures.ok

pub write_made-requires-clause-none : goal.write_made-requires-clause-none
write_made-requires-clause-none g c = no_text (g.H.Host.state c.create.new.host) c.args.sinks.now c.args.name.now c.requires c.in_ok-create.ensures.ok

pub returns-clause-ok : goal.returns-clause-ok
returns-clause-ok g c =
    let w = c.write_made in
    let run = c.args.run.now in
    on_ok_weaker w.result
    (λ held told.
    report_file_is (g.H.Host.state c.create.new.host) (g.H.Host.state w.new.host) c.args.sinks.now w.new.sinks (fault_in w.result) c.args.name.now (report_text (g.M.Shown.shown run.machine) run.events run.output_bytes)
    c.requires c.in_ok-create.ensures.ok w.ensures.led held (subst IsTrue (sym c.in_ok-create.ensures.rest.later.tells) told))
    w.ensures.ok

pub returns-clause-cause : goal.returns-clause-cause
returns-clause-cause g c =
    let w = c.write_made in
    on_err_weaker w.result (λ rose. (rose_for_all_after c.in_ok-create.ensures.rest.later rose).each c.args.name.now)
    (report_rose (g.H.Host.state c.create.new.host) (g.H.Host.state w.new.host) c.args.sinks.now w.new.sinks w.result c.requires w.ensures.led)

pub returns-clause-fault : goal.returns-clause-fault
returns-clause-fault g c =
    let w = c.write_made in
    report_fault (g.H.Host.state c.create.new.host) (g.H.Host.state w.new.host) c.args.sinks.now w.new.sinks w.result c.requires w.ensures.led

pub returns-clause-front : goal.returns-clause-front
returns-clause-front g c =
    let w = c.write_made in
    let run = c.args.run.now in
    on_err_weaker w.result
    (λ held told.
    report_front_is (g.H.Host.state c.args.host.now) (g.H.Host.state c.create.new.host) (g.H.Host.state w.new.host) c.args.sinks.now w.new.sinks (fault_in w.result) c.args.name.now (report_text (g.M.Shown.shown run.machine) run.events run.output_bytes)
    c.requires c.in_ok-create.ensures.ok w.ensures.led held (subst IsTrue (sym c.in_ok-create.ensures.rest.later.tells) told))
    w.ensures.err

pub returns-clause-keeps : goal.returns-clause-keeps
returns-clause-keeps g c =
    let w = c.write_made in
    report_written c.args.name.now c.in_ok-create.ensures.ok c.in_ok-create.ensures.rest
    (writes_report (g.H.Host.state c.create.new.host) (g.H.Host.state w.new.host) c.args.sinks.now w.new.sinks (fault_in w.result) c.args.name.now c.requires c.in_ok-create.ensures.ok w.ensures.led)
