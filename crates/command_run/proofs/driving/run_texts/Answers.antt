use Rattle.conda_host.specs.declared.outside.Role.TheVariants as role
use Rattle.command_run.specs.Names.{run_names}
use Rattle.command_run.proofs.TextFacts.{sinks_open, sinks_new, sinks_keep, sinks_cause, texts_run}
use Rattle.command_run.proofs.driving.run_texts.Goals as goal

pub run_files-requires-clause-open : goal.run_files-requires-clause-open
run_files-requires-clause-open g c =
    sinks_open (g.H.Host.state c.args.host.now) (run_names c.args.names.now) c.args.task.now.sinks c.requires.fresh.sinks c.requires.made c.requires.apart c.requires.opened

pub run_files-requires-clause-new : goal.run_files-requires-clause-new
run_files-requires-clause-new g c =
    sinks_new (g.H.Host.state c.args.host.now) (run_names c.args.names.now) c.args.task.now.sinks c.args.task.now.run c.requires.fresh.sinks c.requires.made c.requires.apart c.requires.fresh.events c.requires.fresh.bytes

pub returns-clause-runs : goal.returns-clause-runs
returns-clause-runs g c = λ d stands told.
    let h = g.H.Host.state c.args.host.now in
    let led = c.run_files.ensures.led in
    texts_run g.M.Machine d (h.role role.Schedule).left h (g.H.Host.state c.run_files.new.host) (run_names c.args.names.now) c.args.task.now.sinks c.run_files.new.task.sinks c.run_files.new.task.run c.run_files.result
    c.requires.fresh.sinks c.requires.made led.streaming led.same told (c.run_files.ensures.runs d stands told)

pub returns-clause-cause : goal.returns-clause-cause
returns-clause-cause g c =
    sinks_cause (g.H.Host.state c.args.host.now) (g.H.Host.state c.run_files.new.host) (run_names c.args.names.now) c.args.task.now.sinks c.run_files.result c.requires.fresh.sinks c.requires.made c.run_files.ensures.led.cause

pub returns-clause-keeps : goal.returns-clause-keeps
returns-clause-keeps g c =
    sinks_keep (g.H.Host.state c.args.host.now) (g.H.Host.state c.run_files.new.host) (run_names c.args.names.now) c.args.task.now.sinks c.requires.fresh.sinks c.requires.made c.run_files.ensures.led.streaming

pub returns-clause-opened : goal.returns-clause-opened
returns-clause-opened g c = c.run_files.ensures.led.streaming.opened c.requires.opened
