use Rattle.std.proofs.Common.{subst}
use Rattle.command_run.specs.Driving.{bytes_of_file}
use Rattle.command_answers.specs.Answers.{Answers}
use Rattle.conda_engine.specs.Ends.{StandsAfter, account_of, events_until}
use Rattle.command_answers.specs.Preparing.{design_in}
use Rattle.conda_engine.specs.Rows.{drive_command, schedule_outcome}
use Rattle.conda_engine.proofs.driving.drive.Goals as goal

pub returns-clause-answers : goal.returns-clause-answers
returns-clause-answers g c =
    let d = design_in c.args.p in
    let h = g.H.Host.state c.args.host.now in
    subst (λ f. Answers (drive_command f) (schedule_outcome (account_of g.M.Machine g.M.Simulator.report) d (bytes_of_file h f.schedule)) h (g.H.Host.state c.drive_task-status.new.host) c.drive_task-status.result)
    c.into_parts-files.ensures.files (c.drive_task-status.ensures.answers d c.into_parts-files.ensures.stands)

pub returns-clause-machine : goal.returns-clause-machine
returns-clause-machine g c =
    let d = design_in c.args.p in
    let h = g.H.Host.state c.args.host.now in
    subst (λ f. StandsAfter g.M.Machine d h (bytes_of_file h f.schedule) c.drive_task-status.result c.drive_task-status.new.task.run.machine)
    c.into_parts-files.ensures.files (c.drive_task-status.ensures.machine d c.into_parts-files.ensures.stands)

pub returns-clause-lawful : goal.returns-clause-lawful
returns-clause-lawful g c = λ told ends.
    let d = design_in c.args.p in
    let h = g.H.Host.state c.args.host.now in
    g.met.M.Machine.lawful d c.drive_task-status.new.task.run.machine (events_until c.drive_task-status.result d (bytes_of_file h c.args.p.files.schedule))
    (subst (λ f. StandsAfter g.M.Machine d h (bytes_of_file h f.schedule) c.drive_task-status.result c.drive_task-status.new.task.run.machine)
    c.into_parts-files.ensures.files (c.drive_task-status.ensures.machine d c.into_parts-files.ensures.stands) told ends)
