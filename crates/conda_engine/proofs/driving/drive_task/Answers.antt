use Rattle.std.proofs.lemmas.Result.{on_err_weaker}
use Rattle.conda_engine.specs.Files.{names_in}
use Rattle.conda_engine.proofs.EndFacts.{answers_named, drive_late, stands_named}
use Rattle.conda_engine.proofs.driving.drive_task.Goals as goal

pub returns-clause-late : goal.returns-clause-late
returns-clause-late g c = rw c.run_status.ensures (drive_late _ _ _ c.carry_out-ran.result c.carry_out-ran.ensures.cause)

pub returns-clause-answers : goal.returns-clause-answers
returns-clause-answers g c = λ d stands.
    rw c.run_status.ensures
    (answers_named g.M.Machine g.M.Shown.shown g.M.Simulator.report (record { same = λ t m events h. g.met.M.Simulator.reports t m events h })
    _ (names_in c.args.files.now) d (g.H.Host.state c.args.host.now) (g.H.Host.state c.carry_out-ran.new.host) c.carry_out-ran.new.task.run c.carry_out-ran.result c.run_names-names.ensures
    (c.carry_out-ran.ensures.ends d stands)
    (on_err_weaker c.carry_out-ran.result (λ fronts. fronts d stands) c.carry_out-ran.ensures.fronts)
    c.carry_out-ran.ensures.cause c.carry_out-ran.ensures.unopened c.carry_out-ran.ensures.keeps)

pub returns-clause-machine : goal.returns-clause-machine
returns-clause-machine g c = λ d stands.
    rw c.run_status.ensures
    (stands_named g.M.Machine g.M.Shown.shown _ (names_in c.args.files.now) d (g.H.Host.state c.args.host.now) (g.H.Host.state c.carry_out-ran.new.host) c.carry_out-ran.new.task.run c.carry_out-ran.result c.run_names-names.ensures
    (c.carry_out-ran.ensures.ends d stands))
