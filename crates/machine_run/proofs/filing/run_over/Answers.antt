use Rattle.std.proofs.Common.{refl}
use Rattle.std.proofs.lemmas.Result.{err_from_is_err_and}
use Rattle.streams.specs.Calls.{led_by}
use Rattle.streams.specs.Streaming.{seen_over}
use Rattle.machine_run.proofs.FilingFacts.{starts_run, fronts_filed, ended_filed, run_filed}
use Rattle.machine_run.proofs.filing.run_over.Goals as goal

pub returns-in_err-ending-clause-runs : goal.returns-in_err-ending-clause-runs
returns-in_err-ending-clause-runs g c = λ s stands told.
    let p = err_from_is_err_and c.from_residual.result c.from_residual.ensures.1 in
    let f = c.args.files.now in
    let h = g.H.Host.state f.host.now in
    let k = c.run_schedule.new.streams in
    let bytes = (h.role f.source).left in
    rw p.1
    (fronts_filed g.M.Machine s bytes (g.H.Host.state k.host.now) k.source k.sinks.now k.«open».made
    (c.in_err-ending.ensures.runs s bytes (record { told = told; same = refl })
    (starts_run g.M.Machine s (seen_over h f.source f.sinks.now) c.args.run.now (g.met.M.Machine.starts s) stands c.requires.new)))

pub returns-in_err-finish-clause-runs : goal.returns-in_err-finish-clause-runs
returns-in_err-finish-clause-runs g c = λ s stands told.
    let p = err_from_is_err_and c.from_residual-in_err-finish.result c.from_residual-in_err-finish.ensures.1 in
    let f = c.args.files.now in
    let h = g.H.Host.state f.host.now in
    let j = c.run_schedule.new.streams in
    let k = c.finish.new.self in
    let bytes = (h.role f.source).left in
    rw p.1
    (ended_filed g.M.Machine s bytes (g.H.Host.state k.host.now) k.source k.sinks.now (seen_over (g.H.Host.state j.host.now) j.source j.sinks.now) c.run_schedule.new.run c.in_ok-ending.ending k.«open».made c.finish.ensures.seen
    (c.in_ok-ending.ensures.runs s bytes (record { told = told; same = refl })
    (starts_run g.M.Machine s (seen_over h f.source f.sinks.now) c.args.run.now (g.met.M.Machine.starts s) stands c.requires.new)))

pub returns-in_err-finish-clause-led : goal.returns-in_err-finish-clause-led
returns-in_err-finish-clause-led g c =
    let p = err_from_is_err_and c.from_residual-in_err-finish.result c.from_residual-in_err-finish.ensures.1 in
    let leads = c.in_ok-ending.ensures.leads in
    rw (p.1, p.2) (led_by leads.2 leads.3 c.in_err-finish.ensures.led)

pub returns-clause-runs : goal.returns-clause-runs
returns-clause-runs g c = λ s stands told.
    let f = c.args.files.now in
    let h = g.H.Host.state f.host.now in
    let j = c.run_schedule.new.streams in
    let k = c.finish.new.self in
    let bytes = (h.role f.source).left in
    run_filed g.M.Machine s bytes (g.H.Host.state k.host.now) k.source k.sinks.now (seen_over (g.H.Host.state j.host.now) j.source j.sinks.now) c.run_schedule.new.run c.in_ok-ending.ending k.«open».made c.in_ok-finish.ensures.whole c.finish.ensures.seen
    (c.in_ok-ending.ensures.runs s bytes (record { told = told; same = refl })
    (starts_run g.M.Machine s (seen_over h f.source f.sinks.now) c.args.run.now (g.met.M.Machine.starts s) stands c.requires.new))

pub returns-clause-led : goal.returns-clause-led
returns-clause-led g c =
    let leads = c.in_ok-ending.ensures.leads in
    led_by leads.2 leads.3 c.in_ok-finish.ensures.led
