use Rattle.streams.proofs.StreamFacts.{true_false}
use Rattle.streams.proofs.UsingFacts.{keeps_reading, keeps_trans}
use Rattle.command_run.specs.Names.{run_names}
use Rattle.std.proofs.Common.{◌∙◌, refl, sym, subst, IsTrue}
use Rattle.std.proofs.lemmas.Result.{err_from_is_err_and, on_err_weaker}
use Rattle.command_run.proofs.FrontFacts.{only_read, after_reading}
use Rattle.command_run.proofs.StartFacts.{schedule_keeps}
use Rattle.command_run.proofs.driving.start.Goals as goal

pub returns-in_err-open-clause-keeps : goal.returns-in_err-open-clause-keeps
returns-in_err-open-clause-keeps g c = schedule_keeps (run_names c.args.names.now) c.in_err-open.ensures.rest

pub returns-clause-keeps : goal.returns-clause-keeps
returns-clause-keeps g c = keeps_trans (schedule_keeps (run_names c.args.names.now) c.in_ok-open.ensures.rest) c.create_texts.ensures.keeps

pub returns-in_err-open-clause-fronts : goal.returns-in_err-open-clause-fronts
returns-in_err-open-clause-fronts g c =
    let p = err_from_is_err_and c.from_residual.result c.from_residual.ensures.1 in
    rw p.1 (λ journal bytes told. only_read (run_names c.args.names.now) journal bytes c.in_err-open.ensures.rest)

pub returns-clause-fronts : goal.returns-clause-fronts
returns-clause-fronts g c =
    on_err_weaker c.create_texts.result
    (λ fronts journal bytes told.
    after_reading (run_names c.args.names.now) (g.H.Host.state c.args.host.now) (g.H.Host.state c.open.new.host) (g.H.Host.state c.create_texts.new.host) journal bytes c.in_ok-open.ensures.rest
    (fronts journal bytes (subst IsTrue (sym c.in_ok-open.ensures.rest.later.tells) told)))
    c.create_texts.ensures.fronts

pub returns-in_err-open-clause-unopened : goal.returns-in_err-open-clause-unopened
returns-in_err-open-clause-unopened g c = λ closed. keeps_reading refl c.in_err-open.ensures.rest

pub returns-clause-unopened : goal.returns-clause-unopened
returns-clause-unopened g c = λ closed. true_false (c.create_texts.ensures.schedule ∙ c.in_ok-open.ensures.ok.opened) closed
