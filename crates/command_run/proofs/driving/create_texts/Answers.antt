use Rattle.streams.proofs.UsingFacts.{keeps_trans}
use Rattle.command_run.specs.Names.{run_names}
use Rattle.std.proofs.Common.{sym, subst, IsTrue}
use Rattle.std.proofs.lemmas.Result.{err_from_is_err_and, on_err_weaker}
use Rattle.command_run.proofs.FrontFacts.{without_order, without_output}
use Rattle.command_run.proofs.StartFacts.{order_keeps, output_keeps}
use Rattle.command_run.proofs.driving.create_texts.Goals as goal

pub returns-in_err-create-clause-keeps : goal.returns-in_err-create-clause-keeps
returns-in_err-create-clause-keeps g c = order_keeps (run_names c.args.names.now) c.in_err-create.ensures.rest

pub returns-clause-keeps : goal.returns-clause-keeps
returns-clause-keeps g c =
    keeps_trans (order_keeps (run_names c.args.names.now) c.in_ok-create.ensures.rest)
    (output_keeps (run_names c.args.names.now) (g.H.Host.state c.create.new.host) (g.H.Host.state c.create_output.new.host) c.create_output.ensures.rest)

pub returns-in_err-create-clause-fronts : goal.returns-in_err-create-clause-fronts
returns-in_err-create-clause-fronts g c =
    let p = err_from_is_err_and c.from_residual.result c.from_residual.ensures.1 in
    rw p.1 (λ journal bytes told. without_order (run_names c.args.names.now) journal bytes c.in_err-create.ensures.none c.in_err-create.ensures.rest)

pub returns-clause-fronts : goal.returns-clause-fronts
returns-clause-fronts g c =
    on_err_weaker c.create_output.result
    (λ none journal bytes told.
    without_output (run_names c.args.names.now) (g.H.Host.state c.args.host.now) (g.H.Host.state c.create.new.host) (g.H.Host.state c.create_output.new.host) journal bytes c.requires
    (subst IsTrue (sym c.in_ok-create.ensures.rest.later.tells) told) c.in_ok-create.ensures.ok c.create_output.ensures.rest none)
    c.create_output.ensures.none
