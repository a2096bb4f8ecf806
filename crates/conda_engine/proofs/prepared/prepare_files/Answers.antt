use Rattle.chip_config.specs.Settings.{settings}
use Rattle.std.proofs.lemmas.Result.{err_from_is_err_and}
use Rattle.command_answers.proofs.ReadingFacts.{config_unread, image_unread, reads_both}
use Rattle.conda_engine.proofs.prepared.prepare_files.Goals as goal

pub returns-clause-rest : goal.returns-clause-rest
returns-clause-rest g c = reads_both c.in_ok-config.ensures.rest c.in_ok-image.ensures.rest

pub returns-in_err-config-clause-rest : goal.returns-in_err-config-clause-rest
returns-in_err-config-clause-rest g c =
    let p = err_from_is_err_and c.from_residual.result c.from_residual.ensures.1 in
    rw (p.1, p.2) (config_unread c.args.names.now.config.now c.in_err-config.field-0.0 c.in_err-config.ensures.err c.in_err-config.ensures.rest)

pub returns-in_err-image-clause-rest : goal.returns-in_err-image-clause-rest
returns-in_err-image-clause-rest g c =
    let p = err_from_is_err_and c.from_residual-in_err-image.result c.from_residual-in_err-image.ensures.1 in
    rw (p.1, p.2) (image_unread (settings c.in_ok-config.config) c.args.names.now.image.now c.in_err-image.field-0.0 c.in_err-image.ensures.err c.in_ok-config.ensures.rest c.in_err-image.ensures.rest)
