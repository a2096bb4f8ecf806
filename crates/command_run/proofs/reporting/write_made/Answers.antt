use Rattle.std.proofs.Common.{rules}
use Rattle.command_run.proofs.reporting.write_made.Goals as goal

pub returns-clause-led : goal.returns-clause-led
returns-clause-led g c = λ source.
    let led = c.write_over.ensures.led source in
    search rules
