use Rattle.portion_ctl.proofs.StandFacts.{heard}
use Rattle.portion_ctl.proofs.portion.Open.foreign.Goals as goal

pub returns-clause-hears : goal.returns-clause-hears
returns-clause-hears c = heard c.args.self.now c.insert_foreign.new.self c.args.l c.insert_foreign.ensures.set
