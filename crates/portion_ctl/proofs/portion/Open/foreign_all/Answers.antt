use Rattle.portion_ctl.proofs.StandFacts.{heard-all}
use Rattle.portion_ctl.proofs.portion.Open.foreign_all.Goals as goal

pub returns-clause-hears : goal.returns-clause-hears
returns-clause-hears c =
    heard-all c.args.self.now c.join_foreign.new.self c.args.s.now c.join_foreign.ensures.bits c.join_foreign.ensures.set
