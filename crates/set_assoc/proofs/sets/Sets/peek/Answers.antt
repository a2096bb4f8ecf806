use Rattle.std.proofs.Common.{sym}
use Rattle.set_assoc.proofs.SeenFacts.{found_seen, absent_seen, sets_seen}
use Rattle.set_assoc.proofs.sets.Sets.peek.Goals as goal

pub returns-in-Some-clause-value : goal.returns-in-Some-clause-value
returns-in-Some-clause-value g c = rw (← c.self.view_is) (sym (found_seen c.self.inside.lines c.args.line c.in-Some.kept (sym c.in-Some.ensures.value)))

pub returns-in-Some-clause-sets : goal.returns-in-Some-clause-sets
returns-in-Some-clause-sets g c = rw (← c.self.view_is) (sets_seen c.self.inside.lines c.in-Some.ensures.kept.sets)

pub returns-in-None-clause-value : goal.returns-in-None-clause-value
returns-in-None-clause-value g c = rw (← c.self.view_is) (sym (absent_seen c.self.inside.lines c.args.line (sym c.in-None.ensures.value)))

pub returns-in-None-clause-sets : goal.returns-in-None-clause-sets
returns-in-None-clause-sets g c = rw (← c.self.view_is) (sets_seen c.self.inside.lines c.in-None.ensures.kept.sets)
