use Rattle.std.proofs.Common.{ap, sym, ◌∙◌}
use Rattle.set_assoc.specs.Places.{placed}
use Rattle.set_assoc.specs.Seen.{without_places}
use Rattle.set_assoc.proofs.SeenFacts.{found_seen, absent_seen, sets_seen, replaced_seen, not_replaced}
use Rattle.set_assoc.proofs.sets.Sets.replace.Goals as goal

pub returns-in-Some-clause-old : goal.returns-in-Some-clause-old
returns-in-Some-clause-old g c = rw (← c.self.view_is) (sym (found_seen c.self.inside.lines c.args.line c.in-Some.kept (sym c.in-Some.ensures.value)))

pub returns-in-None-clause-old : goal.returns-in-None-clause-old
returns-in-None-clause-old g c = rw (← c.self.view_is) (sym (absent_seen c.self.inside.lines c.args.line (sym c.in-None.ensures.value)))

pub returns-in-Some-clause-written : goal.returns-in-Some-clause-written
returns-in-Some-clause-written g c = rw (← c.self.view_is) (ap (λ s. without_places s) c.replace.ensures.written ∙ replaced_seen c.self.inside.lines c.args.line (placed c.args.value c.in-Some.kept.place))

pub returns-in-Some-clause-kept : goal.returns-in-Some-clause-kept
returns-in-Some-clause-kept g c = sets_seen _ c.replace.ensures.kept.sets

pub returns-in-None-clause-written : goal.returns-in-None-clause-written
returns-in-None-clause-written g c = rw (← c.self.view_is) (not_replaced (without_places c.self.inside.lines) c.args.line c.args.value (absent_seen c.self.inside.lines c.args.line (sym c.in-None.ensures.value)))

pub returns-in-None-clause-kept : goal.returns-in-None-clause-kept
returns-in-None-clause-kept g c = rw (← c.self.view_is) (sets_seen c.self.inside.lines c.in-None.ensures.kept.sets)
