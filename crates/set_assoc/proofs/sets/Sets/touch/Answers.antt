use Rattle.std.proofs.Common.{ap, sym, ◌∙◌}
use Rattle.std.specs.Prelude.{is_some}
use Rattle.set_assoc.specs.Seen.{without_places}
use Rattle.set_assoc.proofs.SeenFacts.{found_seen, absent_seen, sets_seen, touched_seen, not_touched}
use Rattle.set_assoc.proofs.sets.Sets.touch.Goals as goal

pub returns-in-Some-clause-found : goal.returns-in-Some-clause-found
returns-in-Some-clause-found g c = rw (← c.self.view_is) (sym (ap (λ o. is_some o) (found_seen c.self.inside.lines c.args.line c.in-Some.kept (sym c.in-Some.ensures.value))))

pub returns-in-None-clause-found : goal.returns-in-None-clause-found
returns-in-None-clause-found g c = rw (← c.self.view_is) (ap (λ o. is_some o) (sym (absent_seen c.self.inside.lines c.args.line (sym c.in-None.ensures.value))))

pub returns-in-Some-clause-front : goal.returns-in-Some-clause-front
returns-in-Some-clause-front g c = rw (← c.self.view_is) (ap (λ s. without_places s) c.touch.ensures.front ∙ touched_seen c.self.inside.lines c.args.line)

pub returns-in-Some-clause-kept : goal.returns-in-Some-clause-kept
returns-in-Some-clause-kept g c = sets_seen _ c.touch.ensures.kept.sets

pub returns-in-None-clause-front : goal.returns-in-None-clause-front
returns-in-None-clause-front g c = rw (← c.self.view_is) (not_touched (without_places c.self.inside.lines) c.args.line (absent_seen c.self.inside.lines c.args.line (sym c.in-None.ensures.value)))

pub returns-in-None-clause-kept : goal.returns-in-None-clause-kept
returns-in-None-clause-kept g c = rw (← c.self.view_is) (sets_seen c.self.inside.lines c.in-None.ensures.kept.sets)
