use Rattle.std.proofs.Common.{ap, sym, ◌∙◌}
use Rattle.set_assoc.specs.Seen.{without_places}
use Rattle.set_assoc.proofs.SeenFacts.{found_seen, absent_seen, sets_seen, removed_seen, not_removed}
use Rattle.set_assoc.proofs.sets.Sets.remove.Goals as goal

pub returns-in-Some-clause-old : goal.returns-in-Some-clause-old
returns-in-Some-clause-old g c = rw (← c.self.view_is) (sym (found_seen c.self.inside.lines c.args.line c.in-Some.kept (sym c.in-Some.ensures.value)))

pub returns-in-None-clause-old : goal.returns-in-None-clause-old
returns-in-None-clause-old g c = rw (← c.self.view_is) (sym (absent_seen c.self.inside.lines c.args.line (sym c.in-None.ensures.value)))

pub returns-in-Some-clause-removed : goal.returns-in-Some-clause-removed
returns-in-Some-clause-removed g c = rw (← c.self.view_is) (ap (λ s. without_places s) c.remove.ensures.removed ∙ removed_seen c.self.inside.lines c.args.line)

pub returns-in-Some-clause-kept : goal.returns-in-Some-clause-kept
returns-in-Some-clause-kept g c = sets_seen _ c.remove.ensures.kept.sets

pub returns-in-None-clause-removed : goal.returns-in-None-clause-removed
returns-in-None-clause-removed g c = rw (← c.self.view_is) (not_removed (without_places c.self.inside.lines) c.args.line (absent_seen c.self.inside.lines c.args.line (sym c.in-None.ensures.value)))

pub returns-in-None-clause-kept : goal.returns-in-None-clause-kept
returns-in-None-clause-kept g c = rw (← c.self.view_is) (sets_seen c.self.inside.lines c.in-None.ensures.kept.sets)
