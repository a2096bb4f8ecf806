use Rattle.std.proofs.Common.{ap, ◌∙◌}
use Rattle.set_assoc.specs.Seen.{without_places}
use Rattle.set_assoc.proofs.SeenFacts.{sets_seen, cleared_seen}
use Rattle.set_assoc.proofs.sets.Sets.clear.Goals as goal

pub returns-clause-empty : goal.returns-clause-empty
returns-clause-empty g c = rw (← c.self.view_is) (ap (λ s. without_places s) c.clear.ensures.empty ∙ cleared_seen c.self.inside.lines)

pub returns-clause-kept : goal.returns-clause-kept
returns-clause-kept g c = sets_seen _ c.clear.ensures.kept.sets
