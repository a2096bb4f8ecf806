use Rattle.std.proofs.Common.{ap, ◌∙◌}
use Rattle.set_assoc.specs.Seen.{without_places}
use Rattle.set_assoc.proofs.SeenFacts.{empty_seen, sets_seen}
use Rattle.set_assoc.proofs.sets.Sets.new.Goals as goal

pub returns-clause-empty : goal.returns-clause-empty
returns-clause-empty g c = ap (λ s. without_places s) c.in_ok-lines.ensures.empty ∙ empty_seen c.args.ways c.args.sets

pub returns-clause-kept : goal.returns-clause-kept
returns-clause-kept g c = sets_seen _ c.in_ok-lines.ensures.kept.sets
