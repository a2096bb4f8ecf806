-- A fine-grained machine is a machine.
use Rattle.std.specs.Prelude.{◌≡◌, List, [], ◌++◌}
use Rattle.conda_base.specs.declared.actor.Actor.{Actor}
use Rattle.streams.specs.Fronts.{IsFrontOf}
use Rattle.chip_laws.specs.Design.{Design}
use Rattle.baseline_laws.specs.Laws.{AreFineLawful}
use Rattle.baseline_laws.specs.Rules.{fine_rules, fine_shape}
use Rattle.baseline_laws.proofs.GrowthFacts.{starts_empty}
use Rattle.baseline_laws.proofs.LawFacts.{fine_lawful}
use Rattle.plain_chip.specs.Views.{PlainView}
use Rattle.plain_chip.specs.MachineLaws.{goes_on, has_counts}
use Rattle.nda_fine.specs.Fine.{FineReports, fine_journal, fine_output}

pub has_fine_counts : (d : Design) (c : PlainView) (events : List Actor) → FineReports d c events
    → (c.config.harts ≡ d.config.harts) × (c.config.cores ≡ d.config.cores)
has_fine_counts d c events h = has_counts d (fine_shape d) (fine_rules d) c events h.stands

pub is_lawful : (d : Design) (c : PlainView) (events : List Actor) → FineReports d c events
    → AreFineLawful d events
is_lawful d c events h = fine_lawful d events h.stands.actors

pub fine_starts : (d : Design) → (fine_journal d [] ≡ []) × (fine_output d [] ≡ [])
fine_starts d = starts_empty (fine_rules d)

pub fine_goes_on : (d : Design) (events more : List Actor)
    → IsFrontOf (fine_journal d events) (fine_journal d (events ++ more))
    × IsFrontOf (fine_output d events) (fine_output d (events ++ more))
fine_goes_on d events more = goes_on (fine_rules d) events more
