-- What holds of the events of every run.
use Rattle.std.specs.Prelude.{◌≡◌, List}
use Rattle.std.specs.List.{AllByRecursion}
use Rattle.conda_base.specs.declared.actor.Actor.{Actor}
use Rattle.line_memory.specs.Owners.{HasSingleOwners}
use Rattle.run_report.specs.Runs.{flat_run}
use Rattle.chip_laws.specs.Balance.{Balance}
use Rattle.chip_laws.specs.Bounded.{Bounded}
use Rattle.chip_laws.specs.Design.{Design, IsDesign, IsActorOf, setup_of, hart_shape}
use Rattle.chip_laws.specs.Untouched.{Untouched}
use Rattle.chip_laws.specs.Worlds.{journal, world}

-- The flat state is one memory that executes the written order alone; no committed portion read a
-- byte that was overwritten since its opening; rollbacks, locks, acts and flushes are bounded; a
-- line that is owned is held by one hart; and what came into caches left them or is there.
pub record AreLawful (d : Design) (events : List Actor) : Type 0 where
  pub flat : (world d events).flat ≡ flat_run (setup_of d) (journal d events)
  pub untouched : Untouched d events
  pub bounded : Bounded d events
  pub owners : HasSingleOwners (hart_shape d) (world d events).tags
  pub balance : Balance d events

abbrev pub AlwaysLawful : Type 0
AlwaysLawful =
    (d : Design) (events : List Actor) → IsDesign d → AllByRecursion (IsActorOf d) events
    → AreLawful d events
