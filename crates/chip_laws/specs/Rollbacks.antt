-- What the count of a core's rollbacks says of the entries before.
use Rattle.std.specs.Prelude.{ℕ, ◌≡◌, ◌<◌, ◌↔◌, List, None}
use Rattle.std.specs.List.{AllByRecursion}
use Rattle.conda_base.specs.declared.actor.Actor.{Actor}
use Rattle.chip_laws.specs.Design.{Design, IsDesign, IsActorOf}
use Rattle.chip_laws.specs.Entries.{is_back}
use Rattle.chip_laws.specs.Places.{world_at, IsLastAt}

-- the last try of core j before place t ended by a rollback, and none was opened since
abbrev pub IsRolledBack : Design → List Actor → ℕ → ℕ → Type 0
IsRolledBack d events j t = (s : ℕ) × IsLastAt (is_back j) d events j s t

-- where no try of a core is open, its count is above 0 exactly where its last try ended so
abbrev pub AlwaysRollbacks : Type 0
AlwaysRollbacks =
    (d : Design) (events : List Actor) (j t : ℕ) → IsDesign d → AllByRecursion (IsActorOf d) events
    → ((world_at d events t).seats j).opening ≡ None
    → (0 < ((world_at d events t).seats j).backs) ↔ IsRolledBack d events j t
