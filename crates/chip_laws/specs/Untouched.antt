-- No byte that a committed portion loaded from outside was stored to since its opening.
use Rattle.std.specs.Prelude.{ℕ, ◌≡◌, ◌<◌, true, false, List, [], Some}
use Rattle.std.specs.Option.{option_map_or}
use Rattle.conda_base.specs.declared.actor.Actor.{Actor}
use Rattle.schedule_log.specs.declared.entry.Entry.{Entry}
use Rattle.schedule_log.specs.declared.entry.Entry.TheVariants.{Step, Commit}
use Rattle.offload_calls.specs.Stores.{is_listed, stored_addresses}
use Rattle.offload_calls.specs.HartAct.{hart_stores}
use Rattle.offload_calls.specs.CoreActs.{outside, written}
use Rattle.chip_laws.specs.Design.{Design, IsDesign, setup_of}
use Rattle.chip_laws.specs.Rules.{World}
use Rattle.chip_laws.specs.Places.{world_at, entry_at, IsOpenedAt}

-- the addresses that an entry stores to
abbrev pub stores_of : Design → World → Entry → List ℕ
stores_of d w (Step h) = stored_addresses (hart_stores (setup_of d) w.flat h)
stores_of d w (Commit j n cause) = written (setup_of d) w.flat j n
stores_of d w other = []

abbrev pub stores_at : Design → List Actor → ℕ → List ℕ
stores_at d events t = option_map_or (stores_of d (world_at d events t)) (entry_at d events t) []

-- the addresses that the portion of n acts at place t loads from outside
abbrev pub outside_at : Design → List Actor → ℕ → ℕ → ℕ → List ℕ
outside_at d events t j n = outside (setup_of d) (world_at d events t).flat j n

-- The portion that the commit at place t ends was opened at place s, and no place between stores to
-- an address that it loaded from outside, whatever the values stored.
pub record IsUntouched (d : Design) (events : List Actor) (j n s t : ℕ) : Type 0 where
  pub opened : IsOpenedAt d events j s t
  pub apart : (u : ℕ) → s < u → u < t
      → (addr : ℕ) → is_listed (outside_at d events t j n) addr ≡ true
      → is_listed (stores_at d events u) addr ≡ false

-- so for each commit
abbrev pub Untouched : Design → List Actor → Type 0
Untouched d events =
    (t j n cause : ℕ) → entry_at d events t ≡ Some (Commit j n cause)
    → (s : ℕ) × IsUntouched d events j n s t

abbrev pub AlwaysUntouched : Type 0
AlwaysUntouched = (d : Design) (events : List Actor) → IsDesign d → Untouched d events
