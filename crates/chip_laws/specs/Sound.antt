-- What every list of events keeps of the world.
use Rattle.std.specs.Prelude.{ℕ, ◌≡◌, ◌<◌, ◌≤◌, ◌==◌, true, false, List, [], length, Option, Some, None}
use Rattle.std.specs.List.{AllByRecursion}
use Rattle.conda_base.specs.declared.Line.{Line}
use Rattle.conda_base.specs.declared.actor.Actor.{Actor}
use Rattle.conda_base.specs.LineLists.{names}
use Rattle.line_memory.specs.Owners.{HasSingleOwners}
use Rattle.offload_calls.specs.declared.status.CoreStatus.TheVariants as Core_is
use Rattle.try_runs.specs.Serial.{IsSetup, IsLong}
use Rattle.chip_laws.specs.Design.{Design, IsDesign, IsActorOf, setup_of, hart_shape}
use Rattle.chip_laws.specs.Rules.{World, Opening, try_of, is_locked, dirty_of}
use Rattle.chip_laws.specs.Worlds.{flat_line, world}

-- ---- what the Fresh law rests on, for any actors

-- an open try: its core stands where it opened, and lines that are not foreign are clean and as
-- they were
pub record OpenFits (d : Design) (w : World) (j : ℕ) (o : Opening) : Type 0 where
  pub runs : (w.flat.cores j).status ≡ Core_is.Run
  pub regs : (w.flat.cores j).regs ≡ o.regs
  pub clean : (l : Line) → names o.foreign l ≡ false → names (dirty_of d w) l ≡ false
  pub fresh : (l : Line) → names o.foreign l ≡ false → names (try_of d o).reads l ≡ true
      → o.fills l ≡ flat_line d w.flat l

abbrev pub FitsAt : Design → World → ℕ → Option Opening → Type 0
FitsAt d w j None = Unit {0}
FitsAt d w j (Some o) = OpenFits d w j o

-- memory is as long as the image, a clean line's copy is what flat memory has, and open tries fit
pub record KeepsFresh (d : Design) (w : World) : Type 0 where
  pub setup : IsSetup (setup_of d)
  pub long : IsLong (setup_of d) w.flat
  pub copies : (l : Line) → names (dirty_of d w) l ≡ false → w.copies l ≡ flat_line d w.flat l
  pub opens : (j : ℕ) → FitsAt d w j (w.seats j).opening

-- ---- what the Bounded law rests on

-- no core but j has a locked try open
abbrev pub OthersFree : Design → World → ℕ → Type 0
OthersFree d w j =
    (k : ℕ) → k < d.config.cores → (k == j) ≡ false → is_locked (w.seats k).opening ≡ false

-- an open try of a core that there is, with no more acts than it may have and no flushes due; one
-- that isn't locked may still roll back, and a locked one is alone, with no line foreign to it
pub record IsOpenSound (d : Design) (w : World) (j : ℕ) (o : Opening) : Type 0 where
  pub few : o.acts ≤ d.config.portion_max
  pub range : j < d.config.cores
  pub settled : (w.seats j).due ≡ 0
  pub free : o.locked ≡ false → (w.seats j).backs < d.config.retries
  pub alone : o.locked ≡ true → (o.foreign ≡ []) × OthersFree d w j

abbrev pub SoundAt : Design → World → ℕ → Option Opening → Type 0
SoundAt d w j None = Unit {0}
SoundAt d w j (Some o) = IsOpenSound d w j o

-- rollbacks are no more than retries, a core with rollbacks or with flushes due is Run, and open
-- tries are sound
pub record KeepsBounds (d : Design) (w : World) : Type 0 where
  pub fresh : KeepsFresh d w
  pub backs : (j : ℕ) → (w.seats j).backs ≤ d.config.retries
  pub run : (j : ℕ) → 0 < (w.seats j).backs → (w.flat.cores j).status ≡ Core_is.Run
  pub due : (j : ℕ) → 0 < (w.seats j).due → (w.flat.cores j).status ≡ Core_is.Run
  pub opens : (j : ℕ) → SoundAt d w j (w.seats j).opening

-- ---- every world that is reached

pub record IsSound (d : Design) (w : World) : Type 0 where
  pub bounds : KeepsBounds d w
  pub owners : HasSingleOwners (hart_shape d) w.tags
  pub short : (h set : ℕ) → length (w.tags h set) ≤ d.config.hart_ways

abbrev pub AlwaysSound : Type 0
AlwaysSound =
    (d : Design) (events : List Actor) → IsDesign d → AllByRecursion (IsActorOf d) events
    → IsSound d (world d events)
