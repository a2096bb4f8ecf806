-- The entries of a list of events by their places, and where tries were opened and ended.
use Rattle.std.specs.Prelude.{ℕ, zero, suc, ◌≡◌, ◌<◌, ◌&&◌, Bool, true, false, List, take, nat_lt, slice_get, Option, Some, None, option_map, if◌then◌else◌}
use Rattle.std.specs.Option.{option_map_or}
use Rattle.conda_base.specs.declared.actor.Actor.{Actor}
use Rattle.schedule_log.specs.declared.entry.Entry.{Entry}
use Rattle.schedule_log.specs.declared.entry.Entry.TheVariants.{Commit, Back}
use Rattle.chip_laws.specs.Design.{Design}
use Rattle.chip_laws.specs.Rules.{World, Opening, next}
use Rattle.chip_laws.specs.Worlds.{world}
use Rattle.chip_laws.specs.Entries.{is_lock, is_spec, is_opening, is_boundary}

-- what stands before place t
abbrev pub world_at : Design → List Actor → ℕ → World
world_at d events t = world d (take t events)

-- the entry at place t
abbrev pub entry_at : Design → List Actor → ℕ → Option Entry
entry_at d events t = option_map (next d (world_at d events t)) (slice_get events t)

-- the entry at place t passes a test
abbrev pub is_at : (Entry → Bool) → Design → List Actor → ℕ → Bool
is_at test d events t = option_map_or test (entry_at d events t) false

-- place s is the last one before place t at which a try of core j was opened or ended, and its
-- entry passes the test
pub record IsLastAt
    (test : Entry → Bool) (d : Design) (events : List Actor) (j s t : ℕ) : Type 0 where
  pub before : s < t
  pub here : is_at test d events s ≡ true
  pub since : (u : ℕ) → s < u → u < t → is_at (is_boundary j) d events u ≡ false

-- place s is the last opening of core j before place t, and its try is open there
abbrev pub IsOpenedAt : Design → List Actor → ℕ → ℕ → ℕ → Type 0
IsOpenedAt d events j s t = IsLastAt (is_opening j) d events j s t

-- how many of the places between s and t are acts of core j's try
abbrev pub acts_between : Design → List Actor → ℕ → ℕ → ℕ → ℕ
acts_between d events j s zero = 0
acts_between d events j s (suc t) =
    if nat_lt s t && is_at (is_spec j) d events t then suc (acts_between d events j s t)
    else acts_between d events j s t

-- the try of core j that was opened at place s: from the registers that the core had there, with an
-- act for each Spec since, locked where it was opened by a Lock
pub record IsTryFrom (d : Design) (events : List Actor) (j s t : ℕ) (o : Opening) : Type 0 where
  pub place : IsOpenedAt d events j s t
  pub regs : o.regs ≡ ((world_at d events s).flat.cores j).regs
  pub acts : o.acts ≡ acts_between d events j s t
  pub locked : o.locked ≡ is_at (is_lock j) d events s

-- the open try before place t is the one that the entries before it opened
abbrev pub IsOpening : Design → List Actor → ℕ → ℕ → Option Opening → Type 0
IsOpening d events j t None = (s : ℕ) → IsOpenedAt d events j s t → ⊥
IsOpening d events j t (Some o) = (s : ℕ) × IsTryFrom d events j s t o

abbrev pub AlwaysOpenings : Type 0
AlwaysOpenings =
    (d : Design) (events : List Actor) (j t : ℕ)
    → IsOpening d events j t ((world_at d events t).seats j).opening

-- the try of n acts that core j's commit or rollback at place t ends was opened at place s
pub record IsEndFrom (d : Design) (events : List Actor) (j n s t : ℕ) : Type 0 where
  pub opened : IsOpenedAt d events j s t
  pub acts : n ≡ acts_between d events j s t

-- each commit and each rollback has the place of its opening
pub record HaveOpenings (d : Design) (events : List Actor) (t : ℕ) : Type 0 where
  pub commits : (j n cause : ℕ) → entry_at d events t ≡ Some (Commit j n cause)
      → (s : ℕ) × IsEndFrom d events j n s t
  pub backs : (j n cause : ℕ) → entry_at d events t ≡ Some (Back j n cause)
      → (s : ℕ) × IsEndFrom d events j n s t

abbrev pub AlwaysEnds : Type 0
AlwaysEnds = (d : Design) (events : List Actor) (t : ℕ) → HaveOpenings d events t
