-- What every core keeps, whatever its events were.
use Rattle.std.specs.Prelude.{ℕ, ◌≡◌, ◌==◌, ◌<◌, ◌≤◌, Bool, true, false, List, [], length, slice_get, Option, Some, None}
use Rattle.chip_config.specs.Settings.{Settings}
use Rattle.rv32_hart.specs.Code.{CodeView}
use Rattle.rv32_hart.specs.Regs.{start_regs}
use Rattle.offload_calls.specs.declared.status.CoreStatus.{CoreStatus}
use Rattle.fallback_lock.specs.Locks.{Counts, backs_of}
use Rattle.try_runs.specs.Limits.{limits_of}
use Rattle.bloom_sig.specs.Images.{IsImage}
use Rattle.portion_ctl.specs.Views.{OpenView}
use Rattle.conflict_resolve.specs.InRange.{IsPortion}
use Rattle.chip_core.specs.declared.stage.Stage.{Stage}
use Rattle.chip_core.specs.declared.stage.Stage.TheVariants as Stage_is

-- the locked core
abbrev pub is_locked_core : Option ℕ → ℕ → Bool
is_locked_core None j = false
is_locked_core (Some k) j = k == j

-- an open try that runs under the lock
abbrev pub is_locked_open : Stage → Bool
is_locked_open (Stage_is.Ready s) = false
is_locked_open (Stage_is.Open s) = s.locked
is_locked_open (Stage_is.Flushing s) = false
is_locked_open Stage_is.Moved = false

-- an open try of core j is a portion of the code, and under the lock no line is foreign to it
pub record FitsTry (c : Settings) (code : CodeView) (j : ℕ) (s : OpenView) : Type 0 where
  pub core : s.core ≡ j
  pub limits : s.limits ≡ limits_of c
  pub portion : IsPortion code s
  pub alone : s.locked ≡ true → IsImage s.foreign_set []

-- a core's portion has its number and the limits of the configuration
abbrev pub FitsCore : Settings → CodeView → ℕ → Stage → Type 0
FitsCore c code j (Stage_is.Ready s) = (s.core ≡ j) × (s.limits ≡ limits_of c)
FitsCore c code j (Stage_is.Open s) = FitsTry c code j s
FitsCore c code j (Stage_is.Flushing s) = (s.core ≡ j) × (s.limits ≡ limits_of c)
FitsCore c code j Stage_is.Moved = ⊥

-- a core that was never launched
abbrev pub resting : Settings → ℕ → Stage
resting c j = Stage_is.Ready (record { core = j; limits = limits_of c; regs = start_regs 0 })

-- every core that the configuration has was never launched
pub record AreAtRest (c : Settings) (held : List Stage) : Type 0 where
  pub many : length held ≡ c.cores
  pub each : (j : ℕ) → j < c.cores → slice_get held j ≡ Some (resting c j)

-- There are as many cores as the configuration has, each with its portion and at most `retries`
-- rollbacks. A core is locked exactly where its try is open under the lock.
pub record FitCores
    (c : Settings) (code : CodeView) (stands : List CoreStatus) (held : List Stage) (lock : Counts)
    : Type 0 where
  pub statuses : length stands ≡ c.cores
  pub portions : length held ≡ c.cores
  pub counts : length lock.backs ≡ c.cores
  pub few : (j : ℕ) → backs_of lock j ≤ lock.retries
  pub each : (j : ℕ) (p : Stage) → slice_get held j ≡ Some p → FitsCore c code j p
  pub locked : (j : ℕ) (p : Stage) → slice_get held j ≡ Some p
      → is_locked_core lock.locked j ≡ is_locked_open p
