-- What a call of a hart comes to.
use Rattle.std.specs.Prelude.{ℕ, ◌≡◌, List, slice_get, slice_set}
use Rattle.offload_calls.specs.declared.status.Hart.{Hart}
use Rattle.offload_calls.specs.declared.status.CoreStatus.{CoreStatus}
use Rattle.offload_calls.specs.declared.status.CoreStatus.TheVariants as Core_is
use Rattle.offload_calls.specs.State.{launched_core}
use Rattle.offload_calls.specs.HartAct.{CoreChange, Stays, Starts, Rests, call_effect}
use Rattle.fallback_lock.specs.Locks.{Counts, with_backs}
use Rattle.chip_core.specs.declared.stage.Stage.{Stage}
use Rattle.chip_core.specs.declared.cores.Cores.{Cores}
use Rattle.chip_core.specs.Steps.{with_started}

abbrev pub changed_statuses : CoreChange → List CoreStatus → List CoreStatus
changed_statuses Stays statuses = statuses
changed_statuses (Starts j entry arg) statuses = slice_set statuses j Core_is.Run
changed_statuses (Rests j) statuses = slice_set statuses j Core_is.Idle

abbrev pub changed_portions : CoreChange → List Stage → List Stage
changed_portions Stays portions = portions
changed_portions (Starts j entry arg) portions =
    with_started portions j (launched_core entry arg).regs
changed_portions (Rests j) portions = portions

abbrev pub changed_lock : CoreChange → Counts → Counts
changed_lock Stays lock = lock
changed_lock (Starts j entry arg) lock = with_backs lock j 0
changed_lock (Rests j) lock = lock

-- the hart and the cores after a call of it, and the bytes that it puts
pub record MakesCall (hart : Hart) (old new : Cores) (left : Hart) (puts : List ℕ) : Type 0 where
  pub hart_is : left ≡ (call_effect (slice_get old.statuses.items) hart.regs).hart
  pub statuses : new.statuses.items
      ≡ changed_statuses (call_effect (slice_get old.statuses.items) hart.regs).change
      old.statuses.items
  pub portions : new.portions.items
      ≡ changed_portions (call_effect (slice_get old.statuses.items) hart.regs).change
      old.portions.items
  pub lock : new.lock
      ≡ changed_lock (call_effect (slice_get old.statuses.items) hart.regs).change old.lock
  pub puts_are : puts ≡ (call_effect (slice_get old.statuses.items) hart.regs).puts
