-- One event of a hart, and one act of a kernel, on the parts of a machine without portions, by the
-- flat state that these show.
use Rattle.std.specs.Prelude.{ℕ, ◌≡◌, ◌≢◌, ◌<◌, ◌++◌, Bool, List, slice_get, slice_set, Option, Some, None}
use Rattle.schedule_log.specs.declared.entry.Entry.{Entry}
use Rattle.schedule_log.specs.declared.entry.Entry.TheVariants.{Step}
use Rattle.rv32_hart.specs.declared.regs.Regs.{Regs}
use Rattle.offload_calls.specs.declared.status.Core.{Core}
use Rattle.offload_calls.specs.declared.status.CoreStatus.{CoreStatus}
use Rattle.offload_calls.specs.State.{Setup, State, status_of, updated}
use Rattle.offload_calls.specs.CoreActs.{core_acts}
use Rattle.offload_calls.specs.LineUses.{LineUse}
use Rattle.run_report.specs.Runs.{executed}
use Rattle.baseline_laws.specs.Rules.{hart_entry}
use Rattle.hart_turns.specs.Flat.{LeavesUse, Traced, next_use}
use Rattle.hart_turns.specs.Plans.{Beside}

-- the line that the event uses
abbrev pub entry_use : Setup → State → Entry → Option LineUse
entry_use s f (Step h) = next_use s (f.harts h).regs
entry_use s f other = None

-- the registers of the cores that there are
abbrev pub ShowsRegs : Setup → State → List Regs → Type 0
ShowsRegs s f regs = (j : ℕ) → j < s.cores → slice_get regs j ≡ Some (f.cores j).regs

-- one event of hart h
pub record IsHartEvent
    (s : Setup) (f : State) (h : ℕ) (held : Bool) (old new : Traced) (after : Beside)
    (regs : List Regs) (entry : Entry) (puts : List ℕ) : Type 0 where
  pub entry_is : entry ≡ hart_entry s f h held
  pub hart : after.hart ≡ (executed s f entry).harts h
  pub others : (k : ℕ) → k ≢ h → (executed s f entry).harts k ≡ f.harts k
  pub statuses : (k : ℕ) → slice_get after.statuses k ≡ status_of s.cores (executed s f entry).cores k
  pub regs_are : ShowsRegs s (executed s f entry) regs
  pub memory : LeavesUse h (entry_use s f entry) (executed s f entry).memory old new
  pub output : (executed s f entry).output ≡ f.output ++ puts

-- the state after one act of core j that leaves it so
pub record IsKernelState (s : Setup) (f : State) (j : ℕ) (left : Core) (puts : List ℕ) : Type 0 where
  pub core : (core_acts s f j 1).cores ≡ updated f.cores j left
  pub harts : (core_acts s f j 1).harts ≡ f.harts
  pub output : (core_acts s f j 1).output ≡ f.output ++ puts

-- one act of core j by a holder
pub record IsKernelEvent
    (s : Setup) (f : State) (j holder : ℕ) (old new : Traced) (left : Core) (puts : List ℕ)
    : Type 0 where
  pub state : IsKernelState s f j left puts
  pub memory : LeavesUse holder (next_use s (f.cores j).regs) (core_acts s f j 1).memory old new

-- ---- the cores that the act changes

-- the statuses and registers of all cores
pub record CoreParts : Type 0 where
  pub statuses : List CoreStatus
  pub regs : List Regs

abbrev pub cores_of : List CoreStatus → List Regs → CoreParts
cores_of statuses regs = record { statuses = statuses; regs = regs }

-- one act of core j by a holder, which leaves the other cores as they were
pub record IsCoreAct
    (s : Setup) (f : State) (j holder : ℕ) (old new : Traced) (cores after : CoreParts)
    (puts : List ℕ) : Type 0 where
  pub left : Core
  pub event : IsKernelEvent s f j holder old new left puts
  pub statuses : after.statuses ≡ slice_set cores.statuses j left.status
  pub regs : after.regs ≡ slice_set cores.regs j left.regs
