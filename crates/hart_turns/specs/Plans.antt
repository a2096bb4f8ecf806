-- What an event of a hart or a kernel comes to where it touches no memory, and what it leaves to be
-- done where it does.
use Rattle.std.specs.Prelude.{ℕ, ◌≡◌, Bool, true, false, List, [], slice_get, slice_set, Option, Some, None, Result, Ok, Err}
use Rattle.rv32_hart.specs.declared.regs.Regs.{Regs}
use Rattle.rv32_hart.specs.declared.regs.Trap.{Trap}
use Rattle.rv32_hart.specs.declared.act.Planned.{Planned}
use Rattle.rv32_hart.specs.Code.{CodeView}
use Rattle.rv32_hart.specs.Act.{IsPlan, plan_of, is_call_access}
use Rattle.offload_calls.specs.declared.status.Hart.{Hart}
use Rattle.offload_calls.specs.declared.status.Core.{Core}
use Rattle.offload_calls.specs.declared.status.CoreStatus.{CoreStatus}
use Rattle.offload_calls.specs.declared.status.CoreStatus.TheVariants as Core_is
use Rattle.offload_calls.specs.HartAct.{CoreChange, Stays, Starts, Rests, HartEffect, call_effect, plan_effect, waits_next}
use Rattle.offload_calls.specs.CoreActs.{KernelEffect, kernel_effect}
use Rattle.hart_turns.specs.declared.calls.Launch.{Launch}
use Rattle.hart_turns.specs.declared.plans.Turn.{Turn}
use Rattle.hart_turns.specs.declared.plans.Turn.TheVariants as Turn_is

abbrev pub changed_statuses : CoreChange → List CoreStatus → List CoreStatus
changed_statuses Stays statuses = statuses
changed_statuses (Starts j entry arg) statuses = slice_set statuses j Core_is.Run
changed_statuses (Rests j) statuses = slice_set statuses j Core_is.Idle

-- the core that a call starts
abbrev pub launch_of : CoreChange → Option Launch
launch_of Stays = None
launch_of (Starts j entry arg) = Some (record { core = j; entry = entry; arg = arg })
launch_of (Rests j) = None

-- a plan that touches no memory: a trap or a call
abbrev pub is_quiet : Result Planned Trap → Bool
is_quiet (Err trap) = true
is_quiet (Ok p) = is_call_access p.access

-- the act that is still to be made is this one, and it is no call
pub record IsToBeMade (code : CodeView) (r : Regs) (p : Planned) : Type 0 where
  pub plan : plan_of code r ≡ Ok p
  pub plain : is_call_access p.access ≡ false
  pub fits : IsPlan code p

-- ---- harts

-- a hart, beside the statuses of the cores
pub record Beside : Type 0 where
  pub hart : Hart
  pub statuses : List CoreStatus

abbrev pub beside : Hart → List CoreStatus → Beside
beside hart statuses = record { hart = hart; statuses = statuses }

-- an effect on hart and statuses, with the core that it starts and the bytes that it puts
pub record HasEffect (e : HartEffect) (old new : Beside) (starts : Option Launch) (puts : List ℕ)
    : Type 0 where
  pub hart_is : new.hart ≡ e.hart
  pub statuses_are : new.statuses ≡ changed_statuses e.change old.statuses
  pub starts_is : starts ≡ launch_of e.change
  pub puts_are : puts ≡ e.puts

abbrev pub MakesCall : Beside → Beside → Option Launch → List ℕ → Type 0
MakesCall old new starts puts =
    HasEffect (call_effect (slice_get old.statuses) old.hart.regs) old new starts puts

-- the effect of a plan that touches no memory
abbrev pub quiet_effect : CodeView → Beside → HartEffect
quiet_effect code x = plan_effect (slice_get x.statuses) x.hart.regs (plan_of code x.hart.regs) 0

-- the next act of the hart is a wait on a core that is Run
abbrev pub waits_in : CodeView → Beside → Bool
waits_in code x = waits_next code (slice_get x.statuses) x.hart.regs

-- nothing was done
pub record IsUnmoved (old new : Beside) (puts : List ℕ) : Type 0 where
  pub same : new ≡ old
  pub none : puts ≡ []

-- a trap ended the hart, or its call was made
pub record IsOver (code : CodeView) (old new : Beside) (starts : Option Launch) (puts : List ℕ)
    : Type 0 where
  pub goes_on : waits_in code old ≡ false
  pub quiet : is_quiet (plan_of code old.hart.regs) ≡ true
  pub effect : HasEffect (quiet_effect code old) old new starts puts

-- a turn of a hart that runs, by its outcome
abbrev pub TakesTurn : CodeView → Beside → Beside → Turn → List ℕ → Type 0
TakesTurn code old new Turn_is.Waits puts = (waits_in code old ≡ true) × IsUnmoved old new puts
TakesTurn code old new (Turn_is.Over starts) puts = IsOver code old new starts puts
TakesTurn code old new (Turn_is.Acts p) puts =
    IsToBeMade code old.hart.regs p × IsUnmoved old new puts

-- ---- kernels

abbrev pub core_with : Regs → CoreStatus → Core
core_with regs status = record { regs = regs; status = status }

-- an effect on a core, with the bytes that it puts
pub record HasKernelEffect (e : KernelEffect) (left : Core) (puts : List ℕ) : Type 0 where
  pub core_is : left ≡ e.core
  pub puts_are : puts ≡ e.puts

-- a turn of a kernel that runs: where nothing is still to be made a trap ended it or its call was
-- made
abbrev pub TakesKernelTurn : CodeView → Core → Core → Option Planned → List ℕ → Type 0
TakesKernelTurn code old new None puts =
    (is_quiet (plan_of code old.regs) ≡ true)
    × HasKernelEffect (kernel_effect old.regs (plan_of code old.regs) 0) new puts
TakesKernelTurn code old new (Some p) puts =
    IsToBeMade code old.regs p × (new ≡ old) × (puts ≡ [])
