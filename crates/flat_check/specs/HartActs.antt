-- What an act of a hart makes of the near-data cores.
use Rattle.std.specs.Prelude.{ℕ, ◌≡◌, List, [], length, slice_set, Option, Some, None, if◌then◌else◌}
use Rattle.rv32_hart.specs.Code.{CodeView}
use Rattle.offload_calls.specs.declared.status.Hart.{Hart}
use Rattle.offload_calls.specs.declared.status.CoreStatus.{CoreStatus}
use Rattle.offload_calls.specs.declared.status.CoreStatus.TheVariants as Core_is
use Rattle.offload_calls.specs.HartAct.{HartEffect, CoreChange, Stays, Starts, Rests, steps, act_effect}
use Rattle.flat_check.specs.declared.acts.Launch.{Launch}

abbrev pub changed_statuses : CoreChange → List CoreStatus → List CoreStatus
changed_statuses Stays statuses = statuses
changed_statuses (Starts j entry arg) statuses = slice_set statuses j Core_is.Run
changed_statuses (Rests j) statuses = slice_set statuses j Core_is.Idle

-- no act
abbrev pub stay_effect : Hart → HartEffect
stay_effect hart = record { hart = hart; change = Stays; stores = []; puts = [] }

-- the effect of a hart's next act: none where it doesn't run, or waits
abbrev pub turn_effect : CodeView → (ℕ → Option CoreStatus) → List ℕ → Hart → HartEffect
turn_effect code cores memory hart =
    if steps code cores hart then act_effect code cores memory hart.regs else stay_effect hart

-- the core that starts
abbrev pub launch_of : CoreChange → Option Launch
launch_of Stays = None
launch_of (Starts j entry arg) = Some (record { core = j; entry = entry; arg = arg })
launch_of (Rests j) = None

-- the hart, the cores' statuses, the core that starts and the bytes put are those of an effect
pub record HasEffect (e : HartEffect) (hart : Hart) (old new : List CoreStatus) (launch : Option Launch) (puts : ℕ) : Type 0 where
  pub hart_is : hart ≡ e.hart
  pub statuses : new ≡ changed_statuses e.change old
  pub launch_is : launch ≡ launch_of e.change
  pub puts_are : length e.puts ≡ puts
