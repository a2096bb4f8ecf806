-- One act of a hart on flat memory.
use Rattle.std.specs.Prelude.{ℕ, ◌&&◌, Bool, true, false, not, List, [], ◌∷◌, ◌++◌, Option, Result, Ok, Err, if◌then◌else◌}
use Rattle.rv32_decode.specs.declared.instr.Instr.{Instr}
use Rattle.rv32_hart.specs.declared.regs.Regs.{Regs}
use Rattle.rv32_hart.specs.declared.regs.Trap.{Trap}
use Rattle.rv32_hart.specs.declared.act.Planned.{Planned}
use Rattle.rv32_hart.specs.Act.{plan_of, after, value_of, is_call_access}
use Rattle.offload_calls.specs.declared.serve.Served.{Served}
use Rattle.offload_calls.specs.declared.serve.Served.TheVariants as Served_is
use Rattle.offload_calls.specs.declared.status.HartStatus.{HartStatus}
use Rattle.offload_calls.specs.declared.status.CoreStatus.{CoreStatus}
use Rattle.offload_calls.specs.declared.status.Hart.{Hart}
use Rattle.offload_calls.specs.declared.status.Core.{Core}
use Rattle.offload_calls.specs.declared.status.HartStatus.TheVariants as Hart_is
use Rattle.offload_calls.specs.declared.status.CoreStatus.TheVariants as Core_is
use Rattle.offload_calls.specs.Calls.{waits, launches, collects, served, regs_after_call}
use Rattle.offload_calls.specs.Stores.{overlay, byte_at}
use Rattle.rv32_hart.specs.Code.{CodeView}
use Rattle.offload_calls.specs.State.{Setup, State, updated, status_of, launched_core}
use Rattle.offload_calls.specs.Effects.{loads_of, span_value, stores_of_access, is_call}

abbrev pub hart_runs : HartStatus → Bool
hart_runs Hart_is.Run = true
hart_runs (Hart_is.Exit value) = false
hart_runs (Hart_is.Trapped trap) = false

-- what a call does to a near-data core: nothing, or it starts one at an entry with an argument, or one becomes idle
pub data CoreChange : Type 0 where
  Stays : CoreChange
  Starts : ℕ → ℕ → ℕ → CoreChange
  Rests : ℕ → CoreChange

-- what an act leaves of the hart, what it does to a core, and the bytes that it stores and puts
pub record HartEffect : Type 0 where
  pub hart : Hart
  pub change : CoreChange
  pub stores : List (ℕ × ℕ)
  pub puts : List ℕ

abbrev pub status_after_call : Served → HartStatus
status_after_call Served_is.Next = Hart_is.Run
status_after_call (Served_is.Exit value) = Hart_is.Exit value
status_after_call (Served_is.Launch core entry arg) = Hart_is.Run
status_after_call (Served_is.Put byte) = Hart_is.Run
status_after_call (Served_is.Trapped trap) = Hart_is.Trapped trap

abbrev pub puts_of_call : Served → List ℕ
puts_of_call Served_is.Next = []
puts_of_call (Served_is.Exit value) = []
puts_of_call (Served_is.Launch core entry arg) = []
puts_of_call (Served_is.Put byte) = byte ∷ []
puts_of_call (Served_is.Trapped trap) = []

abbrev pub change_of_call : (ℕ → Option CoreStatus) → Regs → CoreChange
change_of_call cores r =
    if launches cores r then Starts (value_of r 10) (value_of r 11) (value_of r 12)
    else if collects cores r then Rests (value_of r 10)
    else Stays

abbrev pub call_effect : (ℕ → Option CoreStatus) → Regs → HartEffect
call_effect cores r = record {
  hart = record { regs = regs_after_call cores r; status = status_after_call (served cores r) };
  change = change_of_call cores r;
  stores = [];
  puts = puts_of_call (served cores r);
}

-- an instruction's effect, with these stores
abbrev pub instr_effect : Regs → Instr → ℕ → List (ℕ × ℕ) → HartEffect
instr_effect r i value stores = record {
  hart = record { regs = after r i value; status = Hart_is.Run };
  change = Stays;
  stores = stores;
  puts = [];
}

-- what an act by this plan does, `value` being what it loads; a trap leaves registers and ends the hart
unfoldable pub plan_effect : (ℕ → Option CoreStatus) → Regs → Result Planned Trap → ℕ → HartEffect
plan_effect cores r (Ok p) value =
    if is_call_access p.access then call_effect cores r
    else instr_effect r p.instr value (stores_of_access value p.access)
plan_effect cores r (Err trap) value = record {
  hart = record { regs = r; status = Hart_is.Trapped trap };
  change = Stays;
  stores = [];
  puts = [];
}

-- the effect of the next act of a hart with these registers, on this memory and beside these cores
abbrev pub act_effect : CodeView → (ℕ → Option CoreStatus) → List ℕ → Regs → HartEffect
act_effect code cores memory r =
    let plan = plan_of code r in
    plan_effect cores r plan (span_value (byte_at code.base memory) (loads_of plan))

-- the next act is wait on a core that is Run
unfoldable pub waits_next : CodeView → (ℕ → Option CoreStatus) → Regs → Bool
waits_next code cores r = is_call (plan_of code r) && waits cores r

-- a hart makes an act where it runs and doesn't wait
abbrev pub steps : CodeView → (ℕ → Option CoreStatus) → Hart → Bool
steps code cores hart = hart_runs hart.status && not (waits_next code cores hart.regs)

-- a core that becomes idle keeps its registers
abbrev pub cores_after : CoreChange → (ℕ → Core) → ℕ → Core
cores_after Stays cores = cores
cores_after (Starts j entry arg) cores = updated cores j (launched_core entry arg)
cores_after (Rests j) cores = updated cores j (record { regs = (cores j).regs; status = Core_is.Idle })

abbrev pub hart_does : Setup → State → ℕ → HartEffect → State
hart_does s f h e = record {
  memory = overlay s.code.base f.memory e.stores;
  harts = updated f.harts h e.hart;
  cores = cores_after e.change f.cores;
  output = f.output ++ e.puts;
}

abbrev pub hart_step_of : Setup → State → ℕ → Hart → State
hart_step_of s f h hart =
    let cores = status_of s.cores f.cores in
    if steps s.code cores hart then hart_does s f h (act_effect s.code cores f.memory hart.regs) else f

-- one act of hart h on flat memory
unfoldable pub hart_step : Setup → State → ℕ → State
hart_step s f h = hart_step_of s f h (f.harts h)

-- what the next act of hart h stores: nothing where it makes none
abbrev pub hart_stores : Setup → State → ℕ → List (ℕ × ℕ)
hart_stores s f h =
    let cores = status_of s.cores f.cores in
    if steps s.code cores (f.harts h) then (act_effect s.code cores f.memory (f.harts h).regs).stores else []
