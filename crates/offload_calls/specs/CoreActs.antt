-- Acts of a near-data core on flat memory, with nothing between.
use Rattle.std.specs.Prelude.{ℕ, zero, suc, Bool, true, false, not, List, [], ◌∷◌, ◌++◌, filter, Result, Ok, Err, if◌then◌else◌}
use Rattle.rv32_decode.specs.declared.instr.Instr.{Instr}
use Rattle.rv32_hart.specs.declared.regs.Regs.{Regs}
use Rattle.rv32_hart.specs.declared.regs.Trap.{Trap}
use Rattle.rv32_hart.specs.declared.act.Planned.{Planned}
use Rattle.rv32_hart.specs.Act.{plan_of, after, is_call_access}
use Rattle.offload_calls.specs.declared.serve.Kernel.{Kernel}
use Rattle.offload_calls.specs.declared.serve.Kernel.TheVariants as Kernel_is
use Rattle.offload_calls.specs.declared.status.CoreStatus.{CoreStatus}
use Rattle.offload_calls.specs.declared.status.CoreStatus.TheVariants as Core_is
use Rattle.offload_calls.specs.Calls.{kernel_served, regs_after_kernel_call}
use Rattle.offload_calls.specs.Stores.{overlay, byte_at, stored_addresses, is_listed}
use Rattle.offload_calls.specs.declared.status.Core.{Core}
use Rattle.offload_calls.specs.State.{Setup, State, updated}
use Rattle.offload_calls.specs.Effects.{loads_of, span_value, stores_of_access, span_addresses}

abbrev pub core_runs : CoreStatus → Bool
core_runs Core_is.Idle = false
core_runs Core_is.Run = true
core_runs (Core_is.Done value) = false
core_runs (Core_is.Trapped trap) = false

-- what an act leaves of the core, and the bytes that it stores and puts
pub record KernelEffect : Type 0 where
  pub core : Core
  pub stores : List (ℕ × ℕ)
  pub puts : List ℕ

abbrev pub status_after_kernel_call : Kernel → CoreStatus
status_after_kernel_call (Kernel_is.Put byte) = Core_is.Run
status_after_kernel_call (Kernel_is.Done value) = Core_is.Done value
status_after_kernel_call (Kernel_is.Trapped trap) = Core_is.Trapped trap

abbrev pub puts_of_kernel_call : Kernel → List ℕ
puts_of_kernel_call (Kernel_is.Put byte) = byte ∷ []
puts_of_kernel_call (Kernel_is.Done value) = []
puts_of_kernel_call (Kernel_is.Trapped trap) = []

abbrev pub kernel_call_effect : Regs → KernelEffect
kernel_call_effect r = record {
  core = record { regs = regs_after_kernel_call r; status = status_after_kernel_call (kernel_served r) };
  stores = [];
  puts = puts_of_kernel_call (kernel_served r);
}

-- an instruction's effect, with these stores
abbrev pub kernel_instr_effect : Regs → Instr → ℕ → List (ℕ × ℕ) → KernelEffect
kernel_instr_effect r i value stores = record {
  core = record { regs = after r i value; status = Core_is.Run };
  stores = stores;
  puts = [];
}

-- what an act by this plan does, `value` being what it loads; a trap leaves registers and ends the kernel
unfoldable pub kernel_effect : Regs → Result Planned Trap → ℕ → KernelEffect
kernel_effect r (Ok p) value =
    if is_call_access p.access then kernel_call_effect r
    else kernel_instr_effect r p.instr value (stores_of_access value p.access)
kernel_effect r (Err trap) value = record {
  core = record { regs = r; status = Core_is.Trapped trap };
  stores = [];
  puts = [];
}

-- the effect of the next act of a core with these registers, on this memory
abbrev pub core_effect : Setup → List ℕ → Regs → KernelEffect
core_effect s memory r =
    let plan = plan_of s.code r in
    kernel_effect r plan (span_value (byte_at s.code.base memory) (loads_of plan))

abbrev pub core_does : Setup → State → ℕ → KernelEffect → State
core_does s f j e = record {
  memory = overlay s.code.base f.memory e.stores;
  harts = f.harts;
  cores = updated f.cores j e.core;
  output = f.output ++ e.puts;
}

abbrev pub core_act_of : Setup → State → ℕ → Core → State
core_act_of s f j core = if core_runs core.status then core_does s f j (core_effect s f.memory core.regs) else f

-- one act of core j on flat memory
unfoldable pub core_act : Setup → State → ℕ → State
core_act s f j = core_act_of s f j (f.cores j)

-- n acts of core j with nothing between
unfoldable pub core_acts : Setup → State → ℕ → ℕ → State
core_acts s f j zero = f
core_acts s f j (suc n) = core_act s (core_acts s f j n) j

-- ---- the addresses that acts load and store

abbrev pub act_loads : Setup → Core → List ℕ
act_loads s core = if core_runs core.status then span_addresses (loads_of (plan_of s.code core.regs)) else []

abbrev pub act_stores : Setup → List ℕ → Core → List ℕ
act_stores s memory core =
    if core_runs core.status then stored_addresses (core_effect s memory core.regs).stores else []

-- the addresses that n acts of core j store
unfoldable pub written : Setup → State → ℕ → ℕ → List ℕ
written s f j zero = []
written s f j (suc n) = let g = core_acts s f j n in written s f j n ++ act_stores s g.memory (g.cores j)

-- the addresses that they load and that no earlier one of them stored
unfoldable pub outside : Setup → State → ℕ → ℕ → List ℕ
outside s f j zero = []
outside s f j (suc n) =
    let g = core_acts s f j n in
    outside s f j n ++ filter (λ addr. not (is_listed (written s f j n) addr)) (act_loads s (g.cores j))
