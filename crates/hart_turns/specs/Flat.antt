-- What a step of a hart and an act of a kernel leave of a machine's parts, by the flat state that
-- these show.
use Rattle.std.specs.Prelude.{ℕ, ◌≡◌, ◌++◌, false, List, slice_get, Option, Some, None}
use Rattle.rv32_hart.specs.declared.regs.Regs.{Regs}
use Rattle.rv32_hart.specs.Act.{plan_of}
use Rattle.line_memory.specs.Backing.{BackingView, shape_of}
use Rattle.line_memory.specs.Notes.{all_noted}
use Rattle.traffic_trace.specs.Notes.{Trace}
use Rattle.coherent_mem.specs.Steps.{StepsTo}
use Rattle.offload_calls.specs.State.{Setup, State, status_of, updated, launched_core}
use Rattle.offload_calls.specs.HartAct.{CoreChange, act_effect, cores_after, hart_step, waits_next}
use Rattle.offload_calls.specs.LineUses.{LineUse, line_use}
use Rattle.chip_laws.specs.Uses.{after_use, use_notes}
use Rattle.hart_turns.specs.declared.calls.Launch.{Launch}
use Rattle.hart_turns.specs.Plans.{Beside, launch_of}

-- the line that the next act of registers uses
abbrev pub next_use : Setup → Regs → Option LineUse
next_use s r = line_use s.line_bytes (plan_of s.code r)

-- what the next act of hart h does to a core
abbrev pub next_change : Setup → State → ℕ → CoreChange
next_change s f h =
    (act_effect s.code (status_of s.cores f.cores) f.memory (f.harts h).regs).change

-- memory, as a flat state has it
pub record ShowsBytes (s : Setup) (f : State) (b : BackingView) : Type 0 where
  pub base : b.base ≡ s.code.base
  pub lines : b.line_bytes ≡ s.line_bytes
  pub view : b.view ≡ f.memory

-- hart h and the statuses of the cores, as a flat state has them
pub record ShowsHart (s : Setup) (f : State) (h : ℕ) (x : Beside) : Type 0 where
  pub hart : x.hart ≡ f.harts h
  pub statuses : (k : ℕ) → slice_get x.statuses k ≡ status_of s.cores f.cores k

-- registers of all cores, where one may start
abbrev pub regs_started : Option Launch → (ℕ → Regs) → ℕ → Regs
regs_started None regs = regs
regs_started (Some l) regs = updated regs l.core (launched_core l.entry l.arg).regs

-- memory under caches and the notes, before an event or after it
pub record Traced : Type 0 where
  pub memory : BackingView
  pub log : Trace

abbrev pub traced : BackingView → Trace → Traced
traced b log = record { memory = b; log = log }

-- the use of a line by holder h, which leaves these bytes
pub record LeavesUse (h : ℕ) (used : Option LineUse) (bytes : List ℕ) (old new : Traced) : Type 0 where
  pub memory : StepsTo (after_use (shape_of old.memory) old.memory.tags h used) bytes
      old.memory new.memory
  pub log : new.log ≡ all_noted old.log (use_notes (shape_of old.memory) old.memory.tags h used)

-- a step of hart h, which starts this core and puts these bytes
pub record HartStepped
    (s : Setup) (f : State) (h : ℕ) (old new : Traced) (after : Beside) (starts : Option Launch)
    (puts : List ℕ) : Type 0 where
  pub goes_on : waits_next s.code (status_of s.cores f.cores) (f.harts h).regs ≡ false
  pub hart : after.hart ≡ (hart_step s f h).harts h
  pub statuses : (k : ℕ) → slice_get after.statuses k ≡ status_of s.cores (hart_step s f h).cores k
  pub cores : (hart_step s f h).cores ≡ cores_after (next_change s f h) f.cores
  pub starts_is : starts ≡ launch_of (next_change s f h)
  pub memory : LeavesUse h (next_use s (f.harts h).regs) (hart_step s f h).memory old new
  pub output : (hart_step s f h).output ≡ f.output ++ puts
