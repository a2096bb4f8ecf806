-- A try: acts of a kernel over no memory but the lines that it was filled with, and its own stores.
use Rattle.std.specs.Prelude.{ℕ, zero, suc, ◌&&◌, Bool, true, List, [], ◌++◌, Option, Some, None, Result, if◌then◌else◌}
use Rattle.conda_base.specs.declared.Line.{Line}
use Rattle.conda_base.specs.LineLists.{line_at, with_new, lines_of}
use Rattle.rv32_hart.specs.declared.regs.Regs.{Regs}
use Rattle.rv32_hart.specs.declared.regs.Trap.{Trap}
use Rattle.rv32_hart.specs.declared.act.Planned.{Planned}
use Rattle.rv32_hart.specs.Code.{CodeView}
use Rattle.rv32_hart.specs.Act.{plan_of}
use Rattle.offload_calls.specs.declared.status.Core.{Core}
use Rattle.offload_calls.specs.declared.status.CoreStatus.TheVariants as Core_is
use Rattle.offload_calls.specs.Stores.{latest, is_listed, stored_addresses}
use Rattle.offload_calls.specs.Effects.{Span, loads_of, span_value}
use Rattle.offload_calls.specs.CoreActs.{KernelEffect, kernel_effect, core_runs}

-- What acts come to: the core's registers and status, the bytes stored, with their addresses and in
-- order, the bytes put, and the lines of outside loads in the order of the first one.
pub record Try : Type 0 where
  pub core : Core
  pub stored : List (ℕ × ℕ)
  pub held : List ℕ
  pub reads : List Line

abbrev pub begun : Regs → Try
begun r = record {
  core = record { regs = r; status = Core_is.Run };
  stored = [];
  held = [];
  reads = [];
}

-- ---- stores

-- a byte was stored at the address
abbrev pub is_stored : List (ℕ × ℕ) → ℕ → Bool
is_stored stores addr = is_listed (stored_addresses stores) addr

-- the lines of stores, in the order of the first store
abbrev pub stored_lines : ℕ → List (ℕ × ℕ) → List Line
stored_lines line_bytes stores = lines_of line_bytes (stored_addresses stores)

-- the lines that a try stored to, in that order
abbrev pub writes : ℕ → Try → List Line
writes line_bytes t = stored_lines line_bytes t.stored

-- all of `size` bytes from an address on were stored
abbrev pub is_covered : List (ℕ × ℕ) → ℕ → ℕ → Bool
is_covered stores addr zero = true
is_covered stores addr (suc size) =
    is_stored stores addr && is_covered stores (suc addr) size

-- the line of an outside load: of one whose bytes weren't all stored by earlier acts
abbrev pub outside_line : ℕ → List (ℕ × ℕ) → Option Span → Option Line
outside_line line_bytes stores None = None
outside_line line_bytes stores (Some span) =
    if is_covered stores span.addr span.size then None else Some (line_at line_bytes span.addr)

abbrev pub with_some_line : List Line → Option Line → List Line
with_some_line lines None = lines
with_some_line lines (Some l) = with_new lines l

-- a byte as a try sees it: the last one stored there, or else the one below
abbrev pub byte_seen : (ℕ → ℕ) → List (ℕ × ℕ) → ℕ → ℕ
byte_seen below stores addr = latest stores addr (below addr)

-- the plan of a try's next act
abbrev pub next_plan : CodeView → Try → Result Planned Trap
next_plan code t = plan_of code t.core.regs

-- the line of an outside load of the next act
abbrev pub next_outside : CodeView → ℕ → Try → Option Line
next_outside code line_bytes t = outside_line line_bytes t.stored (loads_of (next_plan code t))

-- the effect of an act by this plan, which loads what the try sees over the bytes below
abbrev pub effect_by : (ℕ → ℕ) → Try → Result Planned Trap → KernelEffect
effect_by below t plan =
    kernel_effect t.core.regs plan (span_value (byte_seen below t.stored) (loads_of plan))

-- the effect of the next act, over the bytes below
abbrev pub try_effect : CodeView → (ℕ → ℕ) → Try → KernelEffect
try_effect code below t = effect_by below t (next_plan code t)

-- the try with this effect of an act by this plan
abbrev pub with_effect : ℕ → Try → Result Planned Trap → KernelEffect → Try
with_effect line_bytes t plan e = record {
  core = e.core;
  stored = t.stored ++ e.stores;
  held = t.held ++ e.puts;
  reads = with_some_line t.reads (outside_line line_bytes t.stored (loads_of plan));
}

abbrev pub acted : CodeView → ℕ → Try → KernelEffect → Try
acted code line_bytes t e = with_effect line_bytes t (next_plan code t) e

-- the try with an act by this plan
abbrev pub acted_by : ℕ → (ℕ → ℕ) → Try → Result Planned Trap → Try
acted_by line_bytes below t plan = with_effect line_bytes t plan (effect_by below t plan)

-- one act over the bytes below; after the kernel's end it changes nothing
unfoldable pub try_act : CodeView → ℕ → (ℕ → ℕ) → Try → Try
try_act code line_bytes below t =
    if core_runs t.core.status then acted code line_bytes t (try_effect code below t) else t

unfoldable pub try_over : CodeView → ℕ → (ℕ → ℕ) → Regs → ℕ → Try
try_over code line_bytes below r zero = begun r
try_over code line_bytes below r (suc n) =
    try_act code line_bytes below (try_over code line_bytes below r n)
