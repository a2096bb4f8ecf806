-- The flat state: one memory, harts, near-data cores and output.
use Rattle.std.specs.Prelude.{ℕ, ◌==◌, List, [], slice_set, nat_lt, Option, Some, None, if◌then◌else◌}
use Rattle.rv32_hart.specs.Code.{CodeView}
use Rattle.rv32_hart.specs.Regs.{start_regs}
use Rattle.offload_calls.specs.declared.status.Hart.{Hart}
use Rattle.offload_calls.specs.declared.status.Core.{Core}
use Rattle.offload_calls.specs.declared.status.CoreStatus.{CoreStatus}
use Rattle.offload_calls.specs.declared.status.HartStatus.TheVariants as Hart_is
use Rattle.offload_calls.specs.declared.status.CoreStatus.TheVariants as Core_is

-- the image as loaded, its entry, how many harts and near-data cores there are, and the bytes of a line
pub record Setup : Type 0 where
  pub code : CodeView
  pub entry : ℕ
  pub harts : ℕ
  pub cores : ℕ
  pub line_bytes : ℕ

pub record State : Type 0 where
  pub memory : List ℕ
  pub harts : ℕ → Hart
  pub cores : ℕ → Core
  pub output : List ℕ

-- one member changed
abbrev pub updated : {A : Type 0} → (ℕ → A) → ℕ → A → ℕ → A
updated f j x k = if k == j then x else f k

-- the status of each core that there is
abbrev pub status_of : ℕ → (ℕ → Core) → ℕ → Option CoreStatus
status_of many cores k = if nat_lt k many then Some (cores k).status else None

-- hart i of so many starts at the entry with x10 = i and x11 = the number of harts, all else 0
abbrev pub start_hart : ℕ → ℕ → ℕ → Hart
start_hart entry harts i = record {
  regs = record { pc = entry; x = slice_set (slice_set (start_regs 0).x 10 i) 11 harts };
  status = Hart_is.Run;
}

-- a core starts idle, with all registers and pc 0
abbrev pub start_core : Core
start_core = record { regs = start_regs 0; status = Core_is.Idle }

-- a launched core runs from the entry with the argument in x10, all else 0
abbrev pub launched_core : ℕ → ℕ → Core
launched_core entry arg = record {
  regs = record { pc = entry; x = slice_set (start_regs 0).x 10 arg };
  status = Core_is.Run;
}

-- memory as loaded, and no output
abbrev pub start : Setup → State
start s = record { memory = s.code.bytes; harts = start_hart s.entry s.harts; cores = λ j. start_core; output = [] }
