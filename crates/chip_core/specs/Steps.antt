-- What one access of a hart does to memory under caches, and what open tries are told of it.
use Rattle.std.specs.Prelude.{ℕ, true, false, List, map, fold, slice_set, slice_index_or, Option}
use Rattle.conda_base.specs.declared.Line.{Line}
use Rattle.conda_base.specs.LineLists.{line_at}
use Rattle.line_memory.specs.Backing.{BackingView, shape_of}
use Rattle.traffic_trace.specs.declared.note.Note.{Note}
use Rattle.bloom_sig.specs.Signatures.{inserted}
use Rattle.rv32_hart.specs.declared.regs.Regs.{Regs}
use Rattle.coherent_mem.specs.Steps.{StepsTo}
use Rattle.offload_calls.specs.Stores.{overlay}
use Rattle.offload_calls.specs.LineUses.{LineUse}
use Rattle.chip_laws.specs.Uses.{after_use, use_notes}
use Rattle.chip_core.specs.declared.stage.Stage.{Stage}
use Rattle.chip_core.specs.declared.stage.Stage.TheVariants as Stage_is

-- one access of holder h, with these stores
abbrev pub UsesLine : ℕ → Option LineUse → List (ℕ × ℕ) → BackingView → BackingView → Type 0
UsesLine h used stores old new =
    StepsTo (after_use (shape_of old) old.tags h used) (overlay old.base old.view stores) old new

abbrev pub used_notes : BackingView → ℕ → Option LineUse → List Note
used_notes old h used = use_notes (shape_of old) old.tags h used

-- ---- what open tries are told

abbrev pub told_portion : List Line → Stage → Stage
told_portion lines (Stage_is.Ready s) = Stage_is.Ready s
told_portion lines (Stage_is.Open s) =
    Stage_is.Open (record s { foreign_set = fold inserted s.foreign_set lines })
told_portion lines (Stage_is.Flushing s) = Stage_is.Flushing s
told_portion lines Stage_is.Moved = Stage_is.Moved

-- every open try takes note of these lines
abbrev pub all_told : List Line → List Stage → List Stage
all_told lines portions = map (told_portion lines) portions

-- an access to the line of an address
abbrev pub loads_line : BackingView → ℕ → LineUse
loads_line b addr = record { line = line_at b.line_bytes addr; stores = false }

abbrev pub stores_line : BackingView → ℕ → LineUse
stores_line b addr = record { line = line_at b.line_bytes addr; stores = true }

-- ---- a launch

abbrev pub started : Regs → Stage → Stage
started regs (Stage_is.Ready s) = Stage_is.Ready (record s { regs = regs })
started regs (Stage_is.Open s) = Stage_is.Open s
started regs (Stage_is.Flushing s) = Stage_is.Flushing s
started regs Stage_is.Moved = Stage_is.Moved

-- the portions where core j, which is ready, starts with these registers
abbrev pub with_started : List Stage → ℕ → Regs → List Stage
with_started portions j regs =
    slice_set portions j (started regs (slice_index_or portions j Stage_is.Moved))
