-- What the lines of a try are filled with, and portions: the tries over such fills.
use Rattle.std.specs.Prelude.{ℕ, List, [], ◌∷◌, slice_index, Option, Some, None, Result, if◌then◌else◌}
use Rattle.conda_base.specs.declared.Line.{Line}
use Rattle.conda_base.specs.Lines.{line_offset}
use Rattle.conda_base.specs.LineLists.{line_at, same_line, names}
use Rattle.rv32_hart.specs.declared.regs.Regs.{Regs}
use Rattle.rv32_hart.specs.declared.regs.Trap.{Trap}
use Rattle.rv32_hart.specs.declared.act.Planned.{Planned}
use Rattle.rv32_hart.specs.Code.{CodeView}
use Rattle.traffic_trace.specs.declared.note.Kind.TheVariants.{CoreFill}
use Rattle.traffic_trace.specs.declared.note.Note.{Note}
use Rattle.offload_calls.specs.Effects.{loads_of}
use Rattle.try_runs.specs.Tries.{Try, outside_line, next_plan, try_over}

-- the bytes of each line that was filled; what the others have doesn't matter
abbrev pub Fills : Type 0
Fills = Line → List ℕ

-- the byte at an address, by the bytes of each line
abbrev pub byte_of : ℕ → Fills → ℕ → ℕ
byte_of line_bytes fills addr =
    slice_index (fills (line_at line_bytes addr)) (line_offset addr line_bytes)

-- n acts from these registers, over the bytes that lines were filled with
abbrev pub try_run : CodeView → ℕ → Regs → Fills → ℕ → Try
try_run code line_bytes r fills n = try_over code line_bytes (byte_of line_bytes fills) r n

-- what fixes a portion's try: the registers of its opening, its fills, and the number of its acts
pub record Portion : Type 0 where
  pub regs : Regs
  pub fills : Fills
  pub acts : ℕ

-- the try of a portion
abbrev pub portion_run : CodeView → ℕ → Portion → Try
portion_run code line_bytes p = try_run code line_bytes p.regs p.fills p.acts

-- ---- one fill more

-- a line that isn't among those read
abbrev pub new_line : List Line → Option Line → Option Line
new_line lines None = None
new_line lines (Some l) = if names lines l then None else Some l

-- the line that an act by this plan fills: that of its outside load, where it is the first of it
abbrev pub filled_by : ℕ → Try → Result Planned Trap → Option Line
filled_by line_bytes t plan = new_line t.reads (outside_line line_bytes t.stored (loads_of plan))

-- the line that the next act fills
abbrev pub next_fill : CodeView → ℕ → Try → Option Line
next_fill code line_bytes t = filled_by line_bytes t (next_plan code t)

-- the fills with one more: of this line, with memory's copy of it
abbrev pub fills_with : Fills → (Line → List ℕ) → Option Line → Fills
fills_with fills copies None = fills
fills_with fills copies (Some l) = λ k. if same_line k l then copies k else fills k

-- the note of a fill by a near-data core
abbrev pub corefill_notes : ℕ → Option Line → List Note
corefill_notes core None = []
corefill_notes core (Some l) = record { kind = CoreFill; who = core; line = l } ∷ []
