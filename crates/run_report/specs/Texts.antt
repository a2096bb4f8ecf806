-- The text of a report, line by line.
use Rattle.std.specs.Prelude.{ℕ, ◌+◌, ◌*◌, ◌/◌, ◌==◌, ◌||◌, suc, zero, List, [], ◌∷◌, ◌++◌, length, codes, slice_index, slice_get, Option, Some, None, if◌then◌else◌, nat_eq}
use Rattle.std.specs.List.{flat_map}
use Rattle.std.specs.Cmp.Lexicographic.{pointwise}
use Rattle.std.specs.Fmt.{decimal}
use Rattle.conda_base.specs.Digits.{hex_byte, hex_word}
use Rattle.conda_base.specs.declared.Line.{Line}
use Rattle.conda_base.specs.declared.Mesi.{Mesi}
use Rattle.conda_base.specs.declared.Mesi.TheVariants.{M, E, S}
use Rattle.traffic_trace.specs.declared.note.Kind.{Kind}
use Rattle.traffic_trace.specs.declared.note.Kind.TheVariants.{Fill, Back, Down, Drop, Evict, CoreFill, Merge}
use Rattle.traffic_trace.specs.declared.note.Note.{Note}
use Rattle.traffic_trace.specs.Notes.{Trace, total_of}
use Rattle.rv32_hart.specs.declared.regs.Trap.{Trap}
use Rattle.offload_calls.specs.declared.status.HartStatus.{HartStatus}
use Rattle.offload_calls.specs.declared.status.HartStatus.TheVariants as Hart_is
use Rattle.offload_calls.specs.declared.status.CoreStatus.{CoreStatus}
use Rattle.offload_calls.specs.declared.status.CoreStatus.TheVariants as Core_is
use Rattle.run_report.specs.View.{View, line_bytes_at}

-- a line feed
abbrev pub feed : List ℕ
feed = 10 ∷ []

-- the texts of 0 up to n - 1, one after another
unfoldable pub texts_below : (ℕ → List ℕ) → ℕ → List ℕ
texts_below text zero = []
texts_below text (suc n) = texts_below text n ++ text n

-- the events run, and the bytes of output
unfoldable pub head_text : ℕ → ℕ → List ℕ
head_text events out = codes "events " ++ decimal events ++ feed ++ codes "output " ++ decimal out ++ feed

-- a trap: its cause in decimal, and its value
abbrev pub trap_text : Trap → List ℕ
trap_text trap = codes "trap " ++ decimal trap.cause ++ codes " " ++ hex_word trap.value

abbrev pub hart_status_text : HartStatus → List ℕ
hart_status_text Hart_is.Run = codes "run"
hart_status_text (Hart_is.Exit value) = codes "exit " ++ hex_word value
hart_status_text (Hart_is.Trapped trap) = trap_text trap

abbrev pub core_status_text : CoreStatus → List ℕ
core_status_text Core_is.Idle = codes "idle"
core_status_text Core_is.Run = codes "run"
core_status_text (Core_is.Done value) = codes "done " ++ hex_word value
core_status_text (Core_is.Trapped trap) = trap_text trap

-- the first line of a hart, and of a core
unfoldable pub hart_line_text : ℕ → HartStatus → ℕ → List ℕ
hart_line_text number status pc =
    codes "hart " ++ decimal number ++ codes " " ++ hart_status_text status ++ codes " pc "
    ++ hex_word pc ++ feed

unfoldable pub core_line_text : ℕ → CoreStatus → ℕ → List ℕ
core_line_text number status pc =
    codes "core " ++ decimal number ++ codes " " ++ core_status_text status ++ codes " pc "
    ++ hex_word pc ++ feed

-- the line of a register
unfoldable pub register_line_text : ℕ → ℕ → List ℕ
register_line_text number value = codes "x" ++ decimal number ++ codes " " ++ hex_word value ++ feed

-- a register has a line where it isn't x0 and isn't 0
unfoldable pub register_text : List ℕ → ℕ → List ℕ
register_text x number =
    if number == 0 || slice_index x number == 0 then []
    else register_line_text number (slice_index x number)

-- the registers, ascending
unfoldable pub registers_text : List ℕ → List ℕ
registers_text x = texts_below (register_text x) 32

-- a hart, and a core: its line, and its registers
unfoldable pub hart_text : View → ℕ → List ℕ
hart_text v i = hart_line_text i (v.hart i).status (v.hart i).regs.pc ++ registers_text (v.hart i).regs.x

unfoldable pub core_text : View → ℕ → List ℕ
core_text v j = core_line_text j (v.core j).status (v.core j).regs.pc ++ registers_text (v.core j).regs.x

-- all harts, and all cores, ascending
unfoldable pub harts_text : View → List ℕ
harts_text v = texts_below (hart_text v) v.harts

unfoldable pub cores_text : View → List ℕ
cores_text v = texts_below (core_text v) v.cores

-- a line of memory, by its address and its bytes, two digits a byte
unfoldable pub changed_line_text : ℕ → List ℕ → List ℕ
changed_line_text addr bytes = codes "line " ++ hex_word addr ++ codes " " ++ flat_map hex_byte bytes ++ feed

-- line l of memory is shown where its bytes aren't those that were loaded
unfoldable pub changed_text : View → ℕ → List ℕ
changed_text v l =
    if pointwise nat_eq (line_bytes_at v v.memory l) (line_bytes_at v v.loaded l)
    then []
    else changed_line_text (l * v.line_bytes) (line_bytes_at v v.memory l)

-- all lines of memory, ascending
unfoldable pub changes_text : View → List ℕ
changes_text v = texts_below (λ place. changed_text v (v.base / v.line_bytes + place)) (length v.memory / v.line_bytes)

-- ---- caches

abbrev pub state_text_of : Mesi → List ℕ
state_text_of M = codes "M"
state_text_of E = codes "E"
state_text_of S = codes "S"

-- a line of hart i's cache, by its address and its state
unfoldable pub tag_line_text : ℕ → ℕ → Mesi → List ℕ
tag_line_text i addr state =
    codes "tag " ++ decimal i ++ codes " " ++ hex_word addr ++ codes " " ++ state_text_of state ++ feed

abbrev pub tag_text : View → ℕ → Line × Mesi → List ℕ
tag_text v i tag = tag_line_text i (tag.0.0 * v.line_bytes) tag.1

-- the text of an element, if there is one
abbrev pub text_if_some : {A : Type 0} → (A → List ℕ) → Option A → List ℕ
text_if_some text None = []
text_if_some text (Some x) = text x

-- a way of a set, where it has a line
unfoldable pub slot_text : View → ℕ → ℕ → ℕ → List ℕ
slot_text v i set way = text_if_some (tag_text v i) (slice_get (v.tags i set) way)

-- the lines of a set, the most recent first
unfoldable pub set_text : View → ℕ → ℕ → List ℕ
set_text v i set = flat_map (tag_text v i) (v.tags i set)

-- all sets of a hart, and all harts, ascending
unfoldable pub cache_text : View → ℕ → List ℕ
cache_text v i = texts_below (set_text v i) v.sets

unfoldable pub caches_text : View → List ℕ
caches_text v = texts_below (cache_text v) v.harts

-- ---- traffic

abbrev pub kind_text : Kind → List ℕ
kind_text Fill = codes "fill"
kind_text Back = codes "back"
kind_text Down = codes "down"
kind_text Drop = codes "drop"
kind_text Evict = codes "evict"
kind_text CoreFill = codes "corefill"
kind_text Merge = codes "merge"

-- a kind's total
abbrev pub total_text : Trace → Kind → List ℕ
total_text trace kind = codes " " ++ kind_text kind ++ codes " " ++ decimal (total_of trace kind)

-- the seven totals
unfoldable pub totals_line_text : Trace → List ℕ
totals_line_text t =
    codes "traffic" ++ total_text t Fill ++ total_text t Back ++ total_text t Down ++ total_text t Drop
    ++ total_text t Evict ++ total_text t CoreFill ++ total_text t Merge ++ feed

-- a note: its kind, the number of its hart or core, and its line's address
unfoldable pub note_line_text : Kind → ℕ → ℕ → List ℕ
note_line_text kind who addr =
    codes "note " ++ kind_text kind ++ codes " " ++ decimal who ++ codes " " ++ hex_word addr ++ feed

abbrev pub note_text : View → Note → List ℕ
note_text v note = note_line_text note.kind note.who (note.line.0 * v.line_bytes)

-- a kept note by its place
unfoldable pub note_at_text : View → ℕ → List ℕ
note_at_text v place = text_if_some (note_text v) (slice_get v.trace.notes place)

-- the kept notes, the oldest first
unfoldable pub notes_text : View → List ℕ
notes_text v = flat_map (note_text v) v.trace.notes

-- ---- the report

-- harts, then cores
abbrev pub actors_text : View → List ℕ
actors_text v = harts_text v ++ cores_text v

-- the harts' caches, then the lines of memory that changed
abbrev pub lines_text : View → List ℕ
lines_text v = caches_text v ++ changes_text v

-- the totals, then the notes
abbrev pub traffic_text : View → List ℕ
traffic_text v = totals_line_text v.trace ++ notes_text v

-- harts and cores, then caches and memory
abbrev pub state_text : View → List ℕ
state_text v = actors_text v ++ lines_text v

-- all but the first two lines
abbrev pub body_text : View → List ℕ
body_text v = state_text v ++ traffic_text v

-- the report of so many events, with so many bytes of output
abbrev pub report_text : View → ℕ → ℕ → List ℕ
report_text v events out = head_text events out ++ body_text v
