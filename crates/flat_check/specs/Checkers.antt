-- What clauses see of a checker, and the order that it has walked.
use Rattle.std.specs.Prelude.{ℕ, ◌≡◌, ◌*◌, ◌^◌, ◌<◌, ◌≤◌, Bool, List, [], length, slice_index_or}
use Rattle.conda_base.specs.Lines.{IsLineSize, IsWhole}
use Rattle.rv32_hart.specs.Code.{CodeView, IsCode}
use Rattle.rv32_hart.specs.Regs.{start_regs}
use Rattle.schedule_log.specs.declared.entry.Entry.{Entry}
use Rattle.traffic_trace.specs.Notes.{Trace, no_notes}
use Rattle.offload_calls.specs.declared.status.Hart.{Hart}
use Rattle.offload_calls.specs.declared.status.HartStatus.TheVariants as Hart_is
use Rattle.run_report.specs.View.{View}
use Rattle.chip_laws.specs.Design.{Design, setup_of}
use Rattle.flat_check.specs.declared.walker.Walker.{Walker}
use Rattle.run_report.specs.FlatText.{flat_text_of}
use Rattle.flat_check.specs.FlatText.{flat_text}
use Rattle.flat_check.specs.Flats.{core_with}
use Rattle.flat_check.specs.Orders.{is_there}
use Rattle.flat_check.specs.Walkers.{WalkerParts, FitsWalker, ShowsWalk, walker_parts}
use Rattle.flat_check.specs.Walks.{walk}

-- the image as loaded, the bytes of a line, the flat machine with the open tries, how many entries it took, and no
-- traffic
pub record CheckerView : Type 0 where
  pub code : CodeView
  pub line_bytes : ℕ
  pub walker : WalkerParts
  pub entries : ℕ
  pub trace : Trace

abbrev pub checker_view : CodeView → ℕ → Walker → ℕ → Trace → CheckerView
checker_view code line_bytes walker entries trace = record {
  code = code;
  line_bytes = line_bytes;
  walker = walker_parts walker;
  entries = entries;
  trace = trace;
}

-- memory is whole lines below 2 ^ 32
pub record IsWholeMemory (code : CodeView) (line_bytes : ℕ) : Type 0 where
  pub code_is : IsCode code
  pub few : length code.bytes < 2 ^ 32
  pub size : IsLineSize line_bytes
  pub whole_base : IsWhole code.base line_bytes
  pub whole_bytes : IsWhole (length code.bytes) line_bytes

-- what every checker keeps
pub record IsChecker (c : CheckerView) : Type 0 where
  pub memory : IsWholeMemory c.code c.line_bytes
  pub fits : FitsWalker c.code c.walker
  pub harts : length c.walker.flat.harts ≤ 8
  pub cores : length c.walker.flat.statuses ≤ 4
  pub output : c.walker.flat.output ≤ 65536 * c.entries
  pub trace : c.trace ≡ no_notes 0

-- the checker has a hart or core that an entry names
abbrev pub has_entry : CheckerView → Entry → Bool
has_entry c e = is_there (length c.walker.flat.harts) (length c.walker.flat.statuses) e

-- the checker has executed this order, in which it found nothing wrong
pub record HasWalked (d : Design) (c : CheckerView) (order : List Entry) : Type 0 where
  pub code : c.code ≡ d.image.code
  pub line_bytes : c.line_bytes ≡ d.config.line_bytes
  pub shows : ShowsWalk (setup_of d) c.walker (walk (setup_of d) order)
  pub entries : c.entries ≡ length order

-- ---- what it shows

abbrev pub no_hart : Hart
no_hart = record { regs = start_regs 0; status = Hart_is.Run }

-- harts, cores and memory, with caches of one set in which no line is, and no traffic; past the harts and cores, any
abbrev pub view_of_checker : CheckerView → View
view_of_checker c = record {
  harts = length c.walker.flat.harts;
  cores = length c.walker.flat.statuses;
  hart = λ i. slice_index_or c.walker.flat.harts i no_hart;
  core = λ j. core_with c.walker.flat.regs c.walker.flat.statuses j;
  base = c.code.base;
  line_bytes = c.line_bytes;
  memory = c.walker.flat.memory;
  loaded = c.code.bytes;
  sets = 1;
  tags = λ i set. [];
  trace = c.trace;
}

-- the flat text that a checker shows is that of the order that it has walked
abbrev pub CheckersShowFlatTexts : Type 0
CheckersShowFlatTexts =
    (d : Design) (c : CheckerView) (order : List Entry) → HasWalked d c order
    → flat_text_of (view_of_checker c) c.entries c.walker.flat.output ≡ flat_text d order
