-- A machine without portions shows a world, and its report.
use Rattle.std.specs.Prelude.{ℕ, ◌≡◌, ◌<◌, ◌++◌, List, [], length, slice_get, slice_index_or, Some}
use Rattle.std.specs.List.{AllByRecursion}
use Rattle.conda_base.specs.declared.actor.Actor.{Actor}
use Rattle.schedule_log.specs.declared.entry.Entry.{Entry}
use Rattle.rv32_hart.specs.Regs.{start_regs}
use Rattle.line_memory.specs.Tags.{Shape, no_tags}
use Rattle.line_memory.specs.Backing.{shape_of}
use Rattle.line_memory.specs.Notes.{all_noted}
use Rattle.traffic_trace.specs.Notes.{no_notes}
use Rattle.coherent_mem.specs.Parts.{shown}
use Rattle.offload_calls.specs.declared.status.Hart.{Hart}
use Rattle.offload_calls.specs.declared.status.HartStatus.TheVariants as Hart_is
use Rattle.offload_calls.specs.declared.status.CoreStatus.TheVariants as Core_is
use Rattle.offload_calls.specs.State.{start, status_of}
use Rattle.run_report.specs.View.{View}
use Rattle.run_report.specs.Texts.{report_text}
use Rattle.chip_laws.specs.Design.{Design, IsActorOf, IsDesign, setup_of}
use Rattle.baseline_laws.specs.Worlds.{Rules, World, happens, output_of, world}
use Rattle.plain_chip.specs.Views.{PlainView}

-- every part is what the world has
pub record ShowsPlain (d : Design) (shape : Shape) (c : PlainView) (w : World) : Type 0 where
  pub config : c.config ≡ d.config
  pub code : c.code ≡ d.image.code
  pub lines : (shown c.memory).line_bytes ≡ d.config.line_bytes
  pub base : (shown c.memory).base ≡ d.image.code.base
  pub shape_is : shape_of (shown c.memory) ≡ shape
  pub view : (shown c.memory).view ≡ w.flat.memory
  pub tags : (shown c.memory).tags ≡ w.tags
  pub log : c.log ≡ all_noted (no_notes d.config.trace_last) w.notes
  pub many : length c.harts ≡ d.config.harts
  pub harts : (h : ℕ) → h < d.config.harts → slice_get c.harts h ≡ Some (w.flat.harts h)
  pub statuses : (k : ℕ) → slice_get c.statuses k ≡ status_of d.config.cores w.flat.cores k
  pub regs : (j : ℕ) → j < d.config.cores → slice_get c.regs j ≡ Some (w.flat.cores j).regs

-- ---- the start

-- a world at the start
pub record IsAtStart (d : Design) (w : World) : Type 0 where
  pub flat_is : w.flat ≡ start (setup_of d)
  pub tags_are : w.tags ≡ no_tags
  pub notes_are : w.notes ≡ []

-- so many holders, with caches as the configuration gives them
abbrev pub shape_for : Design → ℕ → Shape
shape_for d holders = record {
  holders = holders;
  sets = d.config.hart_sets;
  ways = d.config.hart_ways;
}

-- a machine of so many holders that was just made
pub record IsMade (d : Design) (holders : ℕ) (c : PlainView) : Type 0 where
  pub is_design : IsDesign d
  pub config_is : c.config ≡ d.config
  pub holders_are : (shown c.memory).holders ≡ holders
  pub shows : (w : World) → IsAtStart d w → ShowsPlain d (shape_for d holders) c w

-- ---- events

-- the machine stands for these events, under an accepted configuration and image
pub record StandsPlain (d : Design) (shape : Shape) (r : Rules) (c : PlainView) (events : List Actor)
    : Type 0 where
  pub is_design : IsDesign d
  pub actors : AllByRecursion (IsActorOf d) events
  pub shows : ShowsPlain d shape c (world r events)

-- one event, by these rules: the entry is the next one, the machine then shows what happens, and what
-- is output is what flat memory's output gains
pub record PlainTurns (d : Design) (shape : Shape) (r : Rules) (w : World) (a : Actor)
    (new : PlainView) (entry : Entry) (puts : List ℕ) : Type 0 where
  pub entry_is : entry ≡ r.next w a
  pub shows : ShowsPlain d shape new (happens r w a)
  pub output : (happens r w a).flat.output ≡ w.flat.output ++ puts

-- ---- reports

abbrev pub no_hart : Hart
no_hart = record { regs = start_regs 0; status = Hart_is.Run }

-- past the machine's harts and cores, any
abbrev pub view_of_plain : PlainView → View
view_of_plain c = record {
  harts = length c.harts;
  cores = length c.statuses;
  hart = λ i. slice_index_or c.harts i no_hart;
  core = λ j. record {
    regs = slice_index_or c.regs j (start_regs 0);
    status = slice_index_or c.statuses j Core_is.Idle;
  };
  base = (shown c.memory).base;
  line_bytes = (shown c.memory).line_bytes;
  memory = (shown c.memory).view;
  loaded = c.code.bytes;
  sets = (shown c.memory).sets;
  tags = (shown c.memory).tags;
  trace = c.log;
}

-- what the report shows of a world: the tags of the harts alone
abbrev pub view_of_world : Design → World → View
view_of_world d w = record {
  harts = d.config.harts;
  cores = d.config.cores;
  hart = w.flat.harts;
  core = w.flat.cores;
  base = d.image.code.base;
  line_bytes = d.config.line_bytes;
  memory = w.flat.memory;
  loaded = d.image.code.bytes;
  sets = d.config.hart_sets;
  tags = w.tags;
  trace = all_noted (no_notes d.config.trace_last) w.notes;
}

-- the report of these events
abbrev pub report_of_events : Design → Rules → List Actor → List ℕ
report_of_events d r events =
    report_text (view_of_world d (world r events)) (length events) (length (output_of r events))

-- the machine stands for these events, and its report is theirs
pub record ReportsPlain (d : Design) (shape : Shape) (r : Rules) (c : PlainView) (events : List Actor)
    : Type 0 where
  pub stands : StandsPlain d shape r c events
  pub report : report_text (view_of_plain c) (length events) (length (output_of r events))
      ≡ report_of_events d r events
