-- What the report shows of a chip, and of the events that it stands for.
use Rattle.std.specs.Prelude.{ℕ, ◌≡◌, List, length, slice_index_or}
use Rattle.rv32_hart.specs.declared.regs.Regs.{Regs}
use Rattle.rv32_hart.specs.Regs.{start_regs}
use Rattle.offload_calls.specs.declared.status.Hart.{Hart}
use Rattle.offload_calls.specs.declared.status.HartStatus.TheVariants as Hart_is
use Rattle.offload_calls.specs.declared.status.CoreStatus.TheVariants as Core_is
use Rattle.coherent_mem.specs.Parts.{shown}
use Rattle.conda_base.specs.declared.actor.Actor.{Actor}
use Rattle.line_memory.specs.Notes.{all_noted}
use Rattle.traffic_trace.specs.Notes.{no_notes}
use Rattle.chip_laws.specs.Design.{Design}
use Rattle.chip_laws.specs.Rules.{World}
use Rattle.chip_laws.specs.Worlds.{output_of, world}
use Rattle.run_report.specs.Texts.{report_text}
use Rattle.run_report.specs.View.{View}
use Rattle.chip_core.specs.declared.stage.Stage.{Stage}
use Rattle.chip_core.specs.declared.stage.Stage.TheVariants as Stage_is
use Rattle.chip_core.specs.Shows.{Stands}
use Rattle.chip_core.specs.Views.{ChipView}

-- the registers of a core: those of the opening where a try is open
abbrev pub regs_at : Stage → Regs
regs_at (Stage_is.Ready s) = s.regs
regs_at (Stage_is.Open s) = s.opening
regs_at (Stage_is.Flushing s) = s.regs
regs_at Stage_is.Moved = start_regs 0

abbrev pub no_hart : Hart
no_hart = record { regs = start_regs 0; status = Hart_is.Run }

-- past the chip's harts and cores, any
abbrev pub view_of_chip : ChipView → View
view_of_chip c = record {
  harts = length c.harts;
  cores = length c.statuses;
  hart = λ i. slice_index_or c.harts i no_hart;
  core = λ j. record {
    regs = regs_at (slice_index_or c.portions j Stage_is.Moved);
    status = slice_index_or c.statuses j Core_is.Idle;
  };
  base = (shown c.memory).base;
  line_bytes = (shown c.memory).line_bytes;
  memory = (shown c.memory).view;
  loaded = c.code.bytes;
  sets = (shown c.memory).sets;
  tags = (shown c.memory).tags;
  trace = c.log;
}

-- what the report shows of a world: an open try leaves its core as it was at the opening
abbrev pub view_of_world : Design → World → View
view_of_world d w = record {
  harts = d.config.harts;
  cores = d.config.cores;
  hart = w.flat.harts;
  core = w.flat.cores;
  base = d.image.code.base;
  line_bytes = d.config.line_bytes;
  memory = w.flat.memory;
  loaded = d.image.code.bytes;
  sets = d.config.hart_sets;
  tags = w.tags;
  trace = all_noted (no_notes d.config.trace_last) w.notes;
}

-- the report of these events
abbrev pub report_of_events : Design → List Actor → List ℕ
report_of_events d events =
    report_text (view_of_world d (world d events)) (length events) (length (output_of d events))

-- the report of a chip is that of the events that it stands for
abbrev pub ReportsAreOfEvents : Type 0
ReportsAreOfEvents =
    (d : Design) (chip : ChipView) (events : List Actor) → Stands d chip events
    → report_text (view_of_chip chip) (length events) (length (output_of d events))
    ≡ report_of_events d events
