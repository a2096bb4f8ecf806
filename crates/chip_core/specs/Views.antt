-- What clauses see of a chip.
use Rattle.std.specs.Prelude.{ℕ, ◌≡◌, Bool, List, length, nat_lt, slice_get, All, option_and_then, Option, Some, None}
use Rattle.conda_base.specs.declared.actor.Actor.{Actor}
use Rattle.conda_base.specs.declared.actor.Actor.TheVariants as Actor_is
use Rattle.chip_config.specs.Settings.{Settings, IsAccepted}
use Rattle.rv32_hart.specs.Code.{CodeView}
use Rattle.line_memory.specs.Backing.{BackingView, IsInRange}
use Rattle.traffic_trace.specs.declared.note.Note.{Note}
use Rattle.coherent_mem.specs.Parts.{Parts, shown}
use Rattle.coherent_mem.specs.Steps.{IsCoherent}
use Rattle.traffic_trace.specs.Notes.{Trace}
use Rattle.offload_calls.specs.declared.status.Hart.{Hart}
use Rattle.offload_calls.specs.declared.status.CoreStatus.{CoreStatus}
use Rattle.fallback_lock.specs.Locks.{Counts}
use Rattle.portion_ctl.specs.Views.{OpenView}
use Rattle.chip_core.specs.declared.cores.Cores.{Cores}
use Rattle.chip_core.specs.declared.stage.Stage.{Stage}
use Rattle.chip_core.specs.declared.stage.Stage.TheVariants as Stage_is
use Rattle.chip_core.specs.Fits.{FitCores}

-- the configuration, the image as loaded, memory under the harts' caches, the harts, the near-data
-- cores' statuses and what each of them holds, the rollbacks with the locked core, and the traffic
pub record ChipView : Type 0 where
  pub config : Settings
  pub code : CodeView
  pub memory : Parts
  pub harts : List Hart
  pub statuses : List CoreStatus
  pub portions : List Stage
  pub lock : Counts
  pub log : Trace

abbrev pub chip_view : Settings → CodeView → Parts → List Hart → Cores → Trace → ChipView
chip_view config code memory harts cores log = record {
  config = config;
  code = code;
  memory = memory;
  harts = harts;
  statuses = cores.statuses.items;
  portions = cores.portions.items;
  lock = cores.lock;
  log = log;
}

-- every part has the numbers that the configuration gives
pub record HasNumbers (c : Settings) (code : CodeView) (b : BackingView) : Type 0 where
  pub code_base : code.base ≡ c.mem_base
  pub code_bytes : length code.bytes ≡ c.mem_bytes
  pub line_bytes : b.line_bytes ≡ c.line_bytes
  pub base : b.base ≡ c.mem_base
  pub bytes : length b.view ≡ c.mem_bytes
  pub holders : b.holders ≡ c.harts
  pub sets : b.sets ≡ c.hart_sets
  pub ways : b.ways ≡ c.hart_ways

-- memory and the image have the same bytes' addresses, and memory is coherent
pub record FitsCode (code : CodeView) (b : BackingView) : Type 0 where
  pub base : b.base ≡ code.base
  pub bytes : length b.view ≡ length code.bytes
  pub coherent : IsCoherent b

-- each kept note is of a line of memory
abbrev pub AreNotedIn : BackingView → Trace → Type 0
AreNotedIn b trace = All (λ (note : Note). IsInRange b note.line) trace.notes

-- what every chip keeps
pub record IsChip (c : ChipView) : Type 0 where
  pub accepted : IsAccepted c.config
  pub same : FitsCode c.code (shown c.memory)
  pub numbers : HasNumbers c.config c.code (shown c.memory)
  pub harts : length c.harts ≡ c.config.harts
  pub noted : AreNotedIn (shown c.memory) c.log
  pub cores : FitCores c.config c.code c.statuses c.portions c.lock

-- the try that a core has open
abbrev pub open_try : Stage → Option OpenView
open_try (Stage_is.Ready s) = None
open_try (Stage_is.Open s) = Some s
open_try (Stage_is.Flushing s) = None
open_try Stage_is.Moved = None

abbrev pub try_at : ChipView → ℕ → Option OpenView
try_at c j = option_and_then open_try (slice_get c.portions j)

-- the chip has this hart or near-data core
abbrev pub is_actor_of : ChipView → Actor → Bool
is_actor_of c (Actor_is.Hart h) = nat_lt h c.config.harts
is_actor_of c (Actor_is.Core j) = nat_lt j c.config.cores
