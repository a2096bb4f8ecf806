-- What clauses see of a machine without portions.
use Rattle.std.specs.Prelude.{ℕ, ◌≡◌, ◌≤◌, Bool, List, length, nat_lt, slice_index_or}
use Rattle.conda_base.specs.declared.actor.Actor.{Actor}
use Rattle.conda_base.specs.declared.actor.Actor.TheVariants as Actor_is
use Rattle.chip_config.specs.Settings.{Settings, IsAccepted}
use Rattle.rv32_hart.specs.declared.regs.Regs.{Regs}
use Rattle.rv32_hart.specs.Code.{CodeView}
use Rattle.line_memory.specs.Backing.{BackingView}
use Rattle.coherent_mem.specs.Parts.{Parts, shown}
use Rattle.traffic_trace.specs.Notes.{Trace}
use Rattle.offload_calls.specs.declared.status.Hart.{Hart}
use Rattle.offload_calls.specs.declared.status.CoreStatus.{CoreStatus}
use Rattle.offload_calls.specs.declared.status.CoreStatus.TheVariants as Core_is
use Rattle.offload_calls.specs.CoreActs.{core_runs}
use Rattle.hart_turns.specs.Steps.{FitsCode, AreNotedIn}

-- the configuration, the image as loaded, memory under caches, the harts, the cores' statuses and
-- registers, and the traffic
pub record PlainView : Type 0 where
  pub config : Settings
  pub code : CodeView
  pub memory : Parts
  pub harts : List Hart
  pub statuses : List CoreStatus
  pub regs : List Regs
  pub log : Trace

abbrev pub plain_view
    : Settings → CodeView → Parts → List Hart → List CoreStatus → List Regs → Trace → PlainView
plain_view config code memory harts statuses regs log = record {
  config = config;
  code = code;
  memory = memory;
  harts = harts;
  statuses = statuses;
  regs = regs;
  log = log;
}

-- every part has the numbers that the configuration gives
pub record HasNumbers (c : Settings) (code : CodeView) (b : BackingView) : Type 0 where
  pub code_base : code.base ≡ c.mem_base
  pub code_bytes : length code.bytes ≡ c.mem_bytes
  pub line_bytes : b.line_bytes ≡ c.line_bytes
  pub base : b.base ≡ c.mem_base
  pub bytes : length b.view ≡ c.mem_bytes
  pub sets : b.sets ≡ c.hart_sets
  pub ways : b.ways ≡ c.hart_ways

-- what every machine without portions keeps: each hart is a holder
pub record IsPlain (c : PlainView) : Type 0 where
  pub accepted : IsAccepted c.config
  pub same : FitsCode c.code (shown c.memory)
  pub numbers : HasNumbers c.config c.code (shown c.memory)
  pub holders_are : c.config.harts ≤ (shown c.memory).holders
  pub harts_are : length c.harts ≡ c.config.harts
  pub statuses_are : length c.statuses ≡ c.config.cores
  pub regs_are : length c.regs ≡ c.config.cores
  pub noted : AreNotedIn (shown c.memory) c.log

-- the machine has this hart or near-data core
abbrev pub is_actor_of : PlainView → Actor → Bool
is_actor_of c (Actor_is.Hart h) = nat_lt h c.config.harts
is_actor_of c (Actor_is.Core j) = nat_lt j c.config.cores

-- core j runs a kernel
abbrev pub runs_at : List CoreStatus → ℕ → Bool
runs_at statuses j = core_runs (slice_index_or statuses j Core_is.Idle)
