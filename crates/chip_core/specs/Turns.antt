-- One event of a chip, over any world that it shows.
use Rattle.std.specs.Prelude.{ℕ, ◌≡◌, ◌++◌, List, None}
use Rattle.std.specs.List.{AllByRecursion}
use Rattle.conda_base.specs.declared.actor.Actor.{Actor}
use Rattle.conda_base.specs.declared.actor.Actor.TheVariants as Actor_is
use Rattle.line_memory.specs.Backing.{BackingView}
use Rattle.traffic_trace.specs.Notes.{Trace}
use Rattle.schedule_log.specs.declared.entry.Entry.{Entry}
use Rattle.schedule_log.specs.declared.entry.Entry.TheVariants.{Step}
use Rattle.rv32_hart.specs.Code.{CodeView}
use Rattle.offload_calls.specs.declared.status.Hart.{Hart}
use Rattle.chip_laws.specs.Design.{Design, IsDesign, IsActorOf}
use Rattle.chip_laws.specs.Rules.{World, next}
use Rattle.chip_laws.specs.Worlds.{happens, took, world}
use Rattle.chip_core.specs.Seats.{Turned}
use Rattle.chip_core.specs.declared.cores.Cores.{Cores}
use Rattle.chip_core.specs.Views.{ChipView, AreNotedIn}
use Rattle.chip_core.specs.Shows.{Shows, ShowsMemory, ShowsCores, ShowsLock}
use Rattle.chip_config.specs.Settings.{Settings}
use Rattle.chip_core.specs.Fits.{FitCores}

-- the entry is the next one, the chip then shows what happens, and what is output is what flat
-- memory's output gains
pub record Turns (d : Design) (w : World) (a : Actor) (new : ChipView) (entry : Entry)
    (puts : List ℕ) : Type 0 where
  pub entry_is : entry ≡ next d w a
  pub shows : Shows d new (happens d w a)
  pub output : (happens d w a).flat.output ≡ w.flat.output ++ puts

-- ---- the parts that an event changes

-- memory with its traffic, and the cores with their lock, show a world
pub record ShowsParts
    (d : Design) (code : CodeView) (b : BackingView) (log : Trace) (held : Cores) (w : World)
    : Type 0 where
  pub code_is : code ≡ d.image.code
  pub memory : ShowsMemory d b log w
  pub cores : ShowsCores d held.statuses.items held.portions.items w
  pub lock : ShowsLock d held.lock w

-- one event of hart h, on the parts that it may change
pub record HartTurns
    (d : Design) (w : World) (h : ℕ) (code : CodeView) (hart : Hart) (b : BackingView)
    (log : Trace) (cores : Cores) (entry : Entry) (puts : List ℕ) : Type 0 where
  pub entry_is : entry ≡ next d w (Actor_is.Hart h)
  pub hart_is : hart ≡ (happens d w (Actor_is.Hart h)).flat.harts h
  pub parts : ShowsParts d code b log cores (happens d w (Actor_is.Hart h))
  pub output : (happens d w (Actor_is.Hart h)).flat.output ≡ w.flat.output ++ puts

-- a step of hart h, which puts these bytes
pub record HartSteps
    (d : Design) (w : World) (h : ℕ) (code : CodeView) (hart : Hart) (b : BackingView)
    (log : Trace) (cores : Cores) (puts : List ℕ) : Type 0 where
  pub hart_is : hart ≡ (took d w (Step h)).flat.harts h
  pub parts : ShowsParts d code b log cores (took d w (Step h))
  pub output : (took d w (Step h)).flat.output ≡ w.flat.output ++ puts

-- some list of actors that the configuration has leads to this world
pub record IsReached (d : Design) (w : World) : Type 0 where
  pub is_design : IsDesign d
  pub events : List Actor
  pub actors : AllByRecursion (IsActorOf d) events
  pub leads : w ≡ world d events

-- ---- one event of a near-data core

-- one event of core j
pub record CoreTurns
    (d : Design) (w : World) (j : ℕ) (code : CodeView) (b : BackingView) (log : Trace)
    (cores : Cores) (event : Turned) : Type 0 where
  pub entry : event.entry ≡ next d w (Actor_is.Core j)
  pub harts : (h : ℕ) → (happens d w (Actor_is.Core j)).flat.harts h ≡ w.flat.harts h
  pub parts : ShowsParts d code b log cores (happens d w (Actor_is.Core j))
  pub output : (happens d w (Actor_is.Core j)).flat.output ≡ w.flat.output ++ event.puts

-- where no core is locked, what fits a configuration still does
abbrev pub KeepFits : CodeView → Cores → Cores → Type 0
KeepFits code old new =
    (c : Settings) → old.lock.locked ≡ None
    → FitCores c code old.statuses.items old.portions.items old.lock
    → FitCores c code new.statuses.items new.portions.items new.lock

-- notes of lines of memory alone still are
abbrev pub KeepsNoted : BackingView → Trace → BackingView → Trace → Type 0
KeepsNoted old log new later = AreNotedIn old log → AreNotedIn new later
