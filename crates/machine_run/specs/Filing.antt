-- A schedule's run over a host: what its files hold then.
use Rattle.std.specs.Prelude.{◌≡◌, ℕ, Bool, List, [], length, Result, Ok, Err}
use Rattle.conda_base.specs.declared.actor.Actor.{Actor}
use Rattle.conda_host.specs.declared.outside.Role.{Role}
use Rattle.conda_host.specs.declared.outside.Role.TheVariants.{Order, Output}
use Rattle.conda_host.specs.State.{HostState}
use Rattle.schedule_log.specs.Texts.{order_text}
use Rattle.schedule_log.specs.Verdict.{good, schedule_verdict}
use Rattle.chip_laws.specs.Design.{Design}
use Rattle.streams.specs.declared.fault.Fault.{Fault}
use Rattle.streams.specs.Seen.{Seen, ShowsText}
use Rattle.streams.specs.Holding.{SinkHolds, SinkHoldsFront}
use Rattle.machine_run.specs.declared.ending.Ending.{Ending}
use Rattle.machine_run.specs.declared.machine.Machine.{Ghosts}
use Rattle.machine_run.specs.declared.run.Run.{Run}
use Rattle.machine_run.specs.Going.{verdict_of}

-- nothing was run, and the texts are empty
pub record IsNew {A : Type 0} (streams : Seen) (run : Run A) : Type 0 where
  pub events : run.events ≡ 0
  pub bytes : run.output_bytes ≡ 0
  pub order : ShowsText streams Order []
  pub output : ShowsText streams Output []

-- the machine stands for these events, and the files hold their texts
pub record HasRun {A : Type 0} (m : Ghosts A) (d : Design) (h : HostState) (sinks : Role → Bool)
    (run : Run A) (events : List Actor) : Type 0 where
  pub stands : m.stands d run.machine events
  pub order : SinkHolds h sinks Order (order_text (m.journal d events))
  pub output : SinkHolds h sinks Output (m.output d events)
  pub count : run.events ≡ length events
  pub bytes : run.output_bytes ≡ length (m.output d events)

-- the files hold fronts of the texts of these events
pub record FilesHoldFronts {A : Type 0} (m : Ghosts A) (d : Design) (h : HostState)
    (sinks : Role → Bool)
    (events : List Actor) : Type 0 where
  pub order : SinkHoldsFront h sinks Order (order_text (m.journal d events))
  pub output : SinkHoldsFront h sinks Output (m.output d events)

-- A schedule of these bytes was run: the files hold the texts of its events that run, or after a
-- fault fronts of them.
abbrev pub RunsFiles : {A : Type 0} → Ghosts A → Design → List ℕ → HostState → (Role → Bool) → Run A
    → Result Ending Fault → Type 0
RunsFiles m d bytes h sinks run (Ok ending) =
    (verdict_of ending ≡ schedule_verdict d.config.harts d.config.cores bytes)
    × HasRun m d h sinks run (good d.config.harts d.config.cores bytes)
RunsFiles m d bytes h sinks run (Err fault) =
    FilesHoldFronts m d h sinks (good d.config.harts d.config.cores bytes)
