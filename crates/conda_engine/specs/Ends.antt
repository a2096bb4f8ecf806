-- How a run ends from where its schedule is opened.
use Rattle.std.specs.Prelude.{◌≡◌, ◌⊎◌, ℕ, List, IsTrue}
use Rattle.conda_base.specs.declared.actor.Actor.{Actor}
use Rattle.conda_host.specs.declared.outside.Role.TheVariants as role
use Rattle.conda_host.specs.State.{HostState}
use Rattle.chip_laws.specs.Design.{Design}
use Rattle.schedule_log.specs.Verdict.{most_bytes, most_events}
use Rattle.machine_run.specs.declared.machine.Machine.{Ghosts}
use Rattle.command_answers.specs.declared.status.Status.{Status}
use Rattle.command_answers.specs.declared.status.Status.TheVariants as status
use Rattle.command_answers.specs.Verdict.{Account, all_events, events_that_run}

-- what a machine says of events
abbrev pub account_of : {A : Type 0} → Ghosts A → (Design → List Actor → List ℕ) → Account
account_of m report = record { journal = m.journal; output = m.output; report = report }

-- an answer that the run of a schedule gives
abbrev pub IsRunEnd : Status → Type 0
IsRunEnd status.Done = Unit {0}
IsRunEnd (status.Schedule line why) = Unit {0}
IsRunEnd (status.TooLarge role.Schedule limit) = Unit {0}
IsRunEnd other = ⊥

-- an answer of these steps
abbrev pub IsLate : Status → Type 0
IsLate (status.ReadFault role.Schedule) = Unit {0}
IsLate (status.WriteFault role.Order) = Unit {0}
IsLate (status.WriteFault role.Report) = Unit {0}
IsLate (status.WriteFault role.Output) = Unit {0}
IsLate (status.TooLarge role.Schedule limit) = (limit ≡ most_events) ⊎ (limit ≡ most_bytes)
IsLate other = IsRunEnd other

-- the events of a run that came to this end: at Done all of the schedule's
abbrev pub events_until : Status → Design → List ℕ → List Actor
events_until status.Done d schedule = all_events d schedule
events_until other d schedule = events_that_run d schedule

-- the machine stands for these events, where the run came to an end
abbrev pub StandsAfter : {A : Type 0} → Ghosts A → Design → HostState → List ℕ → Status → A → Type 0
StandsAfter m d old schedule answer machine = IsTrue old.tells → IsRunEnd answer
    → m.stands d machine (events_until answer d schedule)

-- what holds of all events of the machine holds of those that ran, where the run came to an end
abbrev pub HoldsOfRun : (Design → List Actor → Type 0) → Design → HostState → List ℕ → Status → Type 0
HoldsOfRun law d old schedule answer =
    IsTrue old.tells → IsRunEnd answer → law d (events_until answer d schedule)
