-- The headline: what a run that is done leaves, and what holds of its events.
use Rattle.std.specs.Prelude.{◌≡◌, List, IsTrue}
use Rattle.conda_base.specs.declared.actor.Actor.{Actor}
use Rattle.conda_host.specs.State.{HostState}
use Rattle.chip_laws.specs.Design.{Design}
use Rattle.command_run.specs.Driving.{bytes_of_file}
use Rattle.command_words.specs.Words.{Files}
use Rattle.command_answers.specs.declared.status.Status.{Status}
use Rattle.command_answers.specs.declared.status.Status.TheVariants as status
use Rattle.conda_engine.specs.Leaves.{IsDone}
use Rattle.command_answers.specs.Verdict.{Account, all_events, design_said, texts_of_events}

-- what the files of configuration and image say
abbrev pub design_of_files : Files → HostState → Design
design_of_files files s = design_said (bytes_of_file s files.config) (bytes_of_file s files.image)

-- all events of the schedule's file
abbrev pub events_of_files : Files → HostState → List Actor
events_of_files files s = all_events (design_of_files files s) (bytes_of_file s files.schedule)

-- Order, report and output are the texts of all events of the schedule, by what a machine says of
-- them, which is one flat memory that executes the written order; and these events are lawful.
pub record HasHeadline (a : Account) (law : Design → List Actor → Type 0) (files : Files)
    (old new : HostState) : Type 0 where
  pub texts : IsDone files old new
      (texts_of_events a (design_of_files files old) (events_of_files files old))
  pub lawful : law (design_of_files files old) (events_of_files files old)

abbrev pub HasHeadlineAtDone : Account → (Design → List Actor → Type 0) → Files → HostState
    → HostState → Status → Type 0
HasHeadlineAtDone a law files old new answer =
    IsTrue old.tells → answer ≡ status.Done → HasHeadline a law files old new
