-- What follows from the answers of commands.
use Rattle.std.specs.Prelude.{◌≡◌, ◌⊎◌, ℕ, false, IsTrue, List, None}
use Rattle.conda_host.specs.declared.outside.Role.{Role}
use Rattle.conda_host.specs.declared.outside.Role.TheVariants as role
use Rattle.conda_host.specs.State.{HostState, IsLater, KeepsOpened, is_created, is_opened, Rose}
use Rattle.chip_laws.specs.Design.{Design}
use Rattle.command_run.specs.Driving.{bytes_of_file}
use Rattle.command_words.specs.Words.{Files, AreApart}
use Rattle.command_answers.specs.declared.status.Status.{Status}
use Rattle.command_answers.specs.declared.status.Status.TheVariants as status
use Rattle.command_answers.specs.Answers.{Command, Outcome, Answers}
use Rattle.command_answers.specs.Faults.{IsAnswer, IsFaultCaused, IsComplete}
use Rattle.conda_engine.specs.Files.{aim_of}
use Rattle.conda_engine.specs.Leaves.{IsDone, IsStop, HasStopped, HoldRunFronts, KeepsOthers, IsUnmade, MadeNothing}
use Rattle.conda_engine.specs.Rows.{drive_command, run_command, run_outcome, schedule_outcome}
use Rattle.command_answers.specs.Verdict.{Account, Aim, aim_of_schedule}

-- ---- of every command

-- a claim of every answer of every command
abbrev pub OfEvery : (Command → Outcome → HostState → HostState → Status → Type 0) → Type 0
OfEvery claim = (k : Command) (o : Outcome) (old new : HostState) (answer : Status)
    → Answers k o old new answer → claim k o old new answer

-- where no count of the host rose, it is what the bytes lead to, unless memory ran out
abbrev pub IsCompleteCommand : Command → Outcome → HostState → HostState → Status → Type 0
IsCompleteCommand k o old new answer = IsTrue old.tells
    → ((r : Role) (n : List ℕ) → Rose old new r n → ⊥)
    → (answer ≡ status.OutOfMemory) ⊎ (answer ≡ o.verdict)

-- no role is created but those that the command has created by its answer
abbrev pub CreatesNoOther : Command → Outcome → HostState → HostState → Status → Type 0
CreatesNoOther k o old new answer = (r : Role) → k.creates answer r ≡ None
    → is_created old r ≡ false → is_created new r ≡ false

-- what a role has opened that the command hasn't opened by its answer stays
abbrev pub OpensNoOther : Command → Outcome → HostState → HostState → Status → Type 0
OpensNoOther k o old new answer = (r : Role) → k.opens answer r ≡ None
    → KeepsOpened (old.role r) (new.role r)

-- ---- of `run`, and of its steps from where the schedule is opened

-- a claim of every answer of `run`
abbrev pub OfRun : (Aim → Files → HostState → HostState → Status → Type 0) → Type 0
OfRun claim = (a : Account) (files : Files) (old new : HostState) (answer : Status)
    → Answers (run_command files) (run_outcome a files old) old new answer
    → claim (aim_of a files old) files old new answer

-- a claim of every answer of these steps
abbrev pub OfDrive : (Aim → Files → HostState → HostState → Status → Type 0) → Type 0
OfDrive claim = (a : Account) (d : Design) (files : Files) (old new : HostState) (answer : Status)
    → Answers (drive_command files) (schedule_outcome a d (bytes_of_file old files.schedule)) old new
    answer
    → claim (aim_of_schedule a d (bytes_of_file old files.schedule)) files old new answer

-- it is what the bytes lead to, or the host failed
abbrev pub IsDriveAnswer : Aim → Files → HostState → HostState → Status → Type 0
IsDriveAnswer aim files old new answer = IsAnswer files old new aim.verdict answer

-- or memory ran out
abbrev pub IsRunAnswer : Aim → Files → HostState → HostState → Status → Type 0
IsRunAnswer aim files old new answer = (answer ≡ status.OutOfMemory)
    ⊎ IsAnswer files old new aim.verdict answer

abbrev pub IsAnswerCaused : Aim → Files → HostState → HostState → Status → Type 0
IsAnswerCaused aim files old new answer = IsFaultCaused files old new answer

-- where no count of the host rose, it is what they lead to
abbrev pub IsDriveComplete : Aim → Files → HostState → HostState → Status → Type 0
IsDriveComplete aim files old new answer = IsComplete old new aim.verdict answer

-- unless memory ran out
abbrev pub IsRunComplete : Aim → Files → HostState → HostState → Status → Type 0
IsRunComplete aim files old new answer = (answer ≡ status.OutOfMemory)
    ⊎ IsComplete old new aim.verdict answer

-- the host's counts only rose
abbrev pub OnlyCounts : Aim → Files → HostState → HostState → Status → Type 0
OnlyCounts aim files old new answer = IsLater old new

-- At Done order, report and output hold the texts of one memory that executes the written order, in
-- which every event of the schedule has its entry.
abbrev pub IsDoneWhole : Aim → Files → HostState → HostState → Status → Type 0
IsDoneWhole aim files old new answer = answer ≡ status.Done → IsDone files old new aim.whole

abbrev pub HasStoppedAt : Aim → Files → HostState → HostState → Status → Type 0
HasStoppedAt aim files old new answer = IsStop answer → HasStopped files old new aim.texts

abbrev pub HoldsFronts : Aim → Files → HostState → HostState → Status → Type 0
HoldsFronts aim files old new answer = HoldRunFronts files old new aim.texts

abbrev pub KeepsOtherFiles : Aim → Files → HostState → HostState → Status → Type 0
KeepsOtherFiles aim files old new answer = KeepsOthers files old new

-- after refusals before the schedule is opened no file was changed, and nothing that any role has
-- created
abbrev pub MakesNothing : Aim → Files → HostState → HostState → Status → Type 0
MakesNothing aim files old new answer = IsUnmade answer → MadeNothing old new

-- nor was the schedule opened
abbrev pub OpensNoSchedule : Aim → Files → HostState → HostState → Status → Type 0
OpensNoSchedule aim files old new answer = IsUnmade answer
    → KeepsOpened (old.role role.Schedule) (new.role role.Schedule)

-- where the schedule isn't opened, nothing is created
abbrev pub NeedsSchedule : Aim → Files → HostState → HostState → Status → Type 0
NeedsSchedule aim files old new answer = is_opened new role.Schedule ≡ false → MadeNothing old new

-- after a bad line or a limit of the schedule, the file that has the report's name stays
abbrev pub KeepsOldReport : Aim → Files → HostState → HostState → Status → Type 0
KeepsOldReport aim files old new answer = AreApart files → IsStop answer → IsTrue old.tells
    → new.file files.report ≡ old.file files.report
