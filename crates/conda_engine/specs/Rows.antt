-- The row of `run`, and of its steps from where the schedule is opened.
use Rattle.std.specs.Prelude.{ℕ, true, false, List, [], Option, Some, None, Result, Ok, Err}
use Rattle.conda_host.specs.declared.outside.Role.{Role}
use Rattle.conda_host.specs.declared.outside.Role.TheVariants as role
use Rattle.conda_host.specs.State.{HostState}
use Rattle.chip_laws.specs.Design.{Design}
use Rattle.streams.specs.declared.fault.Fault.{Fault}
use Rattle.streams.specs.declared.fault.Fault.TheVariants as fault
use Rattle.machine_run.specs.declared.ending.Ending.{Ending}
use Rattle.machine_run.specs.Going.{verdict_of}
use Rattle.command_run.specs.Names.{all_files, text_files}
use Rattle.command_words.specs.Words.{Files}
use Rattle.command_answers.specs.declared.status.Status.{Status}
use Rattle.command_answers.specs.declared.status.Status.TheVariants as status
use Rattle.command_answers.specs.Answers.{Command, Outcome, no_name}
use Rattle.conda_engine.specs.Files.{aim_of, run_names_of}
use Rattle.command_answers.specs.Verdict.{Account, Aim, Texts, aim_of_schedule, status_of_verdict}

-- ---- what it opens and creates

abbrev pub config_file : Files → Role → Option (List ℕ)
config_file files role.Config = Some files.config
config_file files other = None

abbrev pub first_files : Files → Role → Option (List ℕ)
first_files files role.Config = Some files.config
first_files files role.Image = Some files.image
first_files files other = None

abbrev pub read_files : Files → Role → Option (List ℕ)
read_files files role.Config = Some files.config
read_files files role.Image = Some files.image
read_files files role.Schedule = Some files.schedule
read_files files other = None

-- The files that a run has opened by an answer: each only after those before it were read, and its
-- schedule only after all memory was taken.
abbrev pub run_opens : Files → Status → Role → Option (List ℕ)
run_opens files (status.ReadFault role.Config) = config_file files
run_opens files (status.Config fault) = config_file files
run_opens files (status.TooLarge role.Config limit) = config_file files
run_opens files (status.ReadFault role.Image) = first_files files
run_opens files (status.Image fault) = first_files files
run_opens files (status.TooLarge role.Image limit) = first_files files
run_opens files status.OutOfMemory = first_files files
run_opens files other = read_files files

-- The files that a run has created by an answer: none before its schedule is opened, and its report
-- only where the schedule was run whole.
abbrev pub run_creates : Files → Status → Role → Option (List ℕ)
run_creates files status.Done = all_files (run_names_of files)
run_creates files (status.WriteFault role.Report) = all_files (run_names_of files)
run_creates files (status.WriteFault other) = text_files (run_names_of files)
run_creates files (status.ReadFault role.Schedule) = text_files (run_names_of files)
run_creates files (status.Schedule line why) = text_files (run_names_of files)
run_creates files (status.TooLarge role.Schedule limit) = text_files (run_names_of files)
run_creates files other = no_name

abbrev pub run_command : Files → Command
run_command files = record {
  opens = run_opens files;
  creates = run_creates files;
  opens_first = Some role.Schedule;
  takes_memory = true;
}

-- from where the schedule is opened
abbrev pub drive_opens : Files → Status → Role → Option (List ℕ)
drive_opens files answer role.Schedule = run_opens files answer role.Schedule
drive_opens files answer other = None

abbrev pub drive_command : Files → Command
drive_command files = record {
  opens = drive_opens files;
  creates = run_creates files;
  opens_first = Some role.Schedule;
  takes_memory = false;
}

-- ---- what the bytes lead to

abbrev pub text_of_role : Texts → Role → List ℕ
text_of_role texts role.Order = texts.order
text_of_role texts role.Report = texts.report
text_of_role texts role.Output = texts.output
text_of_role texts other = []

abbrev pub outcome_of : Aim → Outcome
outcome_of aim = record { verdict = aim.verdict; text = text_of_role aim.texts }

-- what the files of a run lead to
abbrev pub run_outcome : Account → Files → HostState → Outcome
run_outcome a files s = outcome_of (aim_of a files s)

abbrev pub schedule_outcome : Account → Design → List ℕ → Outcome
schedule_outcome a d schedule = outcome_of (aim_of_schedule a d schedule)

-- ---- the status of a run from where its schedule is opened

abbrev pub status_of_fault : Fault → Status
status_of_fault (fault.Read r) = status.ReadFault r
status_of_fault (fault.Write r) = status.WriteFault r

abbrev pub status_of_ending : Ending → Status
status_of_ending ending = status_of_verdict (verdict_of ending)

abbrev pub status_of_run : Result Ending Fault → Status
status_of_run (Ok ending) = status_of_ending ending
status_of_run (Err fault) = status_of_fault fault
