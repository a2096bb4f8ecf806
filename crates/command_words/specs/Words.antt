-- The words that the program takes: a command, and behind it its options in any order.
use Rattle.std.specs.Prelude.{◌≢◌, IfSome, ℕ, ◌≤◌, ◌-◌, ◌^◌, true, false, List, [], ◌∷◌, codes, Option, Some, None, option_map, unwrap_or, if◌then◌else◌}
use Rattle.std.specs.Str.{bytes_eq}
use Rattle.conda_base.specs.Digits.{number_after}
use Rattle.schedule_log.specs.Verdict.{most_events}
use Rattle.command_words.specs.declared.command.RunFiles.{RunFiles}
use Rattle.command_words.specs.declared.command.ProgramFiles.{ProgramFiles as ProgramWords}
use Rattle.command_words.specs.declared.command.Mode.{Mode}
use Rattle.command_words.specs.declared.command.Mode.TheVariants as mode
use Rattle.command_words.specs.declared.command.Command.{Command}
use Rattle.command_words.specs.declared.command.Command.TheVariants as command
use Rattle.command_words.specs.declared.table.Kind.TheVariants as kind
use Rattle.command_words.specs.Options.{Given, Known, are_options, options_of, first_value}

-- ---- the commands and their options

-- an option that names a file, and must stand
abbrev pub needed_file : List ℕ → Known
needed_file name = record { name = name; is_needed = true; kind = kind.File }

-- an option that names a file, and may be left out
abbrev pub free_file : List ℕ → Known
free_file name = record { name = name; is_needed = false; kind = kind.File }

-- an option that is a number from one to another, and must stand
abbrev pub needed_number : List ℕ → ℕ → ℕ → Known
needed_number name from to = record { name = name; is_needed = true; kind = kind.Number from to }

-- the options of `run` and of `fine`
abbrev pub run_options : List Known
run_options =
    needed_file (codes "--config")
    ∷ needed_file (codes "--image")
    ∷ needed_file (codes "--schedule")
    ∷ needed_file (codes "--order")
    ∷ needed_file (codes "--report")
    ∷ free_file (codes "--output")
    ∷ []

-- those of `self`
abbrev pub self_options : List Known
self_options =
    needed_number (codes "--seed") 0 (2 ^ 64 - 1)
    ∷ needed_number (codes "--events") 1 most_events
    ∷ needed_file (codes "--report")
    ∷ []

-- those of `asm` and of `dis`
abbrev pub program_options : List Known
program_options = needed_file (codes "--source") ∷ needed_file (codes "--program") ∷ []

-- ---- what the words ask for

-- the names of the files of a run
pub record Files : Type 0 where
  pub config : List ℕ
  pub image : List ℕ
  pub schedule : List ℕ
  pub order : List ℕ
  pub report : List ℕ
  pub output : Option (List ℕ)

-- those of a program's text and of its image
pub record ProgramFiles : Type 0 where
  pub source : List ℕ
  pub program : List ℕ

-- a command with what its options say: `run` and `fine` are runs on one of two machines; `self` has
-- a seed, a number of events and its report
pub data Asked : Type 0 where
  Run : Mode → Files → Asked
  SelfRun : ℕ → ℕ → List ℕ → Asked
  Asm : ProgramFiles → Asked
  Dis : ProgramFiles → Asked

-- the name that an option gives
abbrev pub name_in : List ℕ → List Given → List ℕ
name_in name options = unwrap_or (first_value name options) []

-- the number that an option gives
abbrev pub amount_in : List ℕ → List Given → ℕ
amount_in name options = number_after 0 (name_in name options)

abbrev pub files_in : List Given → Files
files_in options = record {
  config = name_in (codes "--config") options;
  image = name_in (codes "--image") options;
  schedule = name_in (codes "--schedule") options;
  order = name_in (codes "--order") options;
  report = name_in (codes "--report") options;
  output = first_value (codes "--output") options;
}

abbrev pub program_files_in : List Given → ProgramFiles
program_files_in options = record {
  source = name_in (codes "--source") options;
  program = name_in (codes "--program") options;
}

abbrev pub self_run_in : List Given → Asked
self_run_in options =
    SelfRun (amount_in (codes "--seed") options) (amount_in (codes "--events") options)
    (name_in (codes "--report") options)

-- it is asked where the table allows the options
abbrev pub where_allowed : List Known → List Given → Asked → Option Asked
where_allowed table options asked = if are_options table options then Some asked else None

-- what a command with these options asks for
abbrev pub asked_with : List ℕ → List Given → Option Asked
asked_with name options =
    if bytes_eq name (codes "run")
    then where_allowed run_options options (Run mode.Conda (files_in options))
    else (if bytes_eq name (codes "fine")
    then where_allowed run_options options (Run mode.Fine (files_in options))
    else (if bytes_eq name (codes "self")
    then where_allowed self_options options (self_run_in options)
    else (if bytes_eq name (codes "asm")
    then where_allowed program_options options (Asm (program_files_in options))
    else (if bytes_eq name (codes "dis")
    then where_allowed program_options options (Dis (program_files_in options))
    else None))))

-- what the words ask for, if they are the words of a command
abbrev pub asked : List (List ℕ) → Option Asked
asked [] = None
asked (name ∷ words) = asked_with name (options_of words)

-- the files that the words name, where they are the words of a run by portions
abbrev pub run_of : Option Asked → Option Files
run_of (Some (Run mode.Conda files)) = Some files
run_of other = None

abbrev pub run_files : List (List ℕ) → Option Files
run_files words = run_of (asked words)

-- ---- names as lists of bytes

abbrev pub named : RunFiles → Files
named n = record {
  config = n.config.now;
  image = n.image.now;
  schedule = n.schedule.now;
  order = n.order.now;
  report = n.report.now;
  output = option_map (λ s. s.now) n.output;
}

abbrev pub program_named : ProgramWords → ProgramFiles
program_named n = record { source = n.source.now; program = n.program.now }

abbrev pub command_named : Command → Asked
command_named (command.Run mode files) = Run mode (named files)
command_named (command.SelfRun seed events report) = SelfRun seed events report.now
command_named (command.Asm files) = Asm (program_named files)
command_named (command.Dis files) = Dis (program_named files)

-- ---- what follows

-- the names of the files that are written are pairwise different
pub record AreApart (files : Files) : Type 0 where
  pub order_report : files.order ≢ files.report
  pub order_output : IfSome files.output (λ output. files.order ≢ output)
  pub report_output : IfSome files.output (λ output. files.report ≢ output)

-- what is asked can be done: files that are apart, and a number of events in its range
abbrev pub HasAllowedValues : Asked → Type 0
HasAllowedValues (Run mode files) = AreApart files
HasAllowedValues (SelfRun seed events report) = (1 ≤ events) × (events ≤ most_events)
HasAllowedValues (Asm files) = files.source ≢ files.program
HasAllowedValues (Dis files) = files.source ≢ files.program
