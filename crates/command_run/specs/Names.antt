-- The names of a run's files, and what it uses under them.
use Rattle.std.specs.Prelude.{◌≡◌, ◌≢◌, ℕ, Bool, true, false, List, Option, Some, None, IfSome, IsSomeAnd, Result, Ok, Err, option_map}
use Rattle.conda_host.specs.declared.outside.Role.{Role}
use Rattle.conda_host.specs.declared.outside.Role.TheVariants.{Schedule, Order, Report, Output}
use Rattle.conda_host.specs.State.{HostState, is_opened, Rose}
use Rattle.streams.specs.declared.fault.Fault.{Fault}
use Rattle.streams.specs.declared.fault.Fault.TheVariants.{Read, Write}
use Rattle.streams.specs.Using.{Uses, KeepsTo}
use Rattle.machine_run.specs.declared.ending.Ending.{Ending}
use Rattle.machine_run.specs.declared.ending.Ending.TheVariants.{Whole}
use Rattle.command_run.specs.declared.names.RunNames.{RunNames}

pub record Names : Type 0 where
  pub schedule : List ℕ
  pub order : List ℕ
  pub report : List ℕ
  pub output : Option (List ℕ)

abbrev pub run_names : RunNames → Names
run_names w = record {
  schedule = w.schedule.now;
  order = w.order.now;
  report = w.report.now;
  output =
      option_map (λ s. s.now) w.output;
}

-- no two files that are created have one name
pub record HaveDistinctNames (names : Names) : Type 0 where
  pub order_report : names.order ≢ names.report
  pub order_output : IfSome names.output (λ output. names.order ≢ output)
  pub report_output : IfSome names.output (λ output. names.report ≢ output)

abbrev pub opened_by : Role → Bool
opened_by Schedule = true
opened_by other = false

-- the files that take texts while the schedule is run
abbrev pub text_files : Names → Role → Option (List ℕ)
text_files names Order = Some names.order
text_files names Output = names.output
text_files names other = None

-- and the report
abbrev pub all_files : Names → Role → Option (List ℕ)
all_files names Order = Some names.order
all_files names Output = names.output
all_files names Report = Some names.report
all_files names other = None

-- the report alone, by its name
abbrev pub report_file : List ℕ → Role → Option (List ℕ)
report_file name Report = Some name
report_file name other = None

abbrev pub none_opened : Role → Bool
none_opened r = false

abbrev pub report_uses : List ℕ → Uses
report_uses name = record { opens = none_opened; creates = report_file name }

-- until the schedule was run whole, a run doesn't use its report
abbrev pub text_uses : Names → Uses
text_uses names = record { opens = opened_by; creates = text_files names }

abbrev pub all_uses : Names → Uses
all_uses names = record { opens = opened_by; creates = all_files names }

-- what a run uses that had this answer: its report only where the schedule was run whole, or its
-- creation or writing failed
abbrev pub run_uses : Names → Result Ending Fault → Uses
run_uses names (Ok Whole) = all_uses names
run_uses names (Err (Write Report)) = all_uses names
run_uses names other = text_uses names

abbrev pub nothing_created : Role → Option (List ℕ)
nothing_created r = None

-- where the schedule isn't opened, nothing is created
abbrev pub CreatesOnceOpened : HostState → HostState → Type 0
CreatesOnceOpened old new = is_opened new Schedule ≡ false
    → KeepsTo (record { opens = opened_by; creates = nothing_created }) old new

-- a fault has its cause: the count of its role and of the role's name rose
abbrev pub FaultRose : Names → HostState → HostState → Fault → Type 0
FaultRose names old new (Read Schedule) = Rose old new Schedule names.schedule
FaultRose names old new (Read other) = ⊥
FaultRose names old new (Write role) = IsSomeAnd (all_files names role)
    (λ name. Rose old new role name)
