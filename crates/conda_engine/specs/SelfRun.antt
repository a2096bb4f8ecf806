-- The row of the command that runs a generated workload and writes its report.
use Rattle.std.specs.Prelude.{ℕ, true, List, None}
use Rattle.conda_host.specs.declared.outside.Role.TheVariants as role
use Rattle.self_run.specs.Designs.{design_of_seed}
use Rattle.self_workload.specs.Workload.{events_of_seed}
use Rattle.command_answers.specs.declared.status.Status.{Status}
use Rattle.command_answers.specs.declared.status.Status.TheVariants as status
use Rattle.command_answers.specs.Answers.{Command, Outcome}
use Rattle.command_answers.specs.LastFile.{created_last, opens_nothing, text_outcome}
use Rattle.command_answers.specs.Verdict.{Account}

-- it opens nothing, and creates its report alone, after all memory was taken
abbrev pub self_command : List ℕ → Command
self_command report = record {
  opens = opens_nothing;
  creates = created_last role.Report report;
  opens_first = None;
  takes_memory = true;
}

-- its report is that of the first events of the seed
abbrev pub self_outcome : Account → ℕ → ℕ → Outcome
self_outcome a seed count = text_outcome (a.report (design_of_seed seed) (events_of_seed seed count))

-- an answer of it: it is done, or its report failed, or memory ran out
abbrev pub IsSelfEnd : Status → Type 0
IsSelfEnd status.Done = Unit {0}
IsSelfEnd (status.WriteFault role.Report) = Unit {0}
IsSelfEnd status.OutOfMemory = Unit {0}
IsSelfEnd other = ⊥
