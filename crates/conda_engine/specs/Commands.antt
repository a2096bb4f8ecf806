-- The rows of all commands.
use Rattle.std.specs.Prelude.{◌≡◌, ◌⊎◌, List, Option, map, string_bytes}
use Rattle.std.specs.declared.alloc.Global.{Global}
use Rattle.std.specs.declared.string.String.{String}
use Rattle.conda_host.specs.State.{HostState}
use Rattle.chip_laws.specs.Lawful.{AreLawful}
use Rattle.command_run.specs.Driving.{bytes_of_file}
use Rattle.command_words.specs.Words.{Asked, Run, SelfRun, Asm, Dis, asked}
use Rattle.self_workload.specs.Workload.{events_of_seed}
use Rattle.self_run.specs.Designs.{design_of_seed}
use Rattle.command_answers.specs.declared.status.Status.{Status}
use Rattle.command_answers.specs.declared.status.Status.TheVariants as status
use Rattle.command_answers.specs.Answers.{Answers}
use Rattle.assembly_commands.specs.Assembling.{AsmAnswers, IsAsmEnd}
use Rattle.assembly_commands.specs.Disassembling.{IsDisEnd, dis_command, dis_outcome}
use Rattle.conda_engine.specs.Ends.{IsLate}
use Rattle.conda_engine.specs.Machines.{account_in, chip_account, law_in}
use Rattle.conda_engine.specs.Headline.{HasHeadlineAtDone}
use Rattle.command_answers.specs.Preparing.{IsEarly}
use Rattle.conda_engine.specs.Rows.{run_command, run_outcome}
use Rattle.conda_engine.specs.SelfRun.{IsSelfEnd, self_command, self_outcome}
use Rattle.assembly_commands.specs.TextLaws.{HasLoadableImageAtDone, HasTextThatComesBackAtDone}

-- what the words ask for, if they are the words of a command
abbrev pub asked_of : List (String Global) → Option Asked
asked_of words = asked (map string_bytes words)

-- what a command answers and leaves, by what the bytes of its files lead to
abbrev pub AnswersAsked : HostState → HostState → Status → Asked → Type 0
AnswersAsked old new answer (Run mode files) =
    Answers (run_command files) (run_outcome (account_in mode) files old) old new answer
AnswersAsked old new answer (Asm files) = AsmAnswers files old new answer
AnswersAsked old new answer (Dis files) =
    Answers (dis_command files) (dis_outcome (bytes_of_file old files.program)) old new answer
AnswersAsked old new answer (SelfRun seed events report) =
    Answers (self_command report) (self_outcome chip_account seed events) old new answer

-- an answer of a command, whatever its host tells
abbrev pub IsAnswerOf : Status → Asked → Type 0
IsAnswerOf answer (Run mode files) = IsEarly answer ⊎ IsLate answer
IsAnswerOf answer (SelfRun seed events report) = IsSelfEnd answer
IsAnswerOf answer (Asm files) = IsAsmEnd answer
IsAnswerOf answer (Dis files) = IsDisEnd answer

-- what holds at Done besides: a run has the headline, the events of a generated workload are
-- lawful, a program that is assembled can be loaded, and the text of an image is assembled to it
-- again
abbrev pub HoldsAtDone : HostState → HostState → Status → Asked → Type 0
HoldsAtDone old new answer (Run mode files) =
    HasHeadlineAtDone (account_in mode) (law_in mode) files old new answer
HoldsAtDone old new answer (SelfRun seed events report) =
    answer ≡ status.Done → AreLawful (design_of_seed seed) (events_of_seed seed events)
HoldsAtDone old new answer (Asm files) = HasLoadableImageAtDone files old new answer
HoldsAtDone old new answer (Dis files) = HasTextThatComesBackAtDone files old new answer
