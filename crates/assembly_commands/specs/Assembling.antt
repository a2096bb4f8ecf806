-- What `asm` makes of a text, and its row.
use Rattle.std.specs.Prelude.{◌≡◌, ℕ, List, Option, Some, None, Result, Ok, Err}
use Rattle.conda_host.specs.declared.outside.Role.TheVariants as role
use Rattle.conda_host.specs.State.{HostState}
use Rattle.command_run.specs.Driving.{bytes_of_file}
use Rattle.command_words.specs.Words.{ProgramFiles}
use Rattle.elf_loader.specs.Plain.{plain}
use Rattle.rv32_asm.specs.declared.place.BadLine.{BadLine}
use Rattle.rv32_asm.specs.Assembled.{Assembled, IsBad, Source, address_of, first_bad, words_of}
use Rattle.rv32_asm.specs.Sources.{source_in}
use Rattle.command_answers.specs.declared.limits.TheConstants.{SOURCE_LIMIT}
use Rattle.command_answers.specs.declared.status.Status.{Status}
use Rattle.command_answers.specs.declared.status.Status.TheVariants as status
use Rattle.command_answers.specs.Answers.{Answers, Command, Outcome}
use Rattle.assembly_commands.specs.Making.{making_command, making_outcome}

-- the most bytes of a program's text
abbrev pub source_limit : ℕ
source_limit = SOURCE_LIMIT

-- this is the plain image of the program that a text says
pub record IsAssembledImage (text image : List ℕ) : Type 0 where
  pub at : ℕ
  pub words : List ℕ
  pub assembled : Assembled text at words
  pub image_is : image ≡ plain at words

-- a text says an image, or has this first bad line
abbrev pub SaysImage : List ℕ → Result (List ℕ) Status → Type 0
SaysImage text (Ok image) = IsAssembledImage text image
SaysImage text (Err (status.Syntax line why)) = IsBad text (record { line = line; why = why })
SaysImage text (Err other) = ⊥

abbrev pub asm_command : ProgramFiles → Command
asm_command files = making_command role.Source files.source role.Program files.program

-- what a text's bytes lead to, where they say this
abbrev pub asm_outcome : Result (List ℕ) Status → List ℕ → Outcome
asm_outcome said text = making_outcome role.Source source_limit said text

-- what `asm` answers and leaves, by what the text says
pub record AsmAnswers (files : ProgramFiles) (old new : HostState) (answer : Status)
    : Type 0 where
  pub said : Result (List ℕ) Status
  pub says : SaysImage (bytes_of_file old files.source) said
  pub answers : Answers (asm_command files) (asm_outcome said (bytes_of_file old files.source)) old new
      answer

-- an answer of it: it is done, its text wasn't read or has a bad line, its image failed, or memory
-- ran out
abbrev pub IsAsmEnd : Status → Type 0
IsAsmEnd status.Done = Unit {0}
IsAsmEnd (status.ReadFault role.Source) = Unit {0}
IsAsmEnd (status.TooLarge role.Source limit) = limit ≡ source_limit
IsAsmEnd (status.Syntax line why) = Unit {0}
IsAsmEnd (status.WriteFault role.Program) = Unit {0}
IsAsmEnd status.OutOfMemory = Unit {0}
IsAsmEnd other = ⊥

-- ---- the same, read line by line

abbrev pub image_or_bad : Source → Option BadLine → Result (List ℕ) Status
image_or_bad source None = Ok (plain (address_of source) (words_of source))
image_or_bad source (Some bad) = Err (status.Syntax bad.line bad.why)

abbrev pub image_read : List ℕ → Result (List ℕ) Status
image_read text = image_or_bad (source_in text) (first_bad (source_in text))
