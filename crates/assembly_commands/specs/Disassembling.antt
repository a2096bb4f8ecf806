-- What `dis` writes of a program, and its row.
use Rattle.std.specs.Prelude.{◌≡◌, ℕ, ◌+◌, ◌-◌, List, [], ◌∷◌, ◌++◌, take, drop, Option, Some, None, Result, Ok, Err, if◌then◌else◌}
use Rattle.conda_base.specs.Bytes.{number_of}
use Rattle.conda_host.specs.declared.outside.Role.TheVariants as role
use Rattle.chip_config.specs.Settings.{plain_settings}
use Rattle.command_words.specs.Words.{ProgramFiles}
use Rattle.elf_loader.specs.declared.fault.ImageFault.{ImageFault}
use Rattle.elf_loader.specs.Image.{ImageView, image_of}
use Rattle.rv32_dis.specs.Texts.{program_text, word_line}
use Rattle.rv32_hart.specs.Code.{CodeView, has_word}
use Rattle.command_answers.specs.declared.status.Status.{Status}
use Rattle.command_answers.specs.declared.status.Status.TheVariants as status
use Rattle.command_answers.specs.Answers.{Command, Outcome}
use Rattle.assembly_commands.specs.Making.{making_command, making_outcome}
use Rattle.command_answers.specs.Verdict.{image_limit, refusal_of}

-- the first of these ranges that has the word at an address, and an empty one where none has it
abbrev pub range_at : List (ℕ × ℕ) → ℕ → ℕ × ℕ
range_at [] pc = (pc, 0)
range_at (range ∷ ranges) pc = if has_word pc range then range else range_at ranges pc

-- the bytes from an address to the end of its range
abbrev pub bytes_behind : CodeView → ℕ → List ℕ
bytes_behind code pc =
    let range = range_at code.ranges pc in
    take (range.0 + range.1 - pc) (drop (pc - code.base) code.bytes)

-- the words of bytes, the lowest byte first; one to three bytes at the end are left out
abbrev pub words_in : List ℕ → List ℕ
words_in (a ∷ b ∷ c ∷ d ∷ bytes) = number_of (a ∷ b ∷ c ∷ d ∷ []) ∷ words_in bytes
words_in other = []

-- the words of an image from its entry to the end of the entry's range
abbrev pub words_of_image : ImageView → List ℕ
words_of_image image = words_in (bytes_behind image.code image.entry)

-- a word's line, with its line feed
abbrev pub line_of_word : ℕ → List ℕ
line_of_word word = word_line word ++ 10 ∷ []

-- the text of an image
abbrev pub dis_text : ImageView → List ℕ
dis_text image = program_text image.entry (words_of_image image)

-- the image of a program, in the memory of a chip on which no key is set
abbrev pub program_image : List ℕ → ImageView
program_image bytes = image_of bytes plain_settings.mem_base plain_settings.mem_bytes

abbrev pub text_or_refusal : Option ImageFault → ImageView → Result (List ℕ) Status
text_or_refusal None image = Ok (dis_text image)
text_or_refusal (Some fault) image = Err (status.Image fault)

-- the text that a program's bytes say
abbrev pub text_said : List ℕ → Result (List ℕ) Status
text_said bytes = text_or_refusal (refusal_of plain_settings bytes) (program_image bytes)

abbrev pub dis_command : ProgramFiles → Command
dis_command files = making_command role.Program files.program role.Source files.source

-- what a program's bytes lead to
abbrev pub dis_outcome : List ℕ → Outcome
dis_outcome bytes = making_outcome role.Program image_limit (text_said bytes) bytes

-- an answer of it: it is done, its program wasn't read or is refused, its text failed, or memory
-- ran out
abbrev pub IsDisEnd : Status → Type 0
IsDisEnd status.Done = Unit {0}
IsDisEnd (status.ReadFault role.Program) = Unit {0}
IsDisEnd (status.TooLarge role.Program limit) = limit ≡ image_limit
IsDisEnd (status.Image fault) = Unit {0}
IsDisEnd (status.WriteFault role.Source) = Unit {0}
IsDisEnd status.OutOfMemory = Unit {0}
IsDisEnd other = ⊥
