-- What programs and their texts say of each other.
use Rattle.std.specs.Prelude.{◌≡◌, ℕ, ◌+◌, ◌*◌, ◌^◌, ◌<◌, ◌%◌, ◌≤◌, ◌==◌, ◌&&◌, true, IsTrue, List, Some, None, length}
use Rattle.conda_host.specs.State.{HostState}
use Rattle.command_run.specs.Driving.{bytes_of_file}
use Rattle.command_words.specs.Words.{ProgramFiles}
use Rattle.elf_loader.specs.Image.{ImageView}
use Rattle.elf_loader.specs.Plain.{plain}
use Rattle.elf_loader.specs.Refusal.{refusal}
use Rattle.rv32_asm.specs.Assembled.{Assembled}
use Rattle.rv32_asm.specs.Programs.{most_words}
use Rattle.rv32_hart.specs.Code.{is_fetched}
use Rattle.command_answers.specs.declared.status.Status.{Status}
use Rattle.command_answers.specs.declared.status.Status.TheVariants as status
use Rattle.assembly_commands.specs.Disassembling.{dis_text, program_image, words_of_image}

-- ---- from a text to an image

-- a memory of `size` bytes from `base` on has the addresses of so many words
pub record HasAddresses (base size at words : ℕ) : Type 0 where
  pub from : base ≤ at
  pub to : at + 4 * words ≤ base + size
  pub ends : base + size ≤ 2 ^ 32
  pub fits : size < 2 ^ 32

-- no rule of loading refuses the program's image where memory has its addresses
abbrev pub IsNeverRefused : ℕ → List ℕ → Type 0
IsNeverRefused at words = (base size : ℕ) → HasAddresses base size at (length words)
    → refusal (plain at words) base size ≡ None

-- the image that was made is that of the program that the text says, and can be loaded
pub record HasLoadableImage (files : ProgramFiles) (old new : HostState) : Type 0 where
  pub at : ℕ
  pub words : List ℕ
  pub said : Assembled (bytes_of_file old files.source) at words
  pub image : new.file files.program ≡ Some (plain at words)
  pub loadable : IsNeverRefused at words

abbrev pub HasLoadableImageAtDone : ProgramFiles → HostState → HostState → Status → Type 0
HasLoadableImageAtDone files old new answer =
    IsTrue old.tells → answer ≡ status.Done → HasLoadableImage files old new

-- ---- from an image to a text

-- a range of an image has the word at its entry, and not too many from there on
pub record HasWords (image : ImageView) : Type 0 where
  pub entry : (image.entry % 4 == 0 && is_fetched image.code.ranges image.entry) ≡ true
  pub few : length (words_of_image image) ≤ most_words

-- the text of an image says its entry and those words
abbrev pub ComesBack : ImageView → Type 0
ComesBack image = Assembled (dis_text image) image.entry (words_of_image image)

-- a text is that of an image, and says its entry and words again
pub record IsTextThatComesBack (image : ImageView) (text : List ℕ) : Type 0 where
  pub text_is : text ≡ dis_text image
  pub back : ComesBack image

-- the text that was made is that of the program's image, and says its entry and words again
pub record HasTextThatComesBack (files : ProgramFiles) (old new : HostState) : Type 0 where
  pub text : new.file files.source ≡ Some (dis_text (program_image (bytes_of_file old files.program)))
  pub back : ComesBack (program_image (bytes_of_file old files.program))

abbrev pub HasTextThatComesBackAtDone : ProgramFiles → HostState → HostState → Status → Type 0
HasTextThatComesBackAtDone files old new answer =
    IsTrue old.tells → answer ≡ status.Done → HasTextThatComesBack files old new
