-- The words of bytes, and what `dis` makes of a program.
use Rattle.std.proofs.Common.{◌≡◌, ◌≤◌, ◌<◌, ℕ, IsTrue, List, ◌∷◌, sym, ◌∙◌, ap, subst, inl, inr}
use Rattle.std.specs.Prelude.{Some}
use Rattle.conda_host.specs.declared.outside.Role.TheVariants as role
use Rattle.conda_host.specs.State.{HostState, IsReading}
use Rattle.command_run.specs.Driving.{bytes_of_file}
use Rattle.command_words.specs.Words.{ProgramFiles}
use Rattle.command_answers.specs.declared.status.Status.{Status}
use Rattle.command_answers.specs.declared.status.Status.TheVariants as status
use Rattle.command_answers.specs.Answers.{Answers}
use Rattle.assembly_commands.specs.Disassembling.{IsDisEnd, program_image, text_said}
use Rattle.command_answers.specs.LastFile.{IsFileEnd, file_command, text_outcome}
use Rattle.assembly_commands.specs.Making.{IsMakeError}
use Rattle.assembly_commands.specs.TextLaws.{HasTextThatComesBackAtDone, IsTextThatComesBack}
use Rattle.command_answers.specs.Verdict.{image_limit}
use Rattle.command_answers.proofs.AnswerFacts.{told_after}
use Rattle.command_answers.proofs.LastFileFacts.{holds_text}

-- ---- the text that is made says the program again

pub text_made : (files : ProgramFiles) (a b c : HostState) (text : List ℕ) (answer : Status) → (IsTrue a.tells → IsTextThatComesBack (program_image (bytes_of_file a files.program)) text) → IsReading a b role.Program
    → Answers (file_command role.Source files.source) (text_outcome text) b c answer → HasTextThatComesBackAtDone files a c answer
text_made files a b c text answer back read answers told done =
    let is : IsTextThatComesBack (program_image (bytes_of_file a files.program)) text = back told in
    record {
      text = holds_text role.Source files.source text b c answer answers (told_after read.later told) done ∙ ap Some is.text_is;
      back = is.back;
    }

-- a refusal isn't Done
pub text_unmade : (files : ProgramFiles) (a b : HostState) (answer : Status) → IsMakeError text_said a b role.Program files.program image_limit answer → HasTextThatComesBackAtDone files a b answer
text_unmade files a b answer h told done = absurd (late (subst (IsMakeError text_said a b role.Program files.program image_limit) done h))
  where
    late : IsMakeError text_said a b role.Program files.program image_limit status.Done → ⊥
    late e = e

pub dis_ends : (answer : Status) → IsFileEnd role.Source answer → IsDisEnd answer
dis_ends answer (inl e) = subst IsDisEnd (sym e) tt
dis_ends answer (inr e) = subst IsDisEnd (sym e) tt
