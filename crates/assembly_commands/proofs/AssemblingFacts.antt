-- What a text says, read line by line, and what `asm` makes of it.
use Rattle.std.proofs.Common.{◌≡◌, ℕ, List, [], ◌∷◌, map, refl, sym, ◌∙◌, ap, subst, inl, inr, Ok, Err}
use Rattle.std.specs.Prelude.{Option, Some, None}
use Rattle.conda_host.specs.declared.outside.Role.TheVariants as role
use Rattle.conda_host.specs.State.{HostState, IsReading}
use Rattle.command_run.specs.Driving.{bytes_of_file}
use Rattle.command_words.specs.Words.{ProgramFiles}
use Rattle.elf_loader.specs.Plain.{plain}
use Rattle.elf_loader.proofs.PlainFacts.{refusal-plain}
use Rattle.rv32_asm.specs.declared.place.BadLine.{BadLine}
use Rattle.rv32_asm.specs.Assembled.{Assembled, IsBad, IsSource, Source, address_of, first_bad, words_of}
use Rattle.rv32_asm.specs.Pieces.{text_lines}
use Rattle.rv32_asm.specs.Programs.{IsProgram}
use Rattle.rv32_asm.specs.Reading.{line_in}
use Rattle.rv32_asm.specs.Sources.{source_in}
use Rattle.rv32_asm.proofs.AssembleLemmas.{source_says}
use Rattle.rv32_asm.proofs.GrammarLemmas.{says_once}
use Rattle.rv32_asm.proofs.ProgramLemmas.{assembled_is}
use Rattle.command_answers.specs.declared.status.Status.{Status}
use Rattle.command_answers.specs.declared.status.Status.TheVariants as status
use Rattle.command_answers.specs.Answers.{Answers}
use Rattle.assembly_commands.specs.Assembling.{IsAsmEnd, IsAssembledImage, SaysImage, image_or_bad, image_read, source_limit}
use Rattle.command_answers.specs.LastFile.{IsFileEnd, file_command, text_outcome}
use Rattle.assembly_commands.specs.Making.{IsMadeText, IsMakeError}
use Rattle.assembly_commands.specs.TextLaws.{HasLoadableImageAtDone, IsNeverRefused}
use Rattle.command_answers.proofs.AnswerFacts.{told_after}
use Rattle.command_answers.proofs.LastFileFacts.{holds_text}

-- lines say one source
one_source : (lines : List (List ℕ)) (source : Source) → IsSource lines source → map line_in lines ≡ source
one_source [] [] h = refl
one_source [] (said ∷ source) h = absurd h
one_source (line ∷ lines) [] h = absurd h
one_source (line ∷ lines) (said ∷ source) h = rw (says_once line said h.0) (ap (λ s. said ∷ s) (one_source lines source h.1))

read_source : (text : List ℕ) (source : Source) → IsSource (text_lines text) source → source_in text ≡ source
unfolding source_in
read_source text source h = one_source (text_lines text) source h

pub read_assembled : (text : List ℕ) (at : ℕ) (words : List ℕ) → Assembled text at words → image_read text ≡ Ok (plain at words)
read_assembled text at words h =
    ap (λ s. image_or_bad s (first_bad s)) (read_source text h.source h.says) ∙ ap (image_or_bad h.source) h.good
    ∙ ap (λ a. Ok (plain a (words_of h.source))) h.at_is ∙ ap (λ w. Ok (plain at w)) h.words_are

pub read_bad : (text : List ℕ) (line why : ℕ) → IsBad text (record { line = line; why = why }) → image_read text ≡ Err (status.Syntax line why)
read_bad text line why h =
    ap (λ s. image_or_bad s (first_bad s)) (read_source text h.source h.says) ∙ ap (image_or_bad h.source) h.first

-- what is read is what the text says
pub says_read : (text : List ℕ) → SaysImage text (image_read text)
says_read text = go (first_bad (source_in text)) refl
  where
    go : (o : Option BadLine) → first_bad (source_in text) ≡ o → SaysImage text (image_or_bad (source_in text) o)
    go None e = record {
      at = address_of (source_in text);
      words = words_of (source_in text);
      assembled = record { source = source_in text; says = source_says text; good = e; at_is = refl; words_are = refl };
      image_is = refl;
    }
    go (Some bad) e = record { source = source_in text; says = source_says text; first = e }

-- ---- what is assembled can be loaded

loadable : (text : List ℕ) (at : ℕ) (words : List ℕ) → Assembled text at words → IsNeverRefused at words
loadable text at words said base size has =
    let program : IsProgram at words = assembled_is text at words said in
    refusal-plain at base size words (record { some = program.some; aligned = program.aligned; from = has.from; to = has.to }) has.ends has.fits

pub loadable_made : (files : ProgramFiles) (a b c : HostState) (image : List ℕ) (answer : Status) → IsMadeText image_read a files.source source_limit image → IsReading a b role.Source
    → Answers (file_command role.Program files.program) (text_outcome image) b c answer → HasLoadableImageAtDone files a c answer
loadable_made files a b c image answer made read answers told done =
    let text : List ℕ = bytes_of_file a files.source in
    let said : image_read text ≡ Ok image = ap image_read (made.held.bytes_are told) ∙ made.text_is in
    let is : IsAssembledImage text image = subst (SaysImage text) said (says_read text) in
    record {
      at = is.at;
      words = is.words;
      said = is.assembled;
      image = holds_text role.Program files.program image b c answer answers (told_after read.later told) done ∙ ap Some is.image_is;
      loadable = loadable text is.at is.words is.assembled;
    }

-- a refusal isn't Done
pub loadable_unmade : (files : ProgramFiles) (a b : HostState) (answer : Status) → IsMakeError image_read a b role.Source files.source source_limit answer → HasLoadableImageAtDone files a b answer
loadable_unmade files a b answer h told done = absurd (late (subst (IsMakeError image_read a b role.Source files.source source_limit) done h))
  where
    late : IsMakeError image_read a b role.Source files.source source_limit status.Done → ⊥
    late e = e

pub asm_ends : (answer : Status) → IsFileEnd role.Program answer → IsAsmEnd answer
asm_ends answer (inl e) = subst IsAsmEnd (sym e) tt
asm_ends answer (inr e) = subst IsAsmEnd (sym e) tt
