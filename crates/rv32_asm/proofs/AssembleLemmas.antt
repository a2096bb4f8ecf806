-- The second pass goes through a source line by line.
use Rattle.std.proofs.Common.{◌≡◌, ℕ, ◌<◌, ◌==◌, Bool, true, false, List, [], ◌∷◌, ◌++◌, refl, sym, ◌∙◌, ap, arith, append_assoc}
use Rattle.std.proofs.lemmas.List.{append-nil}
use Rattle.std.specs.Prelude.{Option, Some, None, if◌then◌else◌}
use Rattle.std.proofs.lemmas.Bool.Decides.{nat_tests}
use Rattle.rv32_asm.specs.declared.place.Place.{Place}
use Rattle.rv32_asm.specs.declared.place.BadLine.{BadLine}
use Rattle.rv32_asm.specs.Pieces.{text_lines}
use Rattle.rv32_asm.specs.Grammar.{LineSaid, Said}
use Rattle.rv32_asm.specs.Assembled.{Source, IsSource, said_of, next_place, why_of, is_formless, is_out_of_range, bad_or, bad_from, line_words, words_from}
use Rattle.rv32_asm.specs.Sources.{source_in}
use Rattle.rv32_asm.proofs.GrammarLemmas.{lines_say}

pub source_says : (text : List ℕ) → IsSource (text_lines text) (source_in text)
unfolding source_in
source_says text = lines_say (text_lines text)

pub bad_step : (all : Source) (p next : Place) (said : Option LineSaid) (source later : Source) (whole : Option BadLine)
    → source ≡ said ∷ later → why_of all p said ≡ None → next ≡ next_place p said → bad_from all p source ≡ whole → bad_from all next later ≡ whole
bad_step all p next said source later whole cut fine same before =
    ap (λ q. bad_from all q later) same
    ∙ ap (λ w. bad_or p w (bad_from all (next_place p said) later)) (sym fine)
    ∙ ap (bad_from all p) (sym cut) ∙ before

pub bad_found : (all : Source) (p : Place) (said : Option LineSaid) (source later : Source) (whole : Option BadLine) (why : ℕ)
    → source ≡ said ∷ later → why_of all p said ≡ Some why → bad_from all p source ≡ whole → whole ≡ Some (record { line = p.line; why = why })
bad_found all p said source later whole why cut found before =
    sym before ∙ ap (bad_from all p) cut ∙ ap (λ w. bad_or p w (bad_from all (next_place p said) later)) found

pub bad_end : (all : Source) (p : Place) (source : Source) (whole : Option BadLine) → source ≡ [] → p.words ≡ 0 → bad_from all p source ≡ whole
    → whole ≡ Some (record { line = p.line; why = 6 })
bad_end all p source whole end none before =
    let is : (p.words == 0) ≡ true = grind (arith, nat_tests) in
    sym before ∙ ap (bad_from all p) end ∙ rw is refl

pub good_end : (all : Source) (p : Place) (source : Source) (whole : Option BadLine) → source ≡ [] → 0 < p.words → bad_from all p source ≡ whole → whole ≡ None
good_end all p source whole end some before =
    let is : (p.words == 0) ≡ false = grind (arith, nat_tests) in
    sym before ∙ ap (bad_from all p) end ∙ rw is refl

pub in_range_of_good : (all : Source) (p : Place) (said : Option LineSaid) → why_of all p said ≡ None → is_out_of_range all p (said_of said) ≡ false
in_range_of_good all p said h = go (is_formless said) (is_out_of_range all p (said_of said)) _ h
  where
    go : (formless out : Bool) (rest : Option ℕ) → (if formless then Some 1 else (if out then Some 2 else rest)) ≡ None → out ≡ false
    go true out rest h = absurd (cc)
    go false true rest h = absurd (cc)
    go false false rest h = refl

pub words_step : (all : Source) (p next : Place) (said : Option LineSaid) (statement : Option Said) (source later : Source) (front new word whole : List ℕ)
    → source ≡ said ∷ later → statement ≡ said_of said → word ≡ line_words all p statement → next ≡ next_place p said → new ≡ front ++ word
    → front ++ words_from all p source ≡ whole → new ++ words_from all next later ≡ whole
words_step all p next said statement source later front new word whole cut same is_word is_next is_new before =
    ap (λ n. n ++ words_from all next later) is_new
    ∙ append_assoc front word (words_from all next later)
    ∙ ap (λ q. front ++ (word ++ words_from all q later)) is_next
    ∙ ap (λ w. front ++ (w ++ words_from all (next_place p said) later)) (is_word ∙ ap (line_words all p) same)
    ∙ ap (λ s. front ++ words_from all p s) (sym cut)
    ∙ before

pub words_end : (all : Source) (p : Place) (source : Source) (front whole : List ℕ) → source ≡ [] → front ++ words_from all p source ≡ whole → whole ≡ front
words_end all p source front whole end before = sym before ∙ ap (λ s. front ++ words_from all p s) end ∙ append-nil front
