-- A text is cut into its lines.
use Rattle.std.proofs.Common.{◌≡◌, ℕ, suc, ◌+◌, ◌-◌, ◌*◌, ◌<◌, ◌≤◌, ◌==◌, Bool, true, false, List, [], ◌∷◌, length, take, drop, get_or, refl, sym, ◌∙◌, ap, arith, add-one, drop-cons}
use Rattle.std.specs.Option.{unwrap_or}
use Rattle.std.specs.Prelude.{Option, Some, None, map, nat_lt, ◌^◌, if◌then◌else◌}
use Rattle.std.proofs.lemmas.Bool.Decides.{nat_tests}
use Rattle.std.proofs.lemmas.List.{take_all, take_rest, drop_all}
use Rattle.rv32_asm.specs.declared.place.Place.{Place}
use Rattle.rv32_asm.specs.Pieces.{text_lines, onto_first}
use Rattle.rv32_asm.specs.Grammar.{LineSaid, Said, At, Word, Does}
use Rattle.rv32_asm.specs.Reading.{line_in}
use Rattle.rv32_asm.specs.Labels.{earlier_place}
use Rattle.rv32_asm.specs.Sources.{line_len, word_in_digits, source_in, address_or}
use Rattle.conda_base.specs.Digits.{number_after}
use Rattle.rv32_asm.specs.Assembled.{Source, label_of, said_of, has_label, place_from, next_place, address_of, address_by, words_by}

pub lines_cut : (text : List ℕ) → 0 < length text → text_lines text ≡ take (line_len text) text ∷ text_lines (drop (line_len text + 1) text)
lines_cut [] some = absurd (omega arith)
lines_cut (b ∷ []) some = go (b == 10) refl
  where
    go : (n : Bool) → (b == 10) ≡ n → text_lines (b ∷ []) ≡ take (if n then 0 else 1) (b ∷ []) ∷ text_lines (drop ((if n then 0 else 1) + 1) (b ∷ []))
    go true is = rw is refl
    go false is = rw is refl
lines_cut (b ∷ c ∷ text) some = go (b == 10) refl (lines_cut (c ∷ text) (omega arith))
  where
    go : (n : Bool) → (b == 10) ≡ n → text_lines (c ∷ text) ≡ take (line_len (c ∷ text)) (c ∷ text) ∷ text_lines (drop (line_len (c ∷ text) + 1) (c ∷ text))
        → text_lines (b ∷ c ∷ text) ≡ take (if n then 0 else line_len (c ∷ text) + 1) (b ∷ c ∷ text) ∷ text_lines (drop ((if n then 0 else line_len (c ∷ text) + 1) + 1) (b ∷ c ∷ text))
    go true is later = rw is refl
    go false is later =
        let step : line_len (c ∷ text) + 1 ≡ suc (line_len (c ∷ text)) = omega arith in
        let more : line_len (c ∷ text) + 1 + 1 ≡ suc (line_len (c ∷ text) + 1) = omega arith in
        rw is (rw more (rw step (ap (onto_first b) (rw step at later))))

pub number_above : (digits : List ℕ) (n : ℕ) → n ≤ number_after n digits
number_above [] n = omega arith
number_above (digit ∷ digits) n = omega (arith, number_above digits (n * 10 + (digit - 48)))

pub number_next : (digits : List ℕ) (i n : ℕ) → i < length digits → number_after n (drop i digits) ≡ number_after (n * 10 + (get_or digits i 0 - 48)) (drop (i + 1) digits)
number_next digits i n h = rw (add-one) (rw (drop-cons digits i 0) refl)

pub word_too_large : (digits : List ℕ) (i n : ℕ) → i < length digits → number_after n (drop i digits) ≡ number_after 0 digits
    → 2 ^ 32 ≤ n * 10 + (get_or digits i 0 - 48) → word_in_digits digits ≡ None
word_too_large digits i n h same large =
    let above = number_above (drop (i + 1) digits) (n * 10 + (get_or digits i 0 - 48)) in
    let next = number_next digits i n h in
    let high : nat_lt (number_after 0 digits) (2 ^ 32) ≡ false = grind (arith, nat_tests) in
    rw high refl

pub word_read : (digits : List ℕ) (i n : ℕ) → length digits ≤ i → number_after n (drop i digits) ≡ number_after 0 digits → n < 2 ^ 32 → word_in_digits digits ≡ Some n
word_read digits i n h same small =
    let value : number_after 0 digits ≡ n = sym same ∙ ap (number_after n) (drop_all i digits h) in
    let low : nat_lt (number_after 0 digits) (2 ^ 32) ≡ true = grind (arith, nat_tests) in
    rw low (ap Some value)

-- a line read is the first of a source
pub source_cut : (text line after : List ℕ) → text_lines text ≡ line ∷ text_lines after → source_in text ≡ line_in line ∷ source_in after
unfolding source_in
source_cut text line after h = ap (map line_in) h

first_step : (o : Option Place) (b : Bool) (p : Place) (later : Option Place) → earlier_place (earlier_place o (if b then Some p else None)) later ≡ earlier_place o (if b then Some p else later)
first_step None true p later = refl
first_step None false p later = refl
first_step (Some o) b p later = refl

pub label_step : (old new : Option Place) (p next : Place) (said : Option LineSaid) (label : Option (List ℕ)) (source later : Source) (q : List ℕ) (all : Option Place)
    → label ≡ label_of said → new ≡ earlier_place old (if has_label q label then Some p else None) → source ≡ said ∷ later → next ≡ next_place p said
    → earlier_place old (place_from p source q) ≡ all → earlier_place new (place_from next later q) ≡ all
label_step old new p next said label source later q all same_label is_new cut same_next before =
    ap (λ n. earlier_place n (place_from next later q)) is_new
    ∙ ap (λ l. earlier_place (earlier_place old (if has_label q l then Some p else None)) (place_from next later q)) same_label
    ∙ ap (λ x. earlier_place (earlier_place old (if has_label q (label_of said) then Some p else None)) (place_from x later q)) same_next
    ∙ first_step old (has_label q (label_of said)) p (place_from (next_place p said) later q)
    ∙ ap (λ s. earlier_place old (place_from p s q)) (sym cut)
    ∙ before

first_end : (o : Option Place) → earlier_place o None ≡ o
first_end None = refl
first_end (Some p) = refl

pub label_end : (old : Option Place) (p : Place) (source : Source) (q : List ℕ) (all : Option Place) → source ≡ [] → earlier_place old (place_from p source q) ≡ all → old ≡ all
label_end old p source q all end before = sym (first_end old) ∙ ap (λ s. earlier_place old (place_from p s q)) (sym end) ∙ before

pub cut_inside : (text : List ℕ) (n : ℕ) → n ≡ line_len text → 0 < length text
    → text_lines text ≡ take n text ∷ text_lines (take (length text - (n + 1)) (drop (n + 1) text))
cut_inside text n same some = rw (take_rest text (n + 1)) (rw same (lines_cut text some))

pub cut_whole : (text : List ℕ) (n : ℕ) → n ≡ line_len text → 0 < length text → length text ≤ n
    → text_lines text ≡ text ∷ text_lines (take (length text - length text) (drop (length text) text))
cut_whole text n same some far =
    let after : drop (line_len text + 1) text ≡ [] = drop_all (line_len text + 1) text (omega arith) in
    let front : take (line_len text) text ≡ text = take_all (line_len text) text (omega arith) in
    rw (take_rest text (length text)) (rw (drop_all (length text) text (omega arith))
    (lines_cut text some ∙ ap (λ l. l ∷ text_lines (drop (line_len text + 1) text)) front ∙ ap (λ l. text ∷ text_lines l) after))

pub source_none : (text : List ℕ) → length text ≡ 0 → source_in text ≡ []
unfolding source_in
source_none [] h = refl
source_none (b ∷ text) h = absurd (omega arith)

pub address_step : (old new : Option ℕ) (statement : Option Said) (said : Option LineSaid) (source later : Source) (all : ℕ)
    → statement ≡ said_of said → address_or new (address_of later) ≡ address_or old (address_by statement (address_of later)) → source ≡ said ∷ later
    → address_or old (address_of source) ≡ all → address_or new (address_of later) ≡ all
address_step old new statement said source later all same is_new cut before =
    is_new ∙ ap (λ s. address_or old (address_by s (address_of later))) same ∙ ap (λ s. address_or old (address_of s)) (sym cut) ∙ before

pub address_end : (old : Option ℕ) (source : Source) (all : ℕ) → source ≡ [] → address_or old (address_of source) ≡ all → address_or old 65536 ≡ all
address_end old source all end before = ap (λ s. address_or old (address_of s)) (sym end) ∙ before

pub or_value : (old : Option ℕ) → unwrap_or old 65536 ≡ address_or old 65536
or_value None = refl
or_value (Some n) = refl

pub words_few : (s : Option Said) → words_by s ≤ 1
words_few None = omega arith
words_few (Some (At number)) = omega arith
words_few (Some (Word digits)) = omega arith
words_few (Some (Does i text)) = omega arith
