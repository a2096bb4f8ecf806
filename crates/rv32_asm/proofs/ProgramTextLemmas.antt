-- The disassembled text of a program is assembled to the program again.
use Rattle.std.proofs.Common.{◌≡◌, ℕ, suc, get_or, ◌+◌, ◌-◌, ◌*◌, ◌%◌, ◌^◌, ◌<◌, ◌≤◌, ◌==◌, ◌&&◌, Bool, true, false, List, [], ◌∷◌, ◌++◌, length, refl, sym, ◌∙◌, ap, subst, arith, append_assoc}
use Rattle.std.proofs.lemmas.Bool.{eqb-true}
use Rattle.std.proofs.lemmas.Bool.Decides.{nat_tests}
use Rattle.std.specs.Prelude.{Option, Some, None, IfSome, not, map, nat_le, nat_lt, codes, if◌then◌else◌}
use Rattle.std.specs.List.{list_all, flat_map}
use Rattle.std.specs.Fmt.{decimal}
use Rattle.conda_base.specs.Digits.{is_digit, hex_word}
use Rattle.rv32_decode.specs.declared.instr.Instr.{Instr}
use Rattle.rv32_decode.specs.declared.instr.Instr.TheVariants.{Lui, Auipc, Jal, Jalr, Branch, Load, Store, Imm, Reg, Amo, Fence, Ecall, Ebreak}
use Rattle.rv32_decode.specs.Decoding.{decoded}
use Rattle.rv32_decode.specs.Encoding.{encoded}
use Rattle.rv32_decode.specs.Ranges.{FieldsFit}
use Rattle.rv32_decode.proofs.GivenBack.{decoded-fields}
use Rattle.rv32_dis.specs.Texts.{signed_text, immediate_text, instr_text, raw_text, word_text_by, word_line, program_text}
use Rattle.rv32_asm.specs.declared.place.Place.{Place}
use Rattle.rv32_asm.specs.Pieces.{pieces, text_lines, onto_first}
use Rattle.rv32_asm.specs.Grammar.{is_name, is_name_byte, with_imm, Said, At, Word, LineSaid, Spells}
use Rattle.rv32_asm.specs.Assembled.{Source, IsSource, Assembled, words_by, first_place, next_place, is_address, address_of, written_number, amount, misses, is_out_of_range, uses_unknown, has_bad_address, why_of, bad_or, bad_from, instr_word, line_words, words_from}
use Rattle.rv32_asm.specs.Programs.{most_words, IsProgram}
use Rattle.rv32_asm.proofs.RegisterLemmas.{and_true}
use Rattle.rv32_asm.proofs.NumberLemmas.{decimal_digits, decimal_value, decimal_numeral}
use Rattle.rv32_asm.proofs.TextLemmas.{is_plain, word_then}
use Rattle.rv32_asm.proofs.InstrTextLemmas.{IsPlainText, plain_append, word_plain, plain_ascii, plain_kept, plain_is, instr_text_plain, instr_text_spells, said_by_text, instr_number_back, decimal_word, imm_word}
use Rattle.rv32_asm.proofs.RawLemmas.{word_alone, hex_back, raw_plain, raw_spells}

-- a line that has no label
abbrev bare : Said → Option LineSaid
bare said = Some (record { label = None; statement = Some said })

-- what the line of a word says
abbrev word_said_by : ℕ → Option Instr → Said
word_said_by w None = Word (hex_word w)
word_said_by w (Some i) = if encoded i == w then said_by_text i else Word (hex_word w)

abbrev word_said : ℕ → Said
word_said w = word_said_by w (decoded w)

-- an immediate is no name
and_false : (a b c : Bool) → (a && b && false && c) ≡ false
and_false true true c = refl
and_false true false c = refl
and_false false b c = refl

and_last : (a : Bool) → (a && false) ≡ false
and_last true = refl
and_last false = refl

digits_no_name : (text : List ℕ) → list_all is_digit text ≡ true → is_name text ≡ false
digits_no_name [] h = refl
digits_no_name (b ∷ text) h =
    let first = (and_true (is_digit b) (list_all is_digit text) h).0 in
    ap (λ d. nat_le 1 (length (b ∷ text)) && nat_le (length (b ∷ text)) 32 && list_all is_name_byte (b ∷ text) && not d) first
    ∙ and_last (nat_le 1 (length (b ∷ text)) && nat_le (length (b ∷ text)) 32 && list_all is_name_byte (b ∷ text))

decimal_no_name : (n : ℕ) → n < 2 ^ 64 → is_name (decimal n) ≡ false
decimal_no_name n h = digits_no_name (decimal n) (decimal_digits n h)

minus_no_name : (text : List ℕ) → is_name (45 ∷ text) ≡ false
minus_no_name text = and_false (nat_le 1 (length (45 ∷ text))) (nat_le (length (45 ∷ text)) 32) (not (is_digit 45))

signed_no_name : (word : ℕ) → word < 2 ^ 64 → is_name (signed_text word) ≡ false
signed_no_name word h = go (nat_lt word (2 ^ 31))
  where
    go : (b : Bool) → is_name (if b then decimal word else codes "-" ++ decimal (2 ^ 32 - word)) ≡ false
    go true = decimal_no_name word h
    go false = minus_no_name (decimal (2 ^ 32 - word))

imm_small : (i : Instr) → FieldsFit i → is_name (immediate_text i) ≡ false
imm_small (Lui rd imm) fits = let w = fits.1.word in decimal_no_name _ (omega arith)
imm_small (Auipc rd imm) fits = let w = fits.1.word in decimal_no_name _ (omega arith)
imm_small (Jal rd imm) fits = let w = fits.1.signed.word in signed_no_name imm (omega arith)
imm_small (Jalr rd rs1 imm) fits = let w = fits.2.word in signed_no_name imm (omega arith)
imm_small (Branch op rs1 rs2 imm) fits = let w = fits.2.signed.word in signed_no_name imm (omega arith)
imm_small (Load op rd rs1 imm) fits = let w = fits.2.word in signed_no_name imm (omega arith)
imm_small (Store op rs1 rs2 imm) fits = let w = fits.2.word in signed_no_name imm (omega arith)
imm_small (Imm op rd rs1 imm) fits = let w = imm_word op imm fits.2 in signed_no_name imm (omega arith)
imm_small (Reg op rd rs1 rs2) fits = refl
imm_small (Amo op aq rl rd rs1 rs2) fits = refl
imm_small Fence fits = refl
imm_small Ecall fits = refl
imm_small Ebreak fits = refl

-- a line that is good wherever it stands, and makes this word
record IsGoodLine (all : Source) (p : Place) (w : ℕ) (said : Said) : Type 0 where
  in_range : is_out_of_range all p (Some said) ≡ false
  known : uses_unknown all p (Some said) ≡ false
  no_address : has_bad_address p (Some said) ≡ false
  one : words_by (Some said) ≡ 1
  word : line_words all p (Some said) ≡ w ∷ []

raw_good : (all : Source) (p : Place) (w : ℕ) → w < 2 ^ 32 → IsGoodLine all p w (Word (hex_word w))
raw_good all p w h =
    record { in_range = refl; known = refl; no_address = refl; one = refl; word = ap (λ q. q ∷ []) (hex_back w h) }

instr_good : (all : Source) (p : Place) (w : ℕ) (i : Instr) → FieldsFit i → encoded i ≡ w → IsGoodLine all p w (said_by_text i)
instr_good all p w i fits same =
    let number : amount all p (immediate_text i) ≡ Some (written_number (immediate_text i)) = rw (imm_small i fits) refl in
    let back = instr_number_back i fits in
    record {
      in_range = ap (misses (with_imm i 0)) number ∙ ap not back.in_range;
      known = rw number refl;
      no_address = refl;
      one = refl;
      word = ap (instr_word (with_imm i 0)) number ∙ ap (λ j. encoded j ∷ []) back.back ∙ ap (λ q. q ∷ []) same;
    }

-- each word's line: its text, and what it says
record IsWordLine (all : Source) (p : Place) (w : ℕ) (text : List ℕ) (said : Said) : Type 0 where
  plain : IsPlainText text
  spells : Spells text (record { label = None; statement = Some said })
  good : IsGoodLine all p w said

word_is : (all : Source) (p : Place) (w : ℕ) → w < 2 ^ 32 → IsWordLine all p w (word_line w) (word_said w)
word_is all p w h = go (decoded w) (decoded-fields w h)
  where
    raw : IsWordLine all p w (raw_text w) (Word (hex_word w))
    raw = record { plain = raw_plain w; spells = raw_spells w; good = raw_good all p w h }

    either : (i : Instr) → FieldsFit i → (b : Bool) → (encoded i == w) ≡ b
        → IsWordLine all p w (if b then instr_text i else raw_text w) (if b then said_by_text i else Word (hex_word w))
    either i fits true is =
        record { plain = instr_text_plain i fits; spells = instr_text_spells i fits; good = instr_good all p w i fits (eqb-true (encoded i) w is) }
    either i fits false is = raw

    go : (o : Option Instr) → IfSome o FieldsFit → IsWordLine all p w (word_text_by w o) (word_said_by w o)
    go None fits = raw
    go (Some i) fits = either i fits (encoded i == w) refl

-- words of 32 bits
abbrev pub AreSmall : List ℕ → Type 0
AreSmall [] = Unit {0}
AreSmall (w ∷ words) = (w < 2 ^ 32) × AreSmall words

pub small_from : (words : List ℕ) → ((i : ℕ) → get_or words i 0 < 2 ^ 32) → AreSmall words
small_from [] h = tt
small_from (w ∷ words) h = (h 0, small_from words (λ i. h (suc i)))

-- the lines of a text
line_then : (line text : List ℕ) → IsPlainText line → text_lines (line ++ 10 ∷ text) ≡ line ∷ text_lines text
line_then [] text h = refl
line_then (b ∷ line) text h =
    let both = and_true (is_plain b) (list_all is_plain line) h in
    rw ((plain_is b both.0).same_line) (ap (onto_first b) (line_then line text both.1))

body_lines : (words : List ℕ) → AreSmall words → text_lines (flat_map (λ w. word_line w ++ 10 ∷ []) words) ≡ map word_line words
body_lines [] h = refl
body_lines (w ∷ words) h =
    ap text_lines (append_assoc (word_line w) (10 ∷ []) (flat_map (λ v. word_line v ++ 10 ∷ []) words))
    ∙ line_then (word_line w) (flat_map (λ v. word_line v ++ 10 ∷ []) words) ((word_is [] first_place w h.0).plain)
    ∙ ap (λ q. word_line w ∷ q) (body_lines words h.1)

abbrev at_text : ℕ → List ℕ
at_text at = codes ".at " ++ decimal at

at_plain : (at : ℕ) → at < 2 ^ 64 → IsPlainText (at_text at)
at_plain at h = plain_append (codes ".at ") (decimal at) refl (word_plain (decimal at) (decimal_word at h))

at_spells : (at : ℕ) → at < 2 ^ 64 → Spells (at_text at) (record { label = None; statement = Some (At (decimal at)) })
at_spells at h = record {
  ascii = plain_ascii (at_text at) (at_plain at h);
  label = tt;
  statement = decimal_numeral at h;
  text = ap pieces (plain_kept (at_text at) (at_plain at h))
      ∙ word_then (codes ".at") (32 ∷ decimal at) refl refl
      ∙ ap (λ q. codes ".at" ∷ q) (word_alone (decimal at) (decimal_word at h));
}

-- what the lines say
abbrev body : List ℕ → Source
body words = map (λ w. bare (word_said w)) words

body_says : (words : List ℕ) → AreSmall words → IsSource (map word_line words) (body words)
body_says [] h = tt
body_says (w ∷ words) h = ((word_is [] first_place w h.0).spells, body_says words h.1)

-- a word's line is good where the word fits
word_fine : (all : Source) (p : Place) (w : ℕ) (said : Said) → IsGoodLine all p w said → p.words + 1 ≤ most_words → address_of all + 4 * (p.words + 1) ≤ 2 ^ 32
    → why_of all p (bare said) ≡ None
word_fine all p w said g few inside =
    let low : nat_le 4194304 p.words ≡ false = grind (arith, nat_tests) in
    let end : nat_lt 4294967296 (address_of all + 4 * p.words + 4) ≡ false = grind (arith, nat_tests) in
    rw g.in_range (rw g.known (rw g.no_address (rw g.one (rw low (rw end refl)))))

body_fine : (all : Source) (p : Place) (words : List ℕ) → AreSmall words → 0 < p.words + length words → p.words + length words ≤ most_words
    → address_of all + 4 * (p.words + length words) ≤ 2 ^ 32 → bad_from all p (body words) ≡ None
body_fine all p [] small some few inside =
    let is : (p.words == 0) ≡ false = grind (arith, nat_tests) in
    rw is refl
body_fine all p (w ∷ words) small some few inside =
    let g = (word_is all p w small.0).good in
    let fine = word_fine all p w (word_said w) g (omega arith) (omega arith) in
    let one = g.one in
    ap (λ why. bad_or p why (bad_from all (next_place p (bare (word_said w))) (body words))) fine
    ∙ body_fine all (next_place p (bare (word_said w))) words small.1 (omega arith) (omega arith) (omega arith)

body_words : (all : Source) (p : Place) (words : List ℕ) → AreSmall words → words_from all p (body words) ≡ words
body_words all p [] small = refl
body_words all p (w ∷ words) small =
    ap (λ q. q ++ words_from all (next_place p (bare (word_said w))) (body words)) ((word_is all p w small.0).good.word)
    ∙ ap (λ q. w ∷ q) (body_words all (next_place p (bare (word_said w))) words small.1)

abbrev program_source : ℕ → List ℕ → Source
program_source at words = bare (At (decimal at)) ∷ body words

good_address : (at : ℕ) → at % 4 ≡ 0 → at ≤ 4294967292 → is_address (decimal at) ≡ true
good_address at whole low =
    let below : nat_le at 4294967292 ≡ true = grind (arith, nat_tests) in
    rw (decimal_value at (omega arith)) (rw whole (rw below refl))

pub program_back : (at : ℕ) (words : List ℕ) → AreSmall words → IsProgram at words → Assembled (program_text at words) at words
program_back at words small h =
    let some = h.some in
    let few = h.few in
    let inside = h.inside in
    let wide : at < 2 ^ 64 = omega arith in
    let source = program_source at words in
    let address = good_address at h.aligned (omega arith) in
    let at_is : address_of source ≡ at = rw address (decimal_value at wide) in
    record {
      source = source;
      says = subst (λ l. IsSource l source) (sym
          (line_then (at_text at) (flat_map (λ w. word_line w ++ 10 ∷ []) words) (at_plain at wide) ∙ ap (λ q. at_text at ∷ q) (body_lines words small)))
          (at_spells at wide, body_says words small);
      good =
          ap (λ b. bad_or first_place (if not b then Some 4 else None) (bad_from source (next_place first_place (bare (At (decimal at)))) (body words))) address
          ∙ body_fine source (next_place first_place (bare (At (decimal at)))) words small (omega arith) (omega arith) (omega (arith, at_is));
      at_is = at_is;
      words_are = body_words source (next_place first_place (bare (At (decimal at)))) words small;
    }
