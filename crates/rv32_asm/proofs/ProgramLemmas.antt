-- A source without a bad line makes a program.
use Rattle.std.proofs.Common.{◌≡◌, ℕ, ◌+◌, ◌*◌, ◌%◌, ◌^◌, ◌<◌, ◌≤◌, ◌==◌, ◌||◌, Bool, true, false, List, [], ◌∷◌, ◌++◌, length, refl, subst, arith, length-append}
use Rattle.std.specs.Prelude.{Option, Some, None, nat_le, nat_lt, if◌then◌else◌, ℤ}
use Rattle.std.specs.Option.{is_none}
use Rattle.std.proofs.lemmas.Bool.{eqb-true}
use Rattle.std.proofs.lemmas.Bool.Decides.{nat_tests}
use Rattle.conda_base.specs.Digits.{number_after}
use Rattle.rv32_decode.specs.declared.instr.Instr.{Instr}
use Rattle.rv32_asm.specs.declared.place.Place.{Place}
use Rattle.rv32_asm.specs.declared.place.BadLine.{BadLine}
use Rattle.rv32_asm.specs.Grammar.{Said, At, Word, Does}
use Rattle.rv32_asm.specs.Assembled.{Source, Assembled, label_of, said_of, words_by, first_place, next_place, is_address, address_by, address_of, amount, is_formless, is_out_of_range, is_repeated, uses_unknown, has_bad_address, is_past_the_end, first_of, why_of, bad_or, bad_from, first_bad, instr_word, line_words, words_from, words_of}
use Rattle.rv32_asm.specs.Programs.{most_words, IsProgram}
use Rattle.rv32_asm.proofs.CuttingLemmas.{or_false}
use Rattle.rv32_asm.proofs.RegisterLemmas.{and_true}

-- the causes that a good line doesn't have
record IsGood (out label address past : Bool) : Type 0 where
  out_not : out ≡ false
  label_not : label ≡ false
  past_not : past ≡ false

none_stands : (formless out label address past : Bool) → first_of 1 (formless ∷ out ∷ label ∷ address ∷ past ∷ []) ≡ None → IsGood out label address past
none_stands true out label address past h = absurd (cc)
none_stands false true label address past h = absurd (cc)
none_stands false false true address past h = absurd (cc)
none_stands false false false true past h = absurd (cc)
none_stands false false false false true h = absurd (cc)
none_stands false false false false false h = record { out_not = refl; label_not = refl; past_not = refl }

one_word : (i : Instr) (o : Option ℤ) → is_none o ≡ false → length (instr_word i o) ≡ 1
one_word i None h = absurd (cc)
one_word i (Some z) h = refl

words_counted : (all : Source) (p : Place) (said : Option Said) → uses_unknown all p said ≡ false → length (line_words all p said) ≡ words_by said
words_counted all p None h = refl
words_counted all p (Some (At digits)) h = refl
words_counted all p (Some (Word digits)) h = refl
words_counted all p (Some (Does i text)) h = one_word i (amount all p text) h

-- so many words fit at an address
abbrev AreIn : Source → ℕ → Type 0
AreIn all n = (n ≤ most_words) × (address_of all + 4 * n ≤ 2 ^ 32)

not_past : (n address : ℕ) → (nat_le 4194304 n || nat_lt 4294967296 (address + 4 * n + 4)) ≡ false → (n + 1 ≤ most_words) × (address + 4 * (n + 1) ≤ 2 ^ 32)
not_past n address h =
    let both = or_false (nat_le 4194304 n) (nat_lt 4294967296 (address + 4 * n + 4)) h in
    let low : n < 4194304 = grind (arith, nat_tests, both.0) in
    let inside : address + 4 * n + 4 ≤ 4294967296 = grind (arith, nat_tests, both.1) in
    (omega arith, omega arith)

still_in : (all : Source) (p : Place) (said : Option Said) → AreIn all p.words → is_past_the_end all p said ≡ false → AreIn all (p.words + words_by said)
still_in all p None before past = (omega (arith, before.0), omega (arith, before.1))
still_in all p (Some (At digits)) before past = (omega (arith, before.0), omega (arith, before.1))
still_in all p (Some (Word digits)) before past = not_past p.words (address_of all) past
still_in all p (Some (Does i text)) before past = not_past p.words (address_of all) past

-- a line that isn't the first bad one
fine : (p : Place) (why : Option ℕ) (later : Option BadLine) → bad_or p why later ≡ None → (why ≡ None) × (later ≡ None)
fine p None later h = (refl, h)
fine p (Some why) later h = absurd (cc)

record IsCounted (all : Source) (n : ℕ) : Type 0 where
  some : 0 < n
  fits : AreIn all n

counted : (all : Source) (p : Place) (source : Source) → AreIn all p.words → bad_from all p source ≡ None → IsCounted all (p.words + length (words_from all p source))
counted all p [] before good = go (p.words == 0) refl good
  where
    go : (b : Bool) → (p.words == 0) ≡ b → if◌then◌else◌ {A = Option BadLine} b (Some (record { line = p.line; why = 6 })) None ≡ None → IsCounted all (p.words + 0)
    go true is h = absurd (cc)
    go false is h =
        let some : 0 < p.words = grind (arith, nat_tests, is) in
        record { some = omega arith; fits = (omega (arith, before.0), omega (arith, before.1)) }
counted all p (line ∷ source) before good =
    let f = fine p (why_of all p line) (bad_from all (next_place p line) source) good in
    let g = none_stands (is_formless line) (is_out_of_range all p (said_of line)) (is_repeated all p (label_of line) || uses_unknown all p (said_of line)) (has_bad_address p (said_of line)) (is_past_the_end all p (said_of line)) f.0 in
    let known = (or_false (is_repeated all p (label_of line)) (uses_unknown all p (said_of line)) g.label_not).1 in
    let here = words_counted all p (said_of line) known in
    let later = counted all (next_place p line) source (still_in all p (said_of line) before g.past_not) f.1 in
    let total : p.words + words_by (said_of line) + length (words_from all (next_place p line) source)
    ≡ p.words + length (line_words all p (said_of line) ++ words_from all (next_place p line) source) =
    omega (arith, here, length-append (line_words all p (said_of line)) (words_from all (next_place p line) source)) in
    subst (IsCounted all) total later

-- an address that is given is a multiple of 4
abbrev IsPlace : ℕ → Type 0
IsPlace at = (at % 4 ≡ 0) × (at ≤ 2 ^ 32)

given : (digits : List ℕ) → IsPlace (if is_address digits then number_after 0 digits else 65536)
given digits = go (is_address digits) refl
  where
    go : (b : Bool) → is_address digits ≡ b → IsPlace (if b then number_after 0 digits else 65536)
    go true is =
        let both = and_true (number_after 0 digits % 4 == 0) (nat_le (number_after 0 digits) 4294967292) is in
        let low : number_after 0 digits ≤ 4294967292 = grind (arith, nat_tests, both.1) in
        (eqb-true (number_after 0 digits % 4) 0 both.0, omega arith)
    go false is = (refl, omega arith)

address_by_is : (said : Option Said) (later : ℕ) → IsPlace later → IsPlace (address_by said later)
address_by_is None later h = h
address_by_is (Some (At digits)) later h = given digits
address_by_is (Some (Word digits)) later h = (refl, omega arith)
address_by_is (Some (Does i text)) later h = (refl, omega arith)

address_is : (source : Source) → IsPlace (address_of source)
address_is [] = (refl, omega arith)
address_is (line ∷ source) = address_by_is (said_of line) (address_of source) (address_is source)

program_is : (source : Source) → first_bad source ≡ None → IsProgram (address_of source) (words_of source)
program_is source good =
    let at = address_is source in
    let c = counted source first_place source (omega arith, omega (arith, at.1)) good in
    record { aligned = at.0; some = omega (arith, c.some); few = omega (arith, c.fits.0); inside = omega (arith, c.fits.1) }

pub assembled_is : (text : List ℕ) (at : ℕ) (words : List ℕ) → Assembled text at words → IsProgram at words
assembled_is text at words h =
    subst (λ a. IsProgram a words) h.at_is
    (subst (IsProgram (address_of h.source)) h.words_are (program_is h.source h.good))
