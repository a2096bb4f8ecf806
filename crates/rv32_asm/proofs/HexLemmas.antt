-- Eight hexadecimal digits are a word.
use Rattle.std.proofs.Common.{◌≡◌, ℕ, zero, suc, subst, ◌+◌, ◌*◌, ◌^◌, ◌<◌, ◌≤◌, ◌==◌, ◌&&◌, true, List, [], ◌∷◌, length, drop, get_or, refl, sym, ◌∙◌, ap, arith, add-one, drop-cons}
use Rattle.std.specs.Prelude.{IsTrue}
use Rattle.std.specs.List.{list_all}
use Rattle.std.proofs.lemmas.Bool.{eqb-true}
use Rattle.std.proofs.lemmas.Bool.Decides.{nat_tests}
use Rattle.std.proofs.lemmas.List.{drop_all}
use Rattle.rv32_asm.specs.Grammar.{is_hex_digit, is_hex_word}
use Rattle.rv32_asm.specs.Assembled.{hex_value, hex_after}
use Rattle.rv32_asm.proofs.RegisterLemmas.{and_true}

pub hex_above : (digits : List ℕ) (n : ℕ) → n ≤ hex_after n digits
hex_above [] n = omega arith
hex_above (digit ∷ digits) n = omega (arith, hex_above digits (n * 16 + hex_value digit))

pub hex_next : (digits : List ℕ) (i n : ℕ) → i < length digits → hex_after n (drop i digits) ≡ hex_after (n * 16 + hex_value (get_or digits i 0)) (drop (i + 1) digits)
hex_next digits i n h = rw (add-one) (rw (drop-cons digits i 0) refl)

pub hex_not : (digits : List ℕ) (i n : ℕ) → i < length digits → hex_after n (drop i digits) ≡ hex_after 0 digits
    → 2 ^ 32 ≤ n * 16 + hex_value (get_or digits i 0) → 2 ^ 32 ≤ hex_after 0 digits
hex_not digits i n h same large = omega (arith, hex_next digits i n h, hex_above (drop (i + 1) digits) (n * 16 + hex_value (get_or digits i 0)))

pub hex_end : (digits : List ℕ) (i n : ℕ) → length digits ≤ i → hex_after n (drop i digits) ≡ hex_after 0 digits → n ≡ hex_after 0 digits
hex_end digits i n h same = sym (ap (hex_after n) (drop_all i digits h)) ∙ same

hex_digit_small : (b : ℕ) → is_hex_digit b ≡ true → hex_value b < 16
hex_digit_small b h = grind (arith, nat_tests)

hex_all_small : (n limit : ℕ) (b : ℕ) (digits : List ℕ) → n + 1 ≤ limit → (is_hex_digit b && list_all is_hex_digit digits) ≡ true
    → (n * 16 + hex_value b + 1 ≤ limit * 16) × (list_all is_hex_digit digits ≡ true)
hex_all_small n limit b digits h all =
    let both = and_true (is_hex_digit b) (list_all is_hex_digit digits) all in
    (omega (arith, hex_digit_small b both.0), both.1)

-- so many times 16
abbrev scaled : ℕ → ℕ → ℕ
scaled limit zero = limit
scaled limit (suc k) = scaled (limit * 16) k

hex_bound : (digits : List ℕ) (n limit : ℕ) → n + 1 ≤ limit → list_all is_hex_digit digits ≡ true → hex_after n digits + 1 ≤ scaled limit (length digits)
hex_bound [] n limit h all = h
hex_bound (b ∷ digits) n limit h all =
    let s = hex_all_small n limit b digits h all in
    hex_bound digits (n * 16 + hex_value b) (limit * 16) s.0 s.1

pub hex_word_small : (digits : List ℕ) → IsTrue (is_hex_word digits) → hex_after 0 digits < 2 ^ 32
hex_word_small digits h =
    let both = and_true (length digits == 8) (list_all is_hex_digit digits) h in
    let len : length digits ≡ 8 = eqb-true (length digits) 8 both.0 in
    let bound : hex_after 0 digits + 1 ≤ scaled 1 8 = subst (λ k. hex_after 0 digits + 1 ≤ scaled 1 k) len (hex_bound digits 0 1 (omega arith) both.1) in
    omega (arith, bound)
