-- Numbers as they are written have the form of numbers, and their value.
use Rattle.std.proofs.Common.{◌≡◌, ℕ, zero, suc, ◌-◌, ◌^◌, ◌<◌, ◌==◌, ◌||◌, Bool, true, false, List, [], ◌∷◌, ◌++◌, length, get_or, refl, ◌∙◌, ap, arith, rules}
use Rattle.std.specs.Prelude.{nat_le, nat_lt, if◌then◌else◌, pos, negsuc, ℤ, codes}
use Rattle.std.specs.List.{list_all}
use Rattle.std.specs.Fmt.{decimal}
use Rattle.std.proofs.lemmas.Fmt.{decimal_digit, digits_decimal, digits_value-decimal, decimal_nonempty, first_decimal}
use Rattle.std.proofs.lemmas.Str.Parse.{IsDigitsTest, FoldsDigits, IsNumeralModel, numerals_by_fold}
use Rattle.std.proofs.lemmas.Bool.Decides.{nat_tests}
use Rattle.rv32_dis.specs.Texts.{signed_text}
use Rattle.conda_base.specs.Digits.{number_after, is_digit, is_numeral}
use Rattle.rv32_asm.specs.Grammar.{is_number}
use Rattle.rv32_asm.specs.Assembled.{written_number, complement}

abbrev AreDigits : List ℕ → Type 0
AreDigits text = list_all is_digit text ≡ true

tells_digits : IsDigitsTest AreDigits
tells_digits = search rules

folds_digits : FoldsDigits number_after
folds_digits = search rules

numerals : IsNumeralModel AreDigits (number_after 0)
numerals = numerals_by_fold AreDigits tells_digits number_after folds_digits

pub decimal_digits : (n : ℕ) → n < 2 ^ 64 → list_all is_digit (decimal n) ≡ true
decimal_digits n h = digits_decimal numerals n h

pub decimal_value : (n : ℕ) → n < 2 ^ 64 → number_after 0 (decimal n) ≡ n
decimal_value n h = digits_value-decimal numerals n h

-- a number's digits begin with 0 only where it is 0
pub decimal_numeral : (n : ℕ) → n < 2 ^ 64 → is_numeral (decimal n) ≡ true
decimal_numeral zero h = rw (decimal_digit 0 (omega arith)) refl
decimal_numeral (suc n) h =
    let some : nat_le 1 (length (decimal (suc n))) ≡ true = grind (arith, nat_tests, decimal_nonempty (suc n) h) in
    let first : (get_or (decimal (suc n)) 0 0 == 48) ≡ false = grind (arith, nat_tests, first_decimal (suc n) (omega arith) h) in
    rw some (rw (decimal_digits (suc n) h) (rw first (or_true (length (decimal (suc n)) == 1))))
  where
    or_true : (a : Bool) → (a || true) ≡ true
    or_true true = refl
    or_true false = refl

no_minus : (text : List ℕ) → list_all is_digit text ≡ true → is_numeral text ≡ true → (is_number text ≡ true) × (written_number text ≡ pos (number_after 0 text))
no_minus [] digits numeral = absurd (cc)
no_minus (b ∷ text) digits numeral =
    let not45 : (b == 45) ≡ false = grind (arith, nat_tests, digits) in
    (rw not45 numeral, rw not45 refl)

pub decimal_number : (n : ℕ) → n < 2 ^ 64 → (is_number (decimal n) ≡ true) × (written_number (decimal n) ≡ pos n)
decimal_number n h =
    let both = no_minus (decimal n) (decimal_digits n h) (decimal_numeral n h) in
    (both.0, both.1 ∙ ap pos (decimal_value n h))

pub minus_number : (n : ℕ) → 0 < n → n < 2 ^ 64 → (is_number (45 ∷ decimal n) ≡ true) × (written_number (45 ∷ decimal n) ≡ negsuc (n - 1))
minus_number n some h =
    let first : (get_or (decimal n) 0 0 == 48) ≡ false = grind (arith, nat_tests, first_decimal n some h) in
    (rw (decimal_numeral n h) (rw first refl), ap (λ k. negsuc (k - 1)) (decimal_value n h))

-- the number that a word of two's complement is
abbrev pub integer : ℕ → ℤ
integer word = if nat_lt word (2 ^ 31) then pos word else negsuc (2 ^ 32 - word - 1)

pub signed_number : (word : ℕ) → word < 2 ^ 32 → (is_number (signed_text word) ≡ true) × (written_number (signed_text word) ≡ integer word)
signed_number word h = go (nat_lt word (2 ^ 31)) refl
  where
    go : (b : Bool) → nat_lt word (2 ^ 31) ≡ b
        → (is_number (if b then decimal word else codes "-" ++ decimal (2 ^ 32 - word)) ≡ true)
        × (written_number (if b then decimal word else codes "-" ++ decimal (2 ^ 32 - word)) ≡ (if b then pos word else negsuc (2 ^ 32 - word - 1)))
    go true is = decimal_number word (omega arith)
    go false is = minus_number (2 ^ 32 - word) (omega arith) (omega arith)

pub complement_integer : (word : ℕ) → word < 2 ^ 32 → complement (integer word) ≡ word
complement_integer word h = go (nat_lt word (2 ^ 31)) refl
  where
    go : (b : Bool) → nat_lt word (2 ^ 31) ≡ b → complement (if b then pos word else negsuc (2 ^ 32 - word - 1)) ≡ word
    go true is = refl
    go false is = omega arith
