-- The eight digits of a word are read back as the word.
use Rattle.std.proofs.Common.{◌≡◌, ℕ, ◌+◌, ◌-◌, ◌*◌, ◌/◌, ◌%◌, ◌^◌, ◌<◌, ◌≤◌, ◌==◌, ◌&&◌, ◌||◌, Bool, true, false, List, [], ◌∷◌, ◌++◌, refl, sym, ◌∙◌, ap, arith}
use Rattle.std.proofs.lemmas.List.{append-nil}
use Rattle.std.specs.Prelude.{Some, None, nat_le, nat_lt, codes, if◌then◌else◌}
use Rattle.std.specs.List.{list_all}
use Rattle.std.proofs.lemmas.Bool.Decides.{nat_tests}
use Rattle.conda_base.specs.Digits.{is_digit, hex_digit, hex_word}
use Rattle.rv32_dis.specs.Texts.{raw_text}
use Rattle.rv32_asm.specs.Pieces.{pieces}
use Rattle.rv32_asm.specs.Grammar.{is_hex_digit, is_hex_word, Word, Spells}
use Rattle.rv32_asm.specs.Assembled.{hex_value, hex_after}
use Rattle.rv32_asm.proofs.TextLemmas.{is_part, is_word, digit_part, word_then}
use Rattle.rv32_asm.proofs.InstrTextLemmas.{IsPlainText, plain_append, word_plain, plain_ascii, plain_kept}

-- no mark, blank, colon or comment stands among the letters
letter_part : (b : ℕ) → 97 ≤ b → b ≤ 122 → is_part b ≡ true
letter_part b low high =
    let a : nat_lt b 128 ≡ true = grind (arith, nat_tests) in
    let c : (b == 35) ≡ false = grind (arith, nat_tests) in
    let k : (b == 10) ≡ false = grind (arith, nat_tests) in
    let d : (b == 32) ≡ false = grind (arith, nat_tests) in
    let e : (b == 9) ≡ false = grind (arith, nat_tests) in
    let f : (b == 44) ≡ false = grind (arith, nat_tests) in
    let g : (b == 40) ≡ false = grind (arith, nat_tests) in
    let i : (b == 41) ≡ false = grind (arith, nat_tests) in
    let j : (b == 58) ≡ false = grind (arith, nat_tests) in
    rw a (rw c (rw k (rw d (rw e (rw f (rw g (rw i (rw j refl))))))))

-- what holds of a hexadecimal digit
record IsHex (b d : ℕ) : Type 0 where
  part : is_part b ≡ true
  digit : is_hex_digit b ≡ true
  value : hex_value b ≡ d

decimal_hex : (d : ℕ) → d < 10 → IsHex (48 + d) d
decimal_hex d h =
    let low : nat_le 48 (48 + d) ≡ true = grind (arith, nat_tests) in
    let high : nat_le (48 + d) 57 ≡ true = grind (arith, nat_tests) in
    let is : is_digit (48 + d) ≡ true = rw low (rw high refl) in
    record { part = digit_part (48 + d) is; digit = rw is refl; value = rw high (omega arith) }

or_last : (a b : Bool) → (a || b || true) ≡ true
or_last true b = refl
or_last false true = refl
or_last false false = refl

letter_hex : (d : ℕ) → 10 ≤ d → d < 16 → IsHex (97 + (d - 10)) d
letter_hex d low high =
    let above : nat_le 97 (97 + (d - 10)) ≡ true = grind (arith, nat_tests) in
    let below : nat_le (97 + (d - 10)) 102 ≡ true = grind (arith, nat_tests) in
    let no_decimal : nat_le (97 + (d - 10)) 57 ≡ false = grind (arith, nat_tests) in
    let no_capital : nat_le (97 + (d - 10)) 70 ≡ false = grind (arith, nat_tests) in
    record {
      part = letter_part (97 + (d - 10)) (omega arith) (omega arith);
      digit = rw above (rw below (or_last (is_digit (97 + (d - 10))) (nat_le 65 (97 + (d - 10)) && nat_le (97 + (d - 10)) 70)));
      value = rw no_decimal (rw no_capital (omega arith));
    }

digit_hex : (d : ℕ) → d < 16 → IsHex (hex_digit d) d
digit_hex d h = go (nat_lt d 10) refl
  where
    go : (b : Bool) → nat_lt d 10 ≡ b → IsHex (if b then 48 + d else 97 + (d - 10)) d
    go true is = let low : d < 10 = grind (arith, nat_tests, is) in decimal_hex d low
    go false is = let high : 10 ≤ d = grind (arith, nat_tests, is) in letter_hex d high h

-- the k-th digit
hex : (n : ℕ) → IsHex (hex_digit (n % 16)) (n % 16)
hex n = digit_hex (n % 16) (omega arith)

hex_parts : (w : ℕ) → list_all is_part (hex_word w) ≡ true
unfolding hex_word
hex_parts w =
    rw ((hex (w / 2 ^ 28)).part) (rw ((hex (w / 2 ^ 24)).part) (rw ((hex (w / 2 ^ 20)).part) (rw ((hex (w / 2 ^ 16)).part)
    (rw ((hex (w / 2 ^ 12)).part) (rw ((hex (w / 2 ^ 8)).part) (rw ((hex (w / 2 ^ 4)).part) (rw ((hex w).part) refl)))))))

pub hex_is_word : (w : ℕ) → is_hex_word (hex_word w) ≡ true
unfolding hex_word
hex_is_word w =
    rw ((hex (w / 2 ^ 28)).digit) (rw ((hex (w / 2 ^ 24)).digit) (rw ((hex (w / 2 ^ 20)).digit) (rw ((hex (w / 2 ^ 16)).digit)
    (rw ((hex (w / 2 ^ 12)).digit) (rw ((hex (w / 2 ^ 8)).digit) (rw ((hex (w / 2 ^ 4)).digit) (rw ((hex w).digit) refl)))))))

pub hex_back : (w : ℕ) → w < 2 ^ 32 → hex_after 0 (hex_word w) ≡ w
unfolding hex_word
hex_back w h =
    let a : 0 * 16 + w / 2 ^ 28 % 16 ≡ w / 2 ^ 28 = omega arith in
    let b : w / 2 ^ 28 * 16 + w / 2 ^ 24 % 16 ≡ w / 2 ^ 24 = omega arith in
    let c : w / 2 ^ 24 * 16 + w / 2 ^ 20 % 16 ≡ w / 2 ^ 20 = omega arith in
    let d : w / 2 ^ 20 * 16 + w / 2 ^ 16 % 16 ≡ w / 2 ^ 16 = omega arith in
    let e : w / 2 ^ 16 * 16 + w / 2 ^ 12 % 16 ≡ w / 2 ^ 12 = omega arith in
    let f : w / 2 ^ 12 * 16 + w / 2 ^ 8 % 16 ≡ w / 2 ^ 8 = omega arith in
    let g : w / 2 ^ 8 * 16 + w / 2 ^ 4 % 16 ≡ w / 2 ^ 4 = omega arith in
    let i : w / 2 ^ 4 * 16 + w % 16 ≡ w = omega arith in
    rw ((hex (w / 2 ^ 28)).value) (rw ((hex (w / 2 ^ 24)).value) (rw ((hex (w / 2 ^ 20)).value) (rw ((hex (w / 2 ^ 16)).value)
    (rw ((hex (w / 2 ^ 12)).value) (rw ((hex (w / 2 ^ 8)).value) (rw ((hex (w / 2 ^ 4)).value) (rw ((hex w).value)
    (rw a (rw b (rw c (rw d (rw e (rw f (rw g i))))))))))))))

pub word_alone : (w : List ℕ) → is_word w ≡ true → pieces w ≡ w ∷ []
word_alone w h = ap pieces (sym (append-nil w)) ∙ word_then w [] h tt

hex_text_word : (w : ℕ) → is_word (codes "0x" ++ hex_word w) ≡ true
unfolding hex_word
hex_text_word w = hex_parts w

pub raw_plain : (w : ℕ) → IsPlainText (raw_text w)
raw_plain w = plain_append (codes ".word ") (codes "0x" ++ hex_word w) refl (word_plain (codes "0x" ++ hex_word w) (hex_text_word w))

pub raw_spells : (w : ℕ) → Spells (raw_text w) (record { label = None; statement = Some (Word (hex_word w)) })
raw_spells w = record {
  ascii = plain_ascii (raw_text w) (raw_plain w);
  label = tt;
  statement = hex_is_word w;
  text = ap pieces (plain_kept (raw_text w) (raw_plain w))
      ∙ word_then (codes ".word") (32 ∷ (codes "0x" ++ hex_word w)) refl refl
      ∙ ap (λ q. codes ".word" ∷ q) (word_alone (codes "0x" ++ hex_word w) (hex_text_word w));
}
