-- Registers and single pieces are read back as they are written.
use Rattle.std.proofs.Common.{◌≡◌, ℕ, ◌+◌, ◌-◌, ◌*◌, ◌/◌, ◌%◌, ◌<◌, ◌≤◌, ◌==◌, ◌&&◌, Bool, true, false, List, [], ◌∷◌, length, refl, sym, ◌∙◌, ap, subst, arith}
use Rattle.std.specs.Prelude.{Option, Some, None, nat_le, nat_lt}
use Rattle.std.specs.Str.{bytes_eq}
use Rattle.std.proofs.lemmas.Fmt.{decimal_digit, decimal_step}
use Rattle.std.proofs.lemmas.Slice.Eq.{bytes_eq-Decides}
use Rattle.std.proofs.lemmas.Bool.{eqb-true}
use Rattle.std.proofs.lemmas.Bool.Decides.{nat_tests}
use Rattle.rv32_dis.specs.Texts.{register}
use Rattle.conda_base.specs.Digits.{is_digit}
use Rattle.rv32_asm.specs.Reading.{◌>>=◌, Pieces, when, take_piece, register_in, take_register, take_mark, only_piece, take_first, base_in}

-- a step that gave a value
pub bound : {A B R : Type 0} (f : A → Option B) (o : Option A) {y : B} → (o >>= f) ≡ Some y → ((x : A) → o ≡ Some x → f x ≡ Some y → R) → R
bound f None h k = absurd (cc)
bound f (Some x) h k = k x refl h

-- a test that held
pub held : {A R : Type 0} (b : Bool) {x y : A} → when b x ≡ Some y → (b ≡ true → x ≡ y → R) → R
held true h k = k refl (cc)
held false h k = absurd (cc)

pub some_is : {A : Type 0} (x y : A) → ◌≡◌ {A = Option A} (Some x) (Some y) → x ≡ y
some_is x y h = cc

pub and_true : (a b : Bool) → (a && b) ≡ true → (a ≡ true) × (b ≡ true)
and_true true b h = (refl, h)
and_true false b h = absurd (cc)

pub record IsRegister (text : List ℕ) (r : ℕ) : Type 0 where
  pub text_is : register r ≡ text
  pub below : r < 32

digit_range : (d : ℕ) → is_digit d ≡ true → (48 ≤ d) × (d ≤ 57)
digit_range d h = let both = and_true (nat_le 48 d) (nat_le d 57) h in (grind (arith, nat_tests, both.0), grind (arith, nat_tests, both.1))

two_bytes : (x d r : ℕ) → x ≡ 120 → 48 ≤ d → d ≤ 57 → d - 48 ≡ r → IsRegister (x ∷ d ∷ []) r
two_bytes x d r xs low high same = record {
  text_is = let e : 48 + r ≡ d = omega arith in rw (decimal_digit r (omega arith), e, xs) refl;
  below = omega arith;
}

three_bytes : (x c d r : ℕ) → x ≡ 120 → 49 ≤ c → c ≤ 57 → 48 ≤ d → d ≤ 57 → 10 * (c - 48) + (d - 48) ≡ r → r < 32 → IsRegister (x ∷ c ∷ d ∷ []) r
three_bytes x c d r xs low high dlow dhigh same small =
    let first : r / 10 ≡ c - 48 = omega arith in
    let last : 48 + r % 10 ≡ d = omega arith in
    let front : 48 + (c - 48) ≡ c = omega arith in
    record {
      text_is = rw (decimal_step r (omega arith) (omega arith), first, last, decimal_digit (c - 48) (omega arith), front, xs) refl;
      below = small;
    }

pub register_in_is : (text : List ℕ) (r : ℕ) → register_in text ≡ Some r → IsRegister text r
register_in_is [] r h = absurd (cc)
register_in_is (x ∷ []) r h = absurd (cc)
register_in_is (x ∷ d ∷ []) r h = held (x == 120 && is_digit d) h (λ is same.
    let both = and_true (x == 120) (is_digit d) is in
    let range = digit_range d both.1 in
    two_bytes x d r (eqb-true x 120 both.0) range.0 range.1 same)
register_in_is (x ∷ c ∷ d ∷ []) r h = held (x == 120 && (nat_le 49 c && is_digit c) && is_digit d && nat_lt (10 * (c - 48) + (d - 48)) 32) h (λ is same.
    let a = and_true (x == 120 && (nat_le 49 c && is_digit c) && is_digit d) (nat_lt (10 * (c - 48) + (d - 48)) 32) is in
    let b = and_true (x == 120 && (nat_le 49 c && is_digit c)) (is_digit d) (a.0) in
    let e = and_true (x == 120) (nat_le 49 c && is_digit c) (b.0) in
    let f = and_true (nat_le 49 c) (is_digit c) (e.1) in
    let range = digit_range d b.1 in
    let first = digit_range c f.1 in
    let above : 49 ≤ c = grind (arith, nat_tests, f.0) in
    let small : 10 * (c - 48) + (d - 48) < 32 = grind (arith, nat_tests, a.1) in
    three_bytes x c d r (eqb-true x 120 e.0) above first.1 range.0 range.1 same (subst (λ n. n < 32) same small))
register_in_is (x ∷ c ∷ d ∷ e ∷ text) r h = absurd (cc)

one_digit_again : (r : ℕ) → r < 10 → register_in (120 ∷ (48 + r) ∷ []) ≡ Some r
one_digit_again r h =
    let low : nat_le 48 (48 + r) ≡ true = grind (arith, nat_tests) in
    let high : nat_le (48 + r) 57 ≡ true = grind (arith, nat_tests) in
    let value : 48 + r - 48 ≡ r = omega arith in
    rw low (rw high (rw value refl))

two_digits_again : (c d : ℕ) → 1 ≤ c → c < 10 → d < 10 → 10 * c + d < 32 → register_in (120 ∷ (48 + c) ∷ (48 + d) ∷ []) ≡ Some (10 * c + d)
two_digits_again c d some hc hd h =
    let one : nat_le 49 (48 + c) ≡ true = grind (arith, nat_tests) in
    let low : nat_le 48 (48 + c) ≡ true = grind (arith, nat_tests) in
    let high : nat_le (48 + c) 57 ≡ true = grind (arith, nat_tests) in
    let dlow : nat_le 48 (48 + d) ≡ true = grind (arith, nat_tests) in
    let dhigh : nat_le (48 + d) 57 ≡ true = grind (arith, nat_tests) in
    let cv : 48 + c - 48 ≡ c = omega arith in
    let dv : 48 + d - 48 ≡ d = omega arith in
    let small : nat_lt (10 * c + d) 32 ≡ true = grind (arith, nat_tests) in
    rw one (rw low (rw high (rw dlow (rw dhigh (rw cv (rw dv (rw small refl)))))))

pub register_again : (r : ℕ) → r < 32 → register_in (register r) ≡ Some r
register_again r h = go (nat_lt r 10) refl
  where
    go : (b : Bool) → nat_lt r 10 ≡ b → register_in (register r) ≡ Some r
    go true is =
        let small : r < 10 = grind (arith, nat_tests) in
        rw (decimal_digit r small) (one_digit_again r small)
    go false is =
        let large : 10 ≤ r = grind (arith, nat_tests) in
        let value : 10 * (r / 10) + r % 10 ≡ r = omega arith in
        rw (decimal_step r large (omega arith)) (rw (decimal_digit (r / 10) (omega arith))
        (two_digits_again (r / 10) (r % 10) (omega arith) (omega arith) (omega arith) (omega arith) ∙ ap Some value))

pub take_piece_is : (ps : Pieces) (x : List ℕ × Pieces) → take_piece ps ≡ Some x → ps ≡ x.0 ∷ x.1
take_piece_is [] x h = absurd (cc)
take_piece_is (p ∷ ps) x h = ap (λ (y : List ℕ × Pieces). y.0 ∷ y.1) (some_is (p, ps) x h)

-- a register in front
pub record TakesRegister (ps : Pieces) (x : ℕ × Pieces) : Type 0 where
  pub parts : ps ≡ register x.0 ∷ x.1
  pub below : x.0 < 32

pub take_register_is : (ps : Pieces) (x : ℕ × Pieces) → take_register ps ≡ Some x → TakesRegister ps x
unfolding take_register
take_register_is ps x h = bound _ (take_piece ps) h (λ p taken kept. bound _ (register_in p.0) kept (λ r read last.
    let is = register_in_is p.0 r read in
    subst (TakesRegister ps) (some_is (r, p.1) x last)
    (record { parts = take_piece_is ps p taken ∙ ap (λ q. q ∷ p.1) (sym is.text_is); below = is.below })))

pub take_register_again : (r : ℕ) (ps : Pieces) → r < 32 → take_register (register r ∷ ps) ≡ Some (r, ps)
unfolding take_register
take_register_again r ps h = rw (register_again r h) refl

pub take_mark_is : (m : ℕ) (ps rest : Pieces) → take_mark m ps ≡ Some rest → ps ≡ (m ∷ []) ∷ rest
unfolding take_mark
take_mark_is m ps rest h = bound _ (take_piece ps) h (λ p taken kept. held (bytes_eq p.0 (m ∷ [])) kept (λ is last.
    take_piece_is ps p taken ∙ ap (λ q. q ∷ p.1) ((bytes_eq-Decides p.0 (m ∷ [])).0 is) ∙ ap (λ q. (m ∷ []) ∷ q) last))

empty_is : (ps : Pieces) → (length ps == 0) ≡ true → ps ≡ []
empty_is [] h = refl
empty_is (p ∷ ps) h = absurd (omega (arith, eqb-true (length (p ∷ ps)) 0 h))

pub only_piece_is : (ps : Pieces) (x : List ℕ) → only_piece ps ≡ Some x → ps ≡ x ∷ []
unfolding only_piece
only_piece_is ps x h = bound _ (take_piece ps) h (λ p taken kept. held (length p.1 == 0) kept (λ is last.
    take_piece_is ps p taken ∙ ap (λ q. p.0 ∷ q) (empty_is p.1 is) ∙ ap (λ q. q ∷ []) last))

-- a register and a comma in front
pub record TakesFirst (ps : Pieces) (x : ℕ × Pieces) : Type 0 where
  pub parts : ps ≡ register x.0 ∷ (44 ∷ []) ∷ x.1
  pub below : x.0 < 32

pub take_first_is : (ps : Pieces) (x : ℕ × Pieces) → take_first ps ≡ Some x → TakesFirst ps x
unfolding take_first
take_first_is ps x h = bound _ (take_register ps) h (λ r read kept. bound _ (take_mark 44 r.1) kept (λ rest at last.
    let is = take_register_is ps r read in
    subst (TakesFirst ps) (some_is (r.0, rest) x last)
    (record { parts = is.parts ∙ ap (λ q. register r.0 ∷ q) (take_mark_is 44 r.1 rest at); below = is.below })))

pub take_first_again : (r : ℕ) (ps : Pieces) → r < 32 → take_first (register r ∷ (44 ∷ []) ∷ ps) ≡ Some (r, ps)
unfolding take_first take_mark
take_first_again r ps h = rw (take_register_again r ((44 ∷ []) ∷ ps) h) refl

pub record IsBase (ps : Pieces) (r : ℕ) : Type 0 where
  pub parts : ps ≡ (40 ∷ []) ∷ register r ∷ (41 ∷ []) ∷ []
  pub below : r < 32

pub base_in_is : (ps : Pieces) (r : ℕ) → base_in ps ≡ Some r → IsBase ps r
unfolding base_in
base_in_is ps r h = bound _ (take_mark 40 ps) h (λ rest opened kept. bound _ (take_register rest) kept (λ x read more. bound _ (take_mark 41 x.1) more (λ end close last. held (length end == 0) last (λ is same.
    let reg = take_register_is rest x read in
    let tail : x.1 ≡ (41 ∷ []) ∷ [] = take_mark_is 41 x.1 end close ∙ ap (λ q. (41 ∷ []) ∷ q) (empty_is end is) in
    subst (IsBase ps) same
    (record { parts = take_mark_is 40 ps rest opened ∙ ap (λ q. (40 ∷ []) ∷ q) (reg.parts ∙ ap (λ q. register x.0 ∷ q) tail); below = reg.below })))))

pub base_again : (r : ℕ) → r < 32 → base_in ((40 ∷ []) ∷ register r ∷ (41 ∷ []) ∷ []) ≡ Some r
unfolding base_in take_mark
base_again r h = rw (take_register_again r ((41 ∷ []) ∷ []) h) refl
