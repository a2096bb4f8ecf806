-- The bytes of a mix.
use Rattle.std.proofs.Common.{◌≡◌, ◌≢◌, ℕ, Bool, true, false, List, [], ◌∷◌, length, get_or, zero, suc, ◌+◌, ◌-◌, ◌/◌, ◌%◌, ◌^◌, ◌<◌, ◌≤◌, ⊎_elim, cond, eqb, sym, ◌∙◌, ap, refl, arith}
use Rattle.std.proofs.lemmas.Nat.Bits.{bit_at-suc, bit_at_lowest, bit_at-zero, bit_at_above, bit_at-trailing_zeros, bit_at_not, bit_at-lt}
use Rattle.std.specs.Prelude.{min}
use Rattle.std.specs.Int.{bit_at, bit_not, trailing_zeros, w128}
use Rattle.std.proofs.lemmas.Nat.{pow-add}
use Rattle.std.proofs.Math.Nat.{div-div-eq-div-mul, div-le_self}
use Rattle.std.proofs.lemmas.Bool.{cases_lt, eq-eqb, eqb-true, false≢true, cases_Bool}
use Rattle.conda_base.specs.Marks.{is_marked, mixed, IsNextMark, IsRunCopied}

pub length-mixed : (mask : ℕ) (front back : List ℕ) → length (mixed mask front back) ≡ length front
length-mixed mask [] back = refl
length-mixed mask (f ∷ front) [] = refl
length-mixed mask (f ∷ front) (b ∷ back) = ap suc (length-mixed (mask / 2) front back)

cond_same : (b : Bool) (x : ℕ) → x ≡ cond b x x
cond_same true x = refl
cond_same false x = refl

pub get_or-mixed : (mask : ℕ) (front back : List ℕ) (k : ℕ) → length back ≡ length front → get_or (mixed mask front back) k 0 ≡ cond (is_marked mask k) (get_or front k 0) (get_or back k 0)
get_or-mixed mask [] [] k same = cond_same (is_marked mask k) 0
get_or-mixed mask [] (b ∷ back) k same = absurd (omega arith)
get_or-mixed mask (f ∷ front) [] k same = absurd (omega arith)
get_or-mixed mask (f ∷ front) (b ∷ back) zero same = ap (λ x. cond (eqb x 1) f b) (sym (bit_at_lowest mask))
get_or-mixed mask (f ∷ front) (b ∷ back) (suc k) same =
    get_or-mixed (mask / 2) front back k (omega arith) ∙ ap (λ x. cond (eqb x 1) (get_or front k 0) (get_or back k 0)) (sym (bit_at-suc mask k))

-- ---- runs of marks

-- a bit of a number from a place on
bit_at_shift : (n place k : ℕ) → bit_at (n / 2 ^ place) k ≡ bit_at n (place + k)
bit_at_shift n place k = ap (λ m. m % 2) (div-div-eq-div-mul n (2 ^ place) (2 ^ k) ∙ ap (λ p. n / p) (sym (pow-add 2 place k)))

-- the places before the lowest 1 of the rest
pub next_mark_is : (mask place : ℕ) → mask < 2 ^ 128 → place < 128 → 0 < mask / 2 ^ place → IsNextMark mask place (place + trailing_zeros w128 (mask / 2 ^ place))
next_mark_is mask place fits below some =
    let rest : ℕ = mask / 2 ^ place in
    let zeros : ℕ = trailing_zeros w128 rest in
    let small : rest < 2 ^ 128 = omega (arith, div-le_self mask (2 ^ place)) in
    let low = bit_at-trailing_zeros w128 rest some small in
    let bit : bit_at mask (place + zeros) ≡ 1 = sym (bit_at_shift mask place zeros) ∙ low.1 in
    let inside : place + zeros < 128 =
    ⊎_elim (λ (y : place + zeros < 128). y)
    (λ (past : 128 ≤ place + zeros). absurd (omega (arith, bit_at_above mask 128 (place + zeros) fits past)))
    (cases_lt (place + zeros) 128) in
    record {
      from = omega arith;
      most = omega arith;
      marked = λ within. eq-eqb _ 1 bit;
      unmarked = λ k above before.
          let here : place + (k - place) ≡ k = omega arith in
          let none : bit_at mask (place + (k - place)) ≡ 0 = sym (bit_at_shift mask place (k - place)) ∙ low.2 (k - place) (omega arith) in
          let off : bit_at mask k ≡ 0 = rw here at none in
          ap (λ b. eqb b 1) off;
    }

pub no_mark_is : (mask place : ℕ) → place ≤ 128 → mask < 2 ^ 128 → mask / 2 ^ place ≡ 0 → IsNextMark mask place 128
no_mark_is mask place few fits none = record {
  from = few;
  most = omega arith;
  marked = λ within. absurd (omega arith);
  unmarked = λ k above before.
      let here : place + (k - place) ≡ k = omega arith in
      let off : bit_at mask (place + (k - place)) ≡ 0 = sym (bit_at_shift mask place (k - place)) ∙ ap (λ w. bit_at w (k - place)) none ∙ bit_at-zero (k - place) in
      let zero : bit_at mask k ≡ 0 = rw here at off in
      ap (λ b. eqb b 1) zero;
}

-- ---- one turn

-- the marks up to the next place without one
marked_not : (mask k : ℕ) → mask < 2 ^ 128 → k < 128 → is_marked (bit_not w128 mask) k ≡ false → is_marked mask k ≡ true
marked_not mask k fits below off =
    let bit = bit_at_not w128 mask k fits below in
    let small = bit_at-lt mask k in
    ⊎_elim
    (λ (on : is_marked mask k ≡ true). on)
    (λ (none : is_marked mask k ≡ false).
    let zero : bit_at mask k ≡ 0 = omega (arith, zero_by_test (bit_at mask k) none) in
    let one : bit_at (bit_not w128 mask) k ≡ 1 = omega arith in
    absurd (false≢true (sym off ∙ eq-eqb _ 1 one)))
    (cases_Bool (is_marked mask k))
  where
    zero_by_test : (b : ℕ) → eqb b 1 ≡ false → b ≢ 1
    zero_by_test b off is = false≢true (sym off ∙ eq-eqb b 1 is)

unmarked_not : (mask k : ℕ) → mask < 2 ^ 128 → k < 128 → is_marked (bit_not w128 mask) k ≡ true → is_marked mask k ≡ false
unmarked_not mask k fits below on =
    let bit = bit_at_not w128 mask k fits below in
    let one : bit_at (bit_not w128 mask) k ≡ 1 = eqb-true _ _ on in
    let zero : bit_at mask k ≡ 0 = omega (arith, bit_at-lt mask k) in
    ap (λ b. eqb b 1) zero

-- what a run of marks puts
pub record IsTurn (mask start end place len : ℕ) : Type 0 where
  pub up : place ≤ start
  pub order : start ≤ end
  pub within : end ≤ len
  pub more : place < end
  pub skipped : (k : ℕ) → place ≤ k → k < start → is_marked mask k ≡ false
  pub taken : (k : ℕ) → start ≤ k → k < end → is_marked mask k ≡ true

pub is_turn : (mask place len next over : ℕ) → mask < 2 ^ 128 → len ≤ 128 → place < len → IsNextMark mask place next → IsNextMark (bit_not w128 mask) (min next len) over → IsTurn mask (min next len) (min over len) place len
is_turn mask place len next over fits few below first last =
    let from = first.from in
    let past = last.from in
    record {
      up = omega arith;
      order = omega arith;
      within = omega arith;
      more = ⊎_elim
          (λ (far : place < min over len). far)
          (λ (near : min over len ≤ place).
          let here : next ≡ place = omega arith in
          let there : over ≡ place = omega arith in
          let on : is_marked mask place ≡ true = rw here at (first.marked (omega arith)) in
          let also : is_marked (bit_not w128 mask) place ≡ true = rw there at (last.marked (omega arith)) in
          absurd (false≢true (sym (unmarked_not mask place fits (omega arith) also) ∙ on)))
          (cases_lt place (min over len));
      skipped = λ k above before. first.unmarked k above (omega arith);
      taken = λ k above before. marked_not mask k fits (omega arith) (last.unmarked k above (omega arith));
    }

-- the bytes after a turn
pub mixed_turn : (mask start end place len k : ℕ) (front initial old new : List ℕ) → IsTurn mask start end place len → IsRunCopied start end front old new → ((i : ℕ) → i < place → get_or old i 0 ≡ cond (is_marked mask i) (get_or front i 0) (get_or initial i 0)) → ((i : ℕ) → place ≤ i → get_or old i 0 ≡ get_or initial i 0) → k < end → get_or new k 0 ≡ cond (is_marked mask k) (get_or front k 0) (get_or initial k 0)
mixed_turn mask start end place len k front initial old new turn copied passed ahead below =
    let up = turn.up in
    ⊎_elim
    (λ (done : k < place). copied.before k (omega arith) ∙ passed k done)
    (λ (from : place ≤ k).
    ⊎_elim
    (λ (skip : k < start).
    copied.before k skip ∙ ahead k from ∙ ap (λ b. cond b (get_or front k 0) (get_or initial k 0)) (sym (turn.skipped k from skip)))
    (λ (run : start ≤ k).
    copied.run k run below ∙ ap (λ b. cond b (get_or front k 0) (get_or initial k 0)) (sym (turn.taken k run below)))
    (cases_lt k start))
    (cases_lt k place)
