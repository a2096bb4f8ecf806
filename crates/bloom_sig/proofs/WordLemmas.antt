-- Words of bits, and the truth values that they are seen as.
use Rattle.std.proofs.Common.{◌≡◌, ◌≢◌, ℕ, zero, suc, ◌*◌, ◌/◌, ◌%◌, ◌^◌, ◌<◌, ◌≤◌, Bool, true, false, ◌||◌, List, [], ◌∷◌, length, get_or, set, replicate, eqb, sym, ap, ◌∙◌, ◌↔◌, refl, ⊎_elim, arith}
use Rattle.std.specs.Prelude.{bit_or}
use Rattle.std.specs.Int.{bit_at, w64}
use Rattle.std.proofs.lemmas.List.{same_lists, get_or-set_same, get_or-set_other, length-set, length-replicate, get_or-replicate}
use Rattle.std.proofs.lemmas.List.FromFn.{length-map-range_with_len, get_or-map-range_with_len}
use Rattle.std.proofs.lemmas.Nat.Bits.{bit_at_or, bit_at-lt, bit_at-zero, bit_at_set_same, bit_at_set_other}
use Rattle.std.proofs.lemmas.Bool.{false≢true, cases_eq, cases_lt, eq-eqb, eqb-true}
use Rattle.std.proofs.lemmas.Bool.Decides.{nat_tests}
use Rattle.bloom_sig.specs.Segments.{is_in_set, union, Meets}
use Rattle.bloom_sig.specs.Words.{bit_of_words, marks_of, AreWords, AreJoined, IsSet, ShareBit}
use Rattle.bloom_sig.proofs.SegmentLemmas.{union_by_numbers}

pub length-marks : (bound : ℕ) (words : List ℕ) → length (marks_of bound words) ≡ bound
length-marks bound words = length-map-range_with_len (λ n. eqb (bit_of_words words n) 1) 0 bound

pub mark_at : (bound : ℕ) (words : List ℕ) (n : ℕ) (d : Bool) → n < bound → get_or (marks_of bound words) n d ≡ eqb (bit_of_words words n) 1
mark_at bound words n d below = get_or-map-range_with_len (λ n. eqb (bit_of_words words n) 1) 0 bound n n d below (omega arith)

-- ---- no bit

zero_at : (count k : ℕ) → ◌≡◌ {A = ℕ} (get_or (replicate count 0) k 0) 0
zero_at zero k = refl
zero_at (suc count) zero = refl
zero_at (suc count) (suc k) = zero_at count k

pub zero_bit : (count n : ℕ) → bit_of_words (replicate count 0) n ≡ 0
zero_bit count n = ap (λ w. bit_at w (n % 64)) (zero_at count (n / 64)) ∙ bit_at-zero (n % 64)

pub marks_zero : (bound count : ℕ) → marks_of bound (replicate count 0) ≡ replicate bound false
marks_zero bound count =
    same_lists (marks_of bound (replicate count 0)) (replicate bound false) (length-marks bound (replicate count 0) ∙ sym (length-replicate bound false))
    (λ k d inside.
    let small : k < bound = omega (arith, length-marks bound (replicate count 0)) in
    mark_at bound (replicate count 0) k d small ∙ ap (λ b. eqb b 1) (zero_bit count k) ∙ sym (get_or-replicate bound k false d small))

-- ---- a bit that is set

pub word_set : (words : List ℕ) (n : ℕ) → n / 64 < length words → IsSet n words (set words (n / 64) (bit_or (get_or words (n / 64) 0) (1 * 2 ^ (n % 64) % 2 ^ 64)))
word_set words n within = record {
  len = length-set words (n / 64) new;
  on = ap (λ w. bit_at w (n % 64)) (get_or-set_same words (n / 64) new 0 within) ∙ bit_at_set_same w64 word (n % 64) (omega arith);
  others = λ k apart.
      ⊎_elim
      (λ (same : k / 64 ≡ n / 64).
      let other : k % 64 ≢ n % 64 = λ e. apart (omega arith) in
      ap (λ i. bit_at (get_or (set words (n / 64) new) i 0) (k % 64)) same ∙
      ap (λ w. bit_at w (k % 64)) (get_or-set_same words (n / 64) new 0 within) ∙
      bit_at_set_other w64 word (n % 64) (omega arith) (k % 64) other ∙
      ap (λ i. bit_at (get_or words i 0) (k % 64)) (sym same))
      (λ (off : k / 64 ≢ n / 64).
      ap (λ w. bit_at w (k % 64)) (get_or-set_other words (n / 64) (k / 64) new 0 off))
      (cases_eq (k / 64) (n / 64));
}
  where
    word : ℕ
    word = get_or words (n / 64) 0

    new : ℕ
    new = bit_or word (1 * 2 ^ (n % 64) % 2 ^ 64)

pub marks_set : (bound n : ℕ) (old new : List ℕ) → n < bound → IsSet n old new → marks_of bound new ≡ set (marks_of bound old) n true
marks_set bound n old new below is =
    let was = length-marks bound old in
    let now = length-marks bound new in
    same_lists (marks_of bound new) (set (marks_of bound old) n true) (now ∙ sym was ∙ sym (length-set (marks_of bound old) n true))
    (λ k d inside.
    let small : k < bound = omega arith in
    mark_at bound new k d small ∙
    ⊎_elim
    (λ (same : k ≡ n).
    ap (λ i. eqb (bit_of_words new i) 1) same ∙ eq-eqb (bit_of_words new n) 1 is.on ∙
    sym (ap (λ i. get_or (set (marks_of bound old) n true) i d) same ∙ get_or-set_same (marks_of bound old) n true d (omega arith)))
    (λ (other : k ≢ n).
    ap (λ b. eqb b 1) (is.others k other) ∙ sym (mark_at bound old k d small) ∙
    sym (get_or-set_other (marks_of bound old) n k true d other))
    (cases_eq k n))

pub set_words : (bound n : ℕ) (old new : List ℕ) → n < bound → IsSet n old new → AreWords bound old → AreWords bound new
set_words bound n old new below is are = record {
  some = are.some;
  count = is.len ∙ are.count;
  rest = λ k past. is.others k (λ e. absurd (omega arith)) ∙ are.rest k past;
}

-- ---- bits of either

joined_bit : (n : ℕ) (old others new : List ℕ) → n / 64 < length old → AreJoined 0 (length old) old others new → eqb (bit_of_words new n) 1 ≡ (eqb (bit_of_words old n) 1 || eqb (bit_of_words others n) 1)
joined_bit n old others new within is =
    let either = ap (λ w. bit_at w (n % 64)) (is.joined (n / 64) (omega arith) within) in
    let one = bit_at-lt (get_or old (n / 64) 0) (n % 64) in
    let two = bit_at-lt (get_or others (n / 64) 0) (n % 64) in
    let or = bit_at_or (get_or old (n / 64) 0) (get_or others (n / 64) 0) (n % 64) in
    grind (arith, nat_tests)

pub marks_joined : (bound : ℕ) (old others new : List ℕ) → AreWords bound old → AreJoined 0 (length old) old others new → marks_of bound new ≡ union (marks_of bound old) (marks_of bound others)
marks_joined bound old others new are is =
    let was = length-marks bound old in
    let theirs = length-marks bound others in
    union_by_numbers (marks_of bound new) (marks_of bound old) (marks_of bound others) (length-marks bound new ∙ sym was) (was ∙ sym theirs)
    (λ k inside.
    let small : k < bound = omega arith in
    let within : k / 64 < length old = omega (arith, are.count) in
    mark_at bound new k false small ∙ joined_bit k old others new within is ∙
    ap (λ b. b || eqb (bit_of_words others k) 1) (sym (mark_at bound old k false small)) ∙
    ap (λ b. is_in_set (marks_of bound old) k || b) (sym (mark_at bound others k false small)))

past_bit : (n : ℕ) (old others new : List ℕ) → AreJoined 0 (length old) old others new → bit_of_words old n ≡ 0 → bit_of_words others n ≡ 0 → bit_of_words new n ≡ 0
past_bit n old others new is first second =
    ⊎_elim
    (λ (within : n / 64 < length old).
    let either = ap (λ w. bit_at w (n % 64)) (is.joined (n / 64) (omega arith) within) in
    let or = bit_at_or (get_or old (n / 64) 0) (get_or others (n / 64) 0) (n % 64) in
    omega arith)
    (λ (past : length old ≤ n / 64). ap (λ w. bit_at w (n % 64)) (is.behind (n / 64) past) ∙ first)
    (cases_lt (n / 64) (length old))

pub joined_words : (bound : ℕ) (old others new : List ℕ) → AreWords bound old → AreWords bound others → AreJoined 0 (length old) old others new → AreWords bound new
joined_words bound old others new are ours is = record {
  some = are.some;
  count = is.len ∙ are.count;
  rest = λ n past. past_bit n old others new is (are.rest n past) (ours.rest n past);
}

-- ---- bits of both

-- a number in a set is below the bound
within_marks : (marks : List Bool) (n : ℕ) → is_in_set marks n ≡ true → n < length marks
within_marks [] n on = absurd (false≢true on)
within_marks (x ∷ marks) zero on = omega arith
within_marks (x ∷ marks) (suc n) on = let later = within_marks marks n on in omega arith

pub meets_of_words : (bound : ℕ) (a b : List ℕ) → AreWords bound a → ShareBit a b ↔ Meets (marks_of bound a) (marks_of bound b)
meets_of_words bound a b are = (
  λ share.
      let n = share.0 in
      let below : n < bound = ⊎_elim (λ (y : n < bound). y) (λ (past : bound ≤ n). absurd (omega (arith, are.rest n past, share.1))) (cases_lt n bound) in
      (n, mark_at bound a n false below ∙ eq-eqb _ 1 share.1, mark_at bound b n false below ∙ eq-eqb _ 1 share.2),
  λ meets.
      let n = meets.0 in
      let below : n < bound = omega (arith, within_marks (marks_of bound a) n meets.1, length-marks bound a) in
      (n, eqb-true _ _ (sym (mark_at bound a n false below) ∙ meets.1), eqb-true _ _ (sym (mark_at bound b n false below) ∙ meets.2)),
)
