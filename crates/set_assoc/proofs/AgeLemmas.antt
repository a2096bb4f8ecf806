-- Ages of places, and the places by their ages.
use Rattle.std.proofs.Common.{◌≡◌, ◌≢◌, ℕ, zero, suc, ◌+◌, ◌-◌, ◌<◌, ◌≤◌, Bool, true, false, cond, ltb, List, Some, None, length, get_or, set, eqb, sym, ap, ◌∙◌, refl, ⊎_elim, arith, add-one}
use Rattle.std.proofs.lemmas.List.{get_or-set_same, get_or-set_other, length-set}
use Rattle.std.specs.List.{position}
use Rattle.std.proofs.lemmas.List.Sums.{position_or_len_is, prefix_len-le-length}
use Rattle.std.proofs.lemmas.Bool.{cases_eq, cases_lt, eq-eqb, ne_eqb, lt-ltb, le-ltb, ltb-false}
use Rattle.set_assoc.specs.Ages.{place_of_age, AreAges, IsRaised, IsLowered}

-- the first place with an age is the only one
pub place_is : (ages : List ℕ) (n : ℕ) (place : ℕ → ℕ) (age : ℕ) → AreAges ages n place → age < n → place_of_age ages age ≡ place age
place_is ages n place age are small =
    let here = are.by_age age small in
    position_or_len_is (λ a. eqb a age) ages (place age) 0 (omega (arith, are.within, here.0))
    (λ k before. ne_eqb (get_or ages k 0) age (λ (same : get_or ages k 0 ≡ age).
    let back = (are.by_place k (omega (arith, here.0))).1 in
    let is : place age ≡ k = ap place (sym same) ∙ back in omega arith))
    (λ _. eq-eqb (get_or ages (place age) 0) age here.1)

pub AreAges-found : (ages : List ℕ) (n : ℕ) (place : ℕ → ℕ) → AreAges ages n place → AreAges ages n (place_of_age ages)
AreAges-found ages n place are = record {
  within = are.within;
  by_age = λ age small. rw (place_is ages n place age are small) (are.by_age age small);
  by_place = λ p below. let there = are.by_place p below in (there.0, place_is ages n place (get_or ages p 0) are there.0 ∙ there.1);
}

-- the places once p, of age a, is the most recent
abbrev pub raised_place : (ℕ → ℕ) → ℕ → ℕ → ℕ → ℕ
raised_place place p a zero = p
raised_place place p a (suc v) = cond (ltb v a) (place v) (place (suc v))

-- the places once p, of age a, is the oldest of n
abbrev pub lowered_place : (ℕ → ℕ) → ℕ → ℕ → ℕ → ℕ → ℕ
lowered_place place p a n v = cond (ltb v a) (place v) (cond (ltb (suc v) n) (place (suc v)) p)

pub raised_young : (place : ℕ → ℕ) (p a v : ℕ) → v < a → raised_place place p a (suc v) ≡ place v
raised_young place p a v young = rw (lt-ltb v a young) refl

pub raised_old : (place : ℕ → ℕ) (p a v : ℕ) → a < v → raised_place place p a v ≡ place v
raised_old place p a zero old = absurd (omega arith)
raised_old place p a (suc u) old = rw (le-ltb u a (omega arith)) refl

-- what place p, and another place, become
raised_mine : (ages new : List ℕ) (n p : ℕ) (place : ℕ → ℕ) → p < n → IsRaised ages p new → (q : ℕ) → q ≡ p → (get_or new q 0 < n) × (raised_place place p (get_or ages p 0) (get_or new q 0) ≡ q)
raised_mine ages new n p place within raised q same =
    let now : get_or new q 0 ≡ 0 = ap (λ x. get_or new x 0) same ∙ raised.here in
    (omega arith, ap (λ x. raised_place place p (get_or ages p 0) x) now ∙ sym same)

raised_other : (ages new : List ℕ) (n p : ℕ) (place : ℕ → ℕ) → AreAges ages n place → p < n → IsRaised ages p new → (q : ℕ) → q < n → q ≢ p → (get_or new q 0 < n) × (raised_place place p (get_or ages p 0) (get_or new q 0) ≡ q)
raised_other ages new n p place are within raised q below other =
    let a : ℕ = get_or ages p 0 in
    let mine = are.by_place p within in
    let his = are.by_place q below in
    let unlike : get_or ages q 0 ≢ a = λ same. other (sym his.1 ∙ ap place same ∙ mine.1) in
    ⊎_elim
    (λ (young : get_or ages q 0 < a).
    let now : get_or new q 0 ≡ suc (get_or ages q 0) = raised.below q other (omega (arith, are.within)) young ∙ add-one (get_or ages q 0) in
    (omega (arith, mine.0), ap (λ x. raised_place place p a x) now ∙ raised_young place p a (get_or ages q 0) young ∙ his.1))
    (λ (old : a ≤ get_or ages q 0).
    let now : get_or new q 0 ≡ get_or ages q 0 = raised.above q other old in
    (omega (arith, his.0), ap (λ x. raised_place place p a x) now ∙ raised_old place p a (get_or ages q 0) (omega arith) ∙ his.1))
    (cases_lt (get_or ages q 0) a)

raised_by_age : (ages new : List ℕ) (n p : ℕ) (place : ℕ → ℕ) → AreAges ages n place → p < n → IsRaised ages p new → (age : ℕ) → age < n → (raised_place place p (get_or ages p 0) age < n) × (get_or new (raised_place place p (get_or ages p 0) age) 0 ≡ age)
raised_by_age ages new n p place are within raised zero small = (within, raised.here)
raised_by_age ages new n p place are within raised (suc v) small =
    let a : ℕ = get_or ages p 0 in
    let mine = are.by_place p within in
    ⊎_elim
    (λ (young : v < a).
    let there = are.by_age v (omega arith) in
    let other : place v ≢ p = λ same. let e : v ≡ a = sym there.1 ∙ ap (λ x. get_or ages x 0) same in omega arith in
    rw (lt-ltb v a young) (there.0, raised.below (place v) other (omega (arith, are.within, there.0)) (omega (arith, there.1)) ∙ ap (λ x. x + 1) there.1 ∙ add-one v))
    (λ (old : a ≤ v).
    let there = are.by_age (suc v) small in
    let other : place (suc v) ≢ p = λ same. let e : suc v ≡ a = sym there.1 ∙ ap (λ x. get_or ages x 0) same in omega arith in
    rw (le-ltb v a old) (there.0, raised.above (place (suc v)) other (omega (arith, there.1)) ∙ there.1))
    (cases_lt v a)

pub AreAges-raised : (ages new : List ℕ) (n p : ℕ) (place : ℕ → ℕ) → AreAges ages n place → p < n → IsRaised ages p new → AreAges new n (raised_place place p (get_or ages p 0))
AreAges-raised ages new n p place are within raised = record {
  within = omega (arith, are.within, raised.len);
  by_age = raised_by_age ages new n p place are within raised;
  by_place = λ q below. ⊎_elim (raised_mine ages new n p place within raised q) (raised_other ages new n p place are within raised q below) (cases_eq q p);
}

-- the same for a place that becomes the oldest
pub lowered_young : (place : ℕ → ℕ) (p a n v : ℕ) → v < a → lowered_place place p a n v ≡ place v
lowered_young place p a n v young = rw (lt-ltb v a young) refl

pub lowered_old : (place : ℕ → ℕ) (p a n v : ℕ) → a ≤ v → suc v < n → lowered_place place p a n v ≡ place (suc v)
lowered_old place p a n v old small = rw (le-ltb v a old) (rw (lt-ltb (suc v) n small) refl)

lowered_last : (place : ℕ → ℕ) (p a n v : ℕ) → a ≤ v → n ≤ suc v → lowered_place place p a n v ≡ p
lowered_last place p a n v old last = rw (le-ltb v a old) (rw (le-ltb (suc v) n last) refl)

lowered_mine : (ages new : List ℕ) (n p : ℕ) (place : ℕ → ℕ) → AreAges ages n place → p < n → IsLowered ages p n new → (q : ℕ) → q ≡ p → (get_or new q 0 < n) × (lowered_place place p (get_or ages p 0) n (get_or new q 0) ≡ q)
lowered_mine ages new n p place are within lowered q same =
    let mine = are.by_place p within in
    let now : get_or new q 0 ≡ n - 1 = ap (λ x. get_or new x 0) same ∙ lowered.here in
    (omega arith, ap (λ x. lowered_place place p (get_or ages p 0) n x) now ∙ lowered_last place p (get_or ages p 0) n (n - 1) (omega (arith, mine.0)) (omega arith) ∙ sym same)

lowered_other : (ages new : List ℕ) (n p : ℕ) (place : ℕ → ℕ) → AreAges ages n place → p < n → IsLowered ages p n new → (q : ℕ) → q < n → q ≢ p → (get_or new q 0 < n) × (lowered_place place p (get_or ages p 0) n (get_or new q 0) ≡ q)
lowered_other ages new n p place are within lowered q below other =
    let a : ℕ = get_or ages p 0 in
    let mine = are.by_place p within in
    let his = are.by_place q below in
    let unlike : get_or ages q 0 ≢ a = λ same. other (sym his.1 ∙ ap place same ∙ mine.1) in
    ⊎_elim
    (λ (old : a < get_or ages q 0).
    let now : get_or new q 0 + 1 ≡ get_or ages q 0 = lowered.above q other old in
    (omega (arith, his.0), lowered_old place p a n (get_or new q 0) (omega arith) (omega (arith, his.0)) ∙ ap place (sym (add-one (get_or new q 0)) ∙ now) ∙ his.1))
    (λ (young : get_or ages q 0 ≤ a).
    let now : get_or new q 0 ≡ get_or ages q 0 = lowered.below q other young in
    (omega (arith, his.0), ap (λ x. lowered_place place p a n x) now ∙ lowered_young place p a n (get_or ages q 0) (omega arith) ∙ his.1))
    (cases_lt a (get_or ages q 0))

lowered_by_age : (ages new : List ℕ) (n p : ℕ) (place : ℕ → ℕ) → AreAges ages n place → p < n → IsLowered ages p n new → (age : ℕ) → age < n → (lowered_place place p (get_or ages p 0) n age < n) × (get_or new (lowered_place place p (get_or ages p 0) n age) 0 ≡ age)
lowered_by_age ages new n p place are within lowered v small =
    let a : ℕ = get_or ages p 0 in
    let mine = are.by_place p within in
    ⊎_elim
    (λ (young : v < a).
    let there = are.by_age v small in
    let other : place v ≢ p = λ same. let e : v ≡ a = sym there.1 ∙ ap (λ x. get_or ages x 0) same in omega arith in
    rw (lt-ltb v a young) (there.0, lowered.below (place v) other (omega (arith, there.1)) ∙ there.1))
    (λ (old : a ≤ v).
    rw (le-ltb v a old)
    (⊎_elim
    (λ (more : suc v < n).
    let there = are.by_age (suc v) more in
    let other : place (suc v) ≢ p = λ same. let e : suc v ≡ a = sym there.1 ∙ ap (λ x. get_or ages x 0) same in omega arith in
    let fell = lowered.above (place (suc v)) other (omega (arith, there.1)) in
    rw (lt-ltb (suc v) n more) (there.0, omega (arith, fell, there.1)))
    (λ (last : n ≤ suc v).
    rw (le-ltb (suc v) n last) (within, omega (arith, lowered.here)))
    (cases_lt (suc v) n)))
    (cases_lt v a)

pub AreAges-lowered : (ages new : List ℕ) (n p : ℕ) (place : ℕ → ℕ) → AreAges ages n place → p < n → IsLowered ages p n new → AreAges new n (lowered_place place p (get_or ages p 0) n)
AreAges-lowered ages new n p place are within lowered = record {
  within = omega (arith, are.within, lowered.len);
  by_age = lowered_by_age ages new n p place are within lowered;
  by_place = λ q below. ⊎_elim (lowered_mine ages new n p place are within lowered q) (lowered_other ages new n p place are within lowered q below) (cases_eq q p);
}

-- one more place, the oldest
abbrev pub more_place : (ℕ → ℕ) → ℕ → ℕ → ℕ
more_place place n v = cond (ltb v n) (place v) n

pub AreAges-more : (ages : List ℕ) (n : ℕ) (place : ℕ → ℕ) → AreAges ages n place → n < length ages → AreAges (set ages n n) (n + 1) (more_place place n)
AreAges-more ages n place are room = record {
  within = omega (arith, length-set ages n n);
  by_age = λ v small. ⊎_elim
      (λ (young : v < n).
      let there = are.by_age v young in
      let other : place v ≢ n = omega (arith, there.0) in
      rw (lt-ltb v n young) (omega (arith, there.0), get_or-set_other ages n (place v) n 0 other ∙ there.1))
      (λ (old : n ≤ v).
      let is : v ≡ n = omega arith in
      rw (le-ltb v n old) (omega arith, get_or-set_same ages n n 0 room ∙ sym is))
      (cases_lt v n);
  by_place = λ q below. ⊎_elim
      (λ (young : q < n).
      let his = are.by_place q young in
      let other : q ≢ n = omega arith in
      rw (get_or-set_other ages n q n 0 other) (omega (arith, his.0), rw (lt-ltb (get_or ages q 0) n his.0) his.1))
      (λ (old : n ≤ q).
      let is : q ≡ n = omega arith in
      rw is (rw (get_or-set_same ages n n 0 room) (omega arith, rw (le-ltb n n (omega arith)) refl)))
      (cases_lt q n);
}

-- an age that no place has
test_of_none : (b : Bool) (n : ℕ) → cond b (Some n) None ≡ None → b ≡ false
test_of_none true n h = cc
test_of_none false n h = refl

pub none_of_age : (ages : List ℕ) (age : ℕ) → None ≡ position (λ a. eqb a age) ages → length ages ≡ place_of_age ages age
none_of_age ages age none =
    let past : length ages ≤ place_of_age ages age = ltb-false (place_of_age ages age) (length ages) (test_of_none _ _ (sym none)) in
    let most : place_of_age ages age ≤ length ages = prefix_len-le-length _ ages in
    omega arith
