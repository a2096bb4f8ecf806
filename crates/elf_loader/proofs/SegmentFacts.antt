-- The first segment that breaks a rule, and what it means that none does.
use Rattle.std.proofs.Common.{◌≡◌, ℕ, ◌+◌, ◌*◌, ◌∷◌, [], ◌++◌, map, ◌<◌, ◌≤◌, Bool, true, false, cond, ltb, List, length, get_or, take, Some, None, refl, sym, ap, ◌∙◌, arith, zero-add}
use Rattle.std.specs.List.{position, position_or_len, range_with_len}
use Rattle.std.specs.Prelude.{All}
use Rattle.std.proofs.lemmas.Bool.Decides.{nat_tests}
use Rattle.std.proofs.lemmas.List.Sums.{position_or_len_is, fails_before_first}
use Rattle.std.proofs.lemmas.List.FromFn.{get_or-enumerate_from, length-enumerate_from, map-range_with_len_more}
use Rattle.elf_loader.specs.declared.segment.Segment.{Segment}
use Rattle.elf_loader.specs.Segments.{overlaps, numbered, overlaps_earlier, is_bad, is_outside, segment_at, IsLoadable}

-- where no element passes, none does
none_from_test : (at n : ℕ) (b : Bool) → ltb at n ≡ b → cond b (Some at) None ≡ None → n ≤ at
none_from_test at n true is h = cc
none_from_test at n false is h = grind (arith, nat_tests)

pub position-None : {X : Type 0} (p : X → Bool) (xs : List X) → position p xs ≡ None → All (λ x. p x ≡ false) xs
position-None p xs none k d h =
    let past : length xs ≤ position_or_len p xs = none_from_test (position_or_len p xs) (length xs) _ refl none in
    fails_before_first p xs k d (omega arith)

-- the first element that passes
pub position_is : {X : Type 0} (p : X → Bool) (xs : List X) (i : ℕ) (d : X) → i < length xs
    → ((k : ℕ) → k < i → p (get_or xs k d) ≡ false) → p (get_or xs i d) ≡ true → position p xs ≡ Some i
position_is p xs i d within before here =
    let at : position_or_len p xs ≡ i = position_or_len_is p xs i d (omega arith) before (λ _. here) in
    let found : ltb i (length xs) ≡ true = grind (arith, nat_tests) in
    rw (at, found) refl

pub position_is_none : {X : Type 0} (p : X → Bool) (xs : List X) (d : X)
    → ((k : ℕ) → k < length xs → p (get_or xs k d) ≡ false) → position p xs ≡ None
position_is_none p xs d all =
    let at : position_or_len p xs ≡ length xs = position_or_len_is p xs (length xs) d (omega arith) all (λ h. absurd (omega arith)) in
    let missed : ltb (length xs) (length xs) ≡ false = grind (arith, nat_tests) in
    rw (at, missed) refl

-- a segment with its number
pub overlaps_earlier_at : (segments : List Segment) (k : ℕ) (d : Segment) → k < length segments
    → overlaps_earlier segments (get_or (numbered segments) k (0, d)) ≡ overlaps (take k segments) (get_or segments k d)
overlaps_earlier_at segments k d h =
    ap (overlaps_earlier segments) (get_or-enumerate_from 0 segments k (0, d) h)
    ∙ ap (λ n. overlaps (take n segments) (get_or segments k d)) (zero-add k)

-- the first segment that overlaps one before it
pub first_overlap_is : (segments : List Segment) (i : ℕ) (d : Segment) → i < length segments
    → ((k : ℕ) (e : Segment) → k < i → overlaps (take k segments) (get_or segments k e) ≡ false)
    → overlaps (take i segments) (get_or segments i d) ≡ true → position (overlaps_earlier segments) (numbered segments) ≡ Some i
first_overlap_is segments i d within before here =
    let long = length-enumerate_from 0 segments in
    position_is (overlaps_earlier segments) (numbered segments) i (0, d) (omega arith)
    (λ k h. overlaps_earlier_at segments k d (omega arith) ∙ before k d h) (overlaps_earlier_at segments i d within ∙ here)

pub no_overlap : (segments : List Segment) (d : Segment)
    → ((k : ℕ) (e : Segment) → k < length segments → overlaps (take k segments) (get_or segments k e) ≡ false)
    → position (overlaps_earlier segments) (numbered segments) ≡ None
no_overlap segments d before =
    let long = length-enumerate_from 0 segments in
    position_is_none (overlaps_earlier segments) (numbered segments) (0, d)
    (λ k h. overlaps_earlier_at segments k d (omega arith) ∙ before k d (omega arith))

-- segments that break no rule can be loaded
pub loadable : (file_bytes base size : ℕ) (segments : List Segment) → position (is_bad file_bytes) segments ≡ None
    → position (is_outside base size) segments ≡ None → position (overlaps_earlier segments) (numbered segments) ≡ None
    → IsLoadable file_bytes base size segments
loadable file_bytes base size segments good inside apart =
    let long = length-enumerate_from 0 segments in
    record {
      good = position-None (is_bad file_bytes) segments good;
      inside = position-None (is_outside base size) segments inside;
      apart = λ k d h. sym (overlaps_earlier_at segments k d h)
          ∙ position-None (overlaps_earlier segments) (numbered segments) apart k (0, d) (omega arith);
    }

-- one program header more
pub segments_more : (file : List ℕ) (first n : ℕ) (old new : List Segment) (s : Segment)
    → old ≡ map (λ k. segment_at file (first + 32 * k)) (range_with_len 0 n) → s ≡ segment_at file (first + 32 * n) → new ≡ old ++ s ∷ []
    → new ≡ map (λ k. segment_at file (first + 32 * k)) (range_with_len 0 (n + 1))
segments_more file first n old new s was is more =
    more ∙ ap (λ xs. xs ++ s ∷ []) was ∙ ap (λ t. map (λ k. segment_at file (first + 32 * k)) (range_with_len 0 n) ++ t ∷ []) is
    ∙ sym (map-range_with_len_more (λ k. segment_at file (first + 32 * k)) 0 n n (zero-add n))
