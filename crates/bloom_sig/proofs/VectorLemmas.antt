-- Words taken a vector at a time.
use Rattle.std.proofs.Common.{◌≡◌, ◌≢◌, ℕ, zero, suc, ◌+◌, ◌-◌, ◌*◌, ◌/◌, ◌%◌, ◌^◌, ◌<◌, ◌≤◌, ◌⊎◌, inl, inr, ◌↔◌, List, [], ◌∷◌, length, get_or, sym, ap, ◌∙◌, refl, ⊎_elim, arith, not, eqb}
use Rattle.std.specs.Prelude.{bit_or, bit_and, IsTrue}
use Rattle.std.specs.Int.{bit_at, w64, trailing_zeros}
use Rattle.std.proofs.lemmas.Nat.{and_le_l}
use Rattle.std.specs.Simd.Lanes.{chunk, put_chunk, zip2, fold_l}
use Rattle.std.proofs.lemmas.Simd.{length-zip2, length-chunk, length-put_chunk, get_or-chunk, get_or-zip2, get_or-put_chunk_below, get_or-put_chunk_at, get_or-put_chunk_above}
use Rattle.std.proofs.lemmas.Nat.Bits.{bit_at_or, bit_at_and, bit_at-lt, bit_at-zero, bit_at-trailing_zeros, same_from_bits}
use Rattle.std.proofs.lemmas.Bool.{false≢true, cases_eq, cases_lt, ne_eqb}
use Rattle.bloom_sig.specs.Words.{AreDisjoint, AreJoined, ShareBit, bit_of_words}

-- ---- an or that is 0

or_left_zero : (a b : ℕ) → bit_or a b ≡ 0 → a ≡ 0
or_left_zero a b none =
    same_from_bits a 0 (λ i.
    let or = bit_at_or a b i in
    let bit : bit_at (bit_or a b) i ≡ bit_at 0 i = ap (λ w. bit_at w i) none in
    let zero = bit_at-zero i in
    omega arith)

or_right_zero : (a b : ℕ) → bit_or a b ≡ 0 → b ≡ 0
or_right_zero a b none =
    same_from_bits b 0 (λ i.
    let or = bit_at_or a b i in
    let bit : bit_at (bit_or a b) i ≡ bit_at 0 i = ap (λ w. bit_at w i) none in
    let zero = bit_at-zero i in
    omega arith)

or_zeros : (a b : ℕ) → a ≡ 0 → b ≡ 0 → bit_or a b ≡ 0
or_zeros a b first second = ap (λ x. bit_or x b) first ∙ ap (bit_or 0) second

-- ---- bits in common

-- two runs of words, one behind the other
pub apart-append : (first second from middle until : ℕ) (a b : List ℕ) → from ≤ middle → middle ≤ until → (first ≡ 0) ↔ AreDisjoint from middle a b → (second ≡ 0) ↔ AreDisjoint middle until a b → (bit_or first second ≡ 0) ↔ AreDisjoint from until a b
apart-append first second from middle until a b up on one two = (
  λ none k above below.
      ⊎_elim
      (λ (early : k < middle). one.0 (or_left_zero first second none) k above early)
      (λ (late : middle ≤ k). two.0 (or_right_zero first second none) k late below)
      (cases_lt k middle),
  λ apart.
      or_zeros first second
      (one.1 (λ k above below. apart k above (omega arith)))
      (two.1 (λ k above below. apart k (omega arith) below)),
)

-- one word
pub apart_word : (k : ℕ) (a b : List ℕ) → (bit_and (get_or a k 0) (get_or b k 0) ≡ 0) ↔ AreDisjoint k (k + 1) a b
apart_word k a b = (
  λ none i above below. let same : i ≡ k = omega arith in rw same none,
  λ apart. apart k (omega arith) (omega arith),
)

abbrev or_of : List ℕ → ℕ → ℕ
or_of xs start = fold_l bit_or start xs

or_of-zero : (xs : List ℕ) (start : ℕ) → or_of xs start ≡ 0 → (start ≡ 0) × ((k : ℕ) → get_or xs k 0 ≡ 0)
or_of-zero [] start none = (none, λ k. refl)
or_of-zero (x ∷ xs) start none =
    let later = or_of-zero xs (bit_or start x) none in
    (or_left_zero start x later.0, each xs x (or_right_zero start x later.0) later.1)
  where
    each : (xs : List ℕ) (x : ℕ) → x ≡ 0 → ((k : ℕ) → get_or xs k 0 ≡ 0) → (k : ℕ) → get_or (x ∷ xs) k 0 ≡ 0
    each xs x here rest zero = here
    each xs x here rest (suc k) = rest k

or_of-zeros : (xs : List ℕ) (start : ℕ) → start ≡ 0 → ((k : ℕ) → k < length xs → get_or xs k 0 ≡ 0) → or_of xs start ≡ 0
or_of-zeros [] start none each = none
or_of-zeros (x ∷ xs) start none each =
    or_of-zeros xs (bit_or start x) (or_zeros start x none (each 0 (omega arith))) (λ k below. each (suc k) (omega arith))

and_at : (at k : ℕ) (a b : List ℕ) → at + 4 ≤ length a → at + 4 ≤ length b → k < 4 → get_or (zip2 bit_and (chunk at 4 a) (chunk at 4 b)) k 0 ≡ bit_and (get_or a (at + k) 0) (get_or b (at + k) 0)
and_at at k a b room other below =
    let first = length-chunk at 4 a room in
    let second = length-chunk at 4 b other in
    get_or-zip2 bit_and (chunk at 4 a) (chunk at 4 b) k 0 0 0 (omega arith) (omega arith) ∙
    ap (λ w. bit_and w (get_or (chunk at 4 b) k 0)) (get_or-chunk at 4 a k 0 below) ∙
    ap (bit_and (get_or a (at + k) 0)) (get_or-chunk at 4 b k 0 below)

length-and : (at : ℕ) (a b : List ℕ) → at + 4 ≤ length a → at + 4 ≤ length b → length (zip2 bit_and (chunk at 4 a) (chunk at 4 b)) ≡ 4
length-and at a b room other =
    let first = length-chunk at 4 a room in
    let second = length-chunk at 4 b other in
    length-zip2 bit_and (chunk at 4 a) (chunk at 4 b) (omega arith) ∙ first

-- one vector
pub apart_vector : (at : ℕ) (a b : List ℕ) → at + 4 ≤ length a → at + 4 ≤ length b → (fold_l bit_or 0 (zip2 bit_and (chunk at 4 a) (chunk at 4 b)) ≡ 0) ↔ AreDisjoint at (at + 4) a b
apart_vector at a b room other = (
  λ none k above below.
      let here : at + (k - at) ≡ k = omega arith in
      let bits = and_at at (k - at) a b room other (omega arith) in
      let lane = (or_of-zero (zip2 bit_and (chunk at 4 a) (chunk at 4 b)) 0 none).1 (k - at) in
      rw here at (sym bits ∙ lane),
  λ apart.
      let len = length-and at a b room other in
      or_of-zeros (zip2 bit_and (chunk at 4 a) (chunk at 4 b)) 0 refl
      (λ k below. and_at at k a b room other (omega arith) ∙ apart (at + k) (omega arith) (omega arith)),
)

pub apart_next : (first second i : ℕ) (a b : List ℕ) → (first ≡ 0) ↔ AreDisjoint 0 (i * 4) a b → (second ≡ 0) ↔ AreDisjoint (i * 4) (i * 4 + 4) a b → (bit_or first second ≡ 0) ↔ AreDisjoint 0 ((i + 1) * 4) a b
apart_next first second i a b one two =
    let next : (i + 1) * 4 ≡ i * 4 + 4 = omega arith in
    rw next (apart-append first second 0 (i * 4) (i * 4 + 4) a b (omega arith) (omega arith) one two)

-- a word with a bit in common, if there is one
find_shared : (count : ℕ) (a b : List ℕ) → AreDisjoint 0 count a b ⊎ ((k : ℕ) × (k < count) × (bit_and (get_or a k 0) (get_or b k 0) ≢ 0))
find_shared zero a b = inl (λ k above below. absurd (omega arith))
find_shared (suc count) a b = go (find_shared count a b) (cases_eq (bit_and (get_or a count 0) (get_or b count 0)) 0)
  where
    go : AreDisjoint 0 count a b ⊎ ((k : ℕ) × (k < count) × (bit_and (get_or a k 0) (get_or b k 0) ≢ 0)) → (bit_and (get_or a count 0) (get_or b count 0) ≡ 0) ⊎ (bit_and (get_or a count 0) (get_or b count 0) ≢ 0) → AreDisjoint 0 (suc count) a b ⊎ ((k : ℕ) × (k < suc count) × (bit_and (get_or a k 0) (get_or b k 0) ≢ 0))
    go (inr found) last = inr (found.0, omega (arith, found.1), found.2)
    go (inl apart) (inr shared) = inr (count, omega arith, shared)
    go (inl apart) (inl none) = inl (λ k above below.
        ⊎_elim
        (λ (same : k ≡ count). rw same none)
        (λ (other : k ≢ count). apart k above (omega arith))
        (cases_eq k count))

-- a word with bits in common tells one of them
shared_bit : (a b : List ℕ) (k : ℕ) → get_or a k 0 < 2 ^ 64 → bit_and (get_or a k 0) (get_or b k 0) ≢ 0 → ShareBit a b
shared_bit a b k fits some =
    let both : ℕ = bit_and (get_or a k 0) (get_or b k 0) in
    let small : both < 2 ^ 64 = omega (arith, and_le_l (get_or a k 0) (get_or b k 0)) in
    let low = bit_at-trailing_zeros w64 both (omega arith) small in
    let i : ℕ = trailing_zeros w64 both in
    let n : ℕ = 64 * k + i in
    let ones = bit_at_and (get_or a k 0) (get_or b k 0) i in
    let word : n / 64 ≡ k = omega (arith, low.0) in
    let place : n % 64 ≡ i = omega (arith, low.0) in
    let one : bit_of_words a n ≡ 1 = rw word (rw place (omega (arith, bit_at-lt (get_or a k 0) i))) in
    let two : bit_of_words b n ≡ 1 = rw word (rw place (omega (arith, bit_at-lt (get_or b k 0) i))) in
    (n, one, two)

-- and a bit in common its word
word_shared : (a b : List ℕ) (n : ℕ) → bit_of_words a n ≡ 1 → bit_of_words b n ≡ 1 → bit_and (get_or a (n / 64) 0) (get_or b (n / 64) 0) ≢ 0
word_shared a b n one two none =
    let both = bit_at_and (get_or a (n / 64) 0) (get_or b (n / 64) 0) (n % 64) in
    let zero = bit_at-zero (n % 64) in
    let at : bit_at (bit_and (get_or a (n / 64) 0) (get_or b (n / 64) 0)) (n % 64) ≡ bit_at 0 (n % 64) = ap (λ w. bit_at w (n % 64)) none in
    omega arith

past_zero : (words : List ℕ) (k : ℕ) → length words ≤ k → ◌≡◌ {A = ℕ} (get_or words k 0) 0
past_zero [] k past = refl
past_zero (w ∷ words) zero past = absurd (omega arith)
past_zero (w ∷ words) (suc k) past = past_zero words k (omega arith)

-- a bit that is 1 is in some word
within_words : (words : List ℕ) (n : ℕ) → bit_of_words words n ≡ 1 → n / 64 < length words
within_words words n one =
    ⊎_elim
    (λ (within : n / 64 < length words). within)
    (λ (past : length words ≤ n / 64).
    let none : bit_of_words words n ≡ bit_at 0 (n % 64) = ap (λ w. bit_at w (n % 64)) (past_zero words (n / 64) past) in
    absurd (omega (arith, bit_at-zero (n % 64))))
    (cases_lt (n / 64) (length words))

not_zero : (n : ℕ) → IsTrue (not (eqb n 0)) → n ≢ 0
not_zero zero is none = false≢true is
not_zero (suc n) is none = absurd (omega arith)

is_not_zero : (n : ℕ) → n ≢ 0 → IsTrue (not (eqb n 0))
is_not_zero n some = ap not (ne_eqb n 0 some)

pub share_a_bit-from : (common : ℕ) (a b : List ℕ) → ((k : ℕ) → get_or a k 0 < 2 ^ 64) → (common ≡ 0) ↔ AreDisjoint 0 (length a) a b → IsTrue (not (eqb common 0)) ↔ ShareBit a b
share_a_bit-from common a b fits is = (
  λ some.
      ⊎_elim
      (λ (apart : AreDisjoint 0 (length a) a b). absurd (not_zero common some (is.1 apart)))
      (λ (found : (k : ℕ) × (k < length a) × (bit_and (get_or a k 0) (get_or b k 0) ≢ 0)). shared_bit a b found.0 (fits found.0) found.2)
      (find_shared (length a) a b),
  λ share.
      is_not_zero common
      (λ none. word_shared a b share.0 share.1 share.2 (is.0 none (share.0 / 64) (omega arith) (within_words a share.0 share.1))),
)

-- ---- joined words

joined_vector : (at : ℕ) (old others new before : List ℕ) → at + 4 ≤ length old → length old ≡ length others → AreJoined 0 at before others old → new ≡ put_chunk at old (zip2 bit_or (chunk at 4 old) (chunk at 4 others)) → AreJoined 0 (at + 4) before others new
joined_vector at old others new before room same is put =
    let mine = length-chunk at 4 old room in
    let theirs = length-chunk at 4 others (omega arith) in
    let lanes : List ℕ = zip2 bit_or (chunk at 4 old) (chunk at 4 others) in
    let four : length lanes ≡ 4 = length-zip2 bit_or (chunk at 4 old) (chunk at 4 others) (omega arith) ∙ mine in
    record {
      len = ap length put ∙ length-put_chunk at old lanes ∙ is.len;
      joined = λ k above below.
          ap (λ ws. get_or ws k 0) put ∙
          ⊎_elim
          (λ (early : k < at). get_or-put_chunk_below at old lanes k 0 early ∙ is.joined k above early)
          (λ (late : at ≤ k).
          let here : at + (k - at) ≡ k = omega arith in
          let lane = get_or-put_chunk_at at old lanes (k - at) 0 (omega arith) (omega arith) in
          let or = get_or-zip2 bit_or (chunk at 4 old) (chunk at 4 others) (k - at) 0 0 0 (omega arith) (omega arith) in
          let one = get_or-chunk at 4 old (k - at) 0 (omega arith) in
          let two = get_or-chunk at 4 others (k - at) 0 (omega arith) in
          let all : get_or (put_chunk at old lanes) (at + (k - at)) 0 ≡ bit_or (get_or old (at + (k - at)) 0) (get_or others (at + (k - at)) 0) = lane ∙ or ∙ ap (λ w. bit_or w (get_or (chunk at 4 others) (k - at) 0)) one ∙ ap (bit_or (get_or old (at + (k - at)) 0)) two in
          (rw here at all) ∙ ap (λ w. bit_or w (get_or others k 0)) (is.behind k late))
          (cases_lt k at);
      before = λ k below. absurd (omega arith);
      behind = λ k past. ap (λ ws. get_or ws k 0) put ∙ get_or-put_chunk_above at old lanes k 0 (omega arith) ∙ is.behind k (omega arith);
    }

pub joined_next : (i : ℕ) (old others new before : List ℕ) → i * 4 + 4 ≤ length old → length old ≡ length others → AreJoined 0 (i * 4) before others old → new ≡ put_chunk (i * 4) old (zip2 bit_or (chunk (i * 4) 4 old) (chunk (i * 4) 4 others)) → AreJoined 0 ((i + 1) * 4) before others new
joined_next i old others new before room same is put =
    let next : (i + 1) * 4 ≡ i * 4 + 4 = omega arith in
    rw next (joined_vector (i * 4) old others new before room same is put)
