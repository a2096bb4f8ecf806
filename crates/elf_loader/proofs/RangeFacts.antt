-- The ranges that instructions may be fetched from.
use Rattle.std.proofs.Common.{◌≡◌, ℕ, zero, suc, ◌+◌, ◌<◌, ◌≤◌, Bool, true, false, cond, List, [], ◌∷◌, ◌++◌, length, get_or, take, map, refl, sym, ap, ◌∙◌, subst, arith}
use Rattle.std.specs.Prelude.{All}
use Rattle.std.specs.List.{filter}
use Rattle.std.proofs.lemmas.Bool.Decides.{nat_tests}
use Rattle.std.proofs.lemmas.List.{take_more}
use Rattle.rv32_hart.specs.Code.{IsRangeIn}
use Rattle.elf_loader.specs.declared.segment.Segment.{Segment}
use Rattle.elf_loader.specs.Loaded.{fetch_ranges, range_of}
use Rattle.elf_loader.specs.Segments.{is_fetchable, is_bad, is_outside}

-- the ranges of a segment and of those behind it, and of those before it and of a segment
abbrev pub with_range : Bool → Segment → List (ℕ × ℕ) → List (ℕ × ℕ)
with_range true s ranges = range_of s ∷ ranges
with_range false s ranges = ranges

pub fetch_ranges-cons : (s : Segment) (segments : List Segment) → fetch_ranges (s ∷ segments) ≡ with_range (is_fetchable s) s (fetch_ranges segments)
fetch_ranges-cons s segments = go (is_fetchable s)
  where
    go : (b : Bool) → map range_of (cond b (s ∷ filter is_fetchable segments) (filter is_fetchable segments)) ≡ with_range b s (fetch_ranges segments)
    go true = refl
    go false = refl

with_range-append : (b : Bool) (s : Segment) (front back : List (ℕ × ℕ)) → with_range b s (front ++ back) ≡ with_range b s front ++ back
with_range-append true s front back = refl
with_range-append false s front back = refl

-- one segment more
pub fetch_ranges-push : (segments : List Segment) (s : Segment)
    → fetch_ranges (segments ++ s ∷ []) ≡ fetch_ranges segments ++ with_range (is_fetchable s) s []
fetch_ranges-push [] s = fetch_ranges-cons s []
fetch_ranges-push (t ∷ segments) s =
    fetch_ranges-cons t (segments ++ s ∷ []) ∙ ap (with_range (is_fetchable t) t) (fetch_ranges-push segments s)
    ∙ with_range-append (is_fetchable t) t (fetch_ranges segments) (with_range (is_fetchable s) s [])
    ∙ ap (λ (r : List (ℕ × ℕ)). r ++ with_range (is_fetchable s) s []) (sym (fetch_ranges-cons t segments))

pub fetch_ranges_more : (segments : List Segment) (i : ℕ) (d s : Segment) (b : Bool) → i < length segments → s ≡ get_or segments i d → is_fetchable s ≡ b
    → fetch_ranges (take (i + 1) segments) ≡ fetch_ranges (take i segments) ++ with_range b s []
fetch_ranges_more segments i d s b h is fetchable =
    ap fetch_ranges (take_more segments i d h ∙ ap (λ t. take i segments ++ t ∷ []) (sym is)) ∙ fetch_ranges-push (take i segments) s
    ∙ ap (λ c. fetch_ranges (take i segments) ++ with_range c s []) fetchable

-- there are no more of them than segments
length-with_range : (b : Bool) (s : Segment) (ranges : List (ℕ × ℕ)) → length (with_range b s ranges) ≤ suc (length ranges)
length-with_range true s ranges = omega arith
length-with_range false s ranges = omega arith

pub length-fetch_ranges : (segments : List Segment) → length (fetch_ranges segments) ≤ length segments
length-fetch_ranges [] = omega arith
length-fetch_ranges (t ∷ segments) =
    let rest = length-fetch_ranges segments in
    omega (arith, ap length (fetch_ranges-cons t segments), length-with_range (is_fetchable t) t (fetch_ranges segments))

-- and each lies in memory
range_in : (file_bytes base size : ℕ) (s : Segment) → is_bad file_bytes s ≡ false → is_outside base size s ≡ false → is_fetchable s ≡ true
    → IsRangeIn base size (range_of s)
range_in file_bytes base size s good inside fetchable = record { some = grind (arith, nat_tests); from = grind (arith, nat_tests); to = grind (arith, nat_tests) }

all_front : {X : Type 0} (P : X → Type 0) (x : X) (xs : List X) → P x → All P xs → All P (x ∷ xs)
all_front P x xs here rest zero d h = here
all_front P x xs here rest (suc k) d h = rest k d (omega arith)

first_of : {X : Type 0} (P : X → Type 0) (x : X) (xs : List X) → All P (x ∷ xs) → P x
first_of P x xs all = all zero x (omega arith)

rest_of : {X : Type 0} (P : X → Type 0) (x : X) (xs : List X) → All P (x ∷ xs) → All P xs
rest_of P x xs all k d h = all (suc k) d (omega arith)

with_range_in : (base size : ℕ) (b : Bool) (s : Segment) (ranges : List (ℕ × ℕ)) → (b ≡ true → IsRangeIn base size (range_of s))
    → All (IsRangeIn base size) ranges → All (IsRangeIn base size) (with_range b s ranges)
with_range_in base size true s ranges here rest = all_front (IsRangeIn base size) (range_of s) ranges (here refl) rest
with_range_in base size false s ranges here rest = rest

pub ranges_in : (file_bytes base size : ℕ) (segments : List Segment) → All (λ s. is_bad file_bytes s ≡ false) segments
    → All (λ s. is_outside base size s ≡ false) segments → All (IsRangeIn base size) (fetch_ranges segments)
ranges_in file_bytes base size [] good inside = λ k d h. absurd (omega arith)
ranges_in file_bytes base size (t ∷ segments) good inside =
    let Good : Segment → Type 0 = λ s. is_bad file_bytes s ≡ false in
    let Inside : Segment → Type 0 = λ s. is_outside base size s ≡ false in
    let rest = ranges_in file_bytes base size segments (rest_of Good t segments good) (rest_of Inside t segments inside) in
    subst (All (IsRangeIn base size)) (sym (fetch_ranges-cons t segments))
    (with_range_in base size (is_fetchable t) t (fetch_ranges segments)
    (range_in file_bytes base size t (first_of Good t segments good) (first_of Inside t segments inside)) rest)
