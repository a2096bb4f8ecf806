-- The flat view, line by line.
use Rattle.std.proofs.Common.{◌≡◌, ℕ, zero, suc, ◌+◌, ◌-◌, ◌*◌, ◌<◌, ◌≤◌, ⊎_elim, List, [], ◌∷◌, ◌++◌, Option, Some, None, length, take, drop, sym, ap, ◌∙◌, refl, arith}
use Rattle.std.proofs.lemmas.List.{length-append, length-drop, length-take-le, drop_at, get_or_past, drop-append-le, take-append-le}
use Rattle.std.proofs.lemmas.Bool.{cases_lt}
use Rattle.std.proofs.Math.Nat.{mul-le-mul_left}
use Rattle.conda_base.specs.declared.Line.{Line}
use Rattle.conda_base.proofs.LineLemmas.{line_bytes_in_memory, whole_split, line_by_number}
use Rattle.cpu_cache.specs.Contents.{Content, content_of}
use Rattle.line_memory.specs.Memory.{IsIn, line_of}
use Rattle.line_memory.specs.Tags.{each_below}
use Rattle.line_memory.specs.Backing.{view_of}
use Rattle.line_memory.proofs.MemoryLemmas.{bytes_of_line-in}
use Rattle.coherent_mem.specs.Parts.{Parts, AreParts, cache_at, held, seen, seen_below, bytes_or, shown, first_line, line_count, line_at_place}
use Rattle.coherent_mem.proofs.PartFacts.{place_in}

-- lists of one length, end to end
pub length_each : (n count : ℕ) (f : ℕ → List ℕ) → ((i : ℕ) → i < count → length (f i) ≡ n) → length (each_below count f) ≡ count * n
length_each n zero f long = omega arith
length_each n (suc count) f long =
    let rest = length_each n count f (λ i below. long i (omega arith)) in
    let last = long count (omega arith) in
    let both = length-append (each_below count f) (f count) in
    omega arith

pub part_of_each : (n count i : ℕ) (f : ℕ → List ℕ) → ((i : ℕ) → i < count → length (f i) ≡ n) → i < count → take n (drop (i * n) (each_below count f)) ≡ f i
part_of_each n zero i f long below = absurd (omega arith)
part_of_each n (suc count) i f long below =
    let all = length_each n count f (λ i inside. long i (omega arith)) in
    ⊎_elim
    (λ (earlier : i < count).
    let gap = mul-le-mul_left n earlier in
    let inside : i * n ≤ length (each_below count f) = omega arith in
    let long_enough : n ≤ length (drop (i * n) (each_below count f)) = omega (arith, length-drop (i * n) (each_below count f)) in
    ap (λ b. take n b) (drop-append-le (i * n) (each_below count f) (f count) inside) ∙
    take-append-le n (drop (i * n) (each_below count f)) (f count) long_enough ∙
    part_of_each n count i f (λ i inside. long i (omega arith)) earlier)
    (λ (from : count ≤ i).
    let same : i ≡ count = omega arith in
    let size : length (f count) ≡ n = long count (omega arith) in
    ap (λ k. take n (drop (k * n) (each_below count f ++ f count))) same ∙
    ap (λ b. take n b) (drop_at (each_below count f) (f count) (count * n) all) ∙
    (rw size at (whole (f count))) ∙ ap f (sym same))
    (cases_lt i count)
  where
    whole : (xs : List ℕ) → take (length xs) xs ≡ xs
    whole [] = refl
    whole (x ∷ xs) = ap (λ ys. x ∷ ys) (whole xs)

-- what is seen of a line has its size
seen_length : (n size : ℕ) (f : ℕ → Option Content) (copy : List ℕ) → ((h : ℕ) (a : Content) → f h ≡ Some a → length a.bytes ≡ size) → length copy ≡ size → length (seen_below n f copy) ≡ size
seen_length zero size f copy all own = own
seen_length (suc n) size f copy all own = go (f n) refl (seen_length n size f copy all own)
  where
    go : (o : Option Content) → f n ≡ o → length (seen_below n f copy) ≡ size → length (bytes_or o (seen_below n f copy)) ≡ size
    go None at rest = rest
    go (Some b) at rest = all n b at

none_past : {A : Type 0} (o : Option A) (x : A) → o ≡ None → o ≡ Some x → ⊥
none_past o x none some = let both : None ≡ Some x = sym none ∙ some in cc

pub held_inside : (p : Parts) (l : Line) (h : ℕ) (a : Content) → held p l h ≡ Some a → h < length p.caches
held_inside p l h a at =
    ⊎_elim (λ inside. inside)
    (λ (past : length p.caches ≤ h).
    let none : held p l h ≡ None = ap (λ c. content_of c l) (get_or_past p.caches h _ past) in
    absurd (none_past (held p l h) a none at))
    (cases_lt h (length p.caches))

pub content_length : (p : Parts) → AreParts p → (l : Line) (h : ℕ) (a : Content) → held p l h ≡ Some a → length a.bytes ≡ p.memory.line_bytes
content_length p are l h a at =
    let fits = are.fits h (held_inside p l h a at) in
    let bytes : length a.bytes ≡ (cache_at p h).line_bytes = rw at at (fits.is.bytes l) in
    bytes ∙ fits.line_bytes

pub line_of_length : (p : Parts) → AreParts p → (l : Line) → IsIn p.memory l → length (line_of p.memory l) ≡ p.memory.line_bytes
line_of_length p are l inside =
    let m = p.memory in
    let span = line_bytes_in_memory m.base (length m.bytes) m.line_bytes l.0 are.memory.size are.memory.whole_base are.memory.whole_bytes inside in
    ap length (bytes_of_line-in m.base m.line_bytes l.0 m.bytes span.0) ∙
    length-take-le m.line_bytes (drop (l.0 * m.line_bytes - m.base) m.bytes) (omega (arith, length-drop (l.0 * m.line_bytes - m.base) m.bytes))

pub length_seen : (p : Parts) → AreParts p → (l : Line) → IsIn p.memory l → length (seen p l) ≡ p.memory.line_bytes
length_seen p are l inside =
    seen_length (length p.caches) p.memory.line_bytes (held p l) (line_of p.memory l) (content_length p are l) (line_of_length p are l inside)

pub length_view : (p : Parts) → AreParts p → length (shown p).view ≡ length p.memory.bytes
length_view p are =
    length_each p.memory.line_bytes (line_count p) (λ i. seen p (line_at_place p i)) (λ i below. length_seen p are (line_at_place p i) (place_in p i below)) ∙
    whole_split (length p.memory.bytes) p.memory.line_bytes are.memory.whole_bytes

-- where a line of memory begins
pub line_start : (p : Parts) → AreParts p → (l : Line) → IsIn p.memory l → l.0 * p.memory.line_bytes - p.memory.base ≡ (l.0 - first_line p) * p.memory.line_bytes
line_start p are l inside =
    let n : ℕ = p.memory.line_bytes in
    let first : ℕ = first_line p in
    let base : first * n ≡ p.memory.base = whole_split p.memory.base n are.memory.whole_base in
    let from : first ≤ l.0 = inside.from in
    let split : first + (l.0 - first) ≡ l.0 = omega arith in
    let product : l.0 * n ≡ first * n + (l.0 - first) * n = ap (λ k. k * n) (sym split) ∙ omega arith in
    omega arith

-- users see of a line the bytes of its holders, or memory's
pub view_of_shown : (p : Parts) → AreParts p → (l : Line) → IsIn p.memory l → view_of (shown p) l ≡ seen p l
view_of_shown p are l inside =
    let n : ℕ = p.memory.line_bytes in
    let m = p.memory in
    let span = line_bytes_in_memory m.base (length m.bytes) m.line_bytes l.0 are.memory.size are.memory.whole_base are.memory.whole_bytes inside in
    let from = inside.from in
    let below = inside.below in
    let place : l.0 - first_line p < line_count p = omega arith in
    let line : line_at_place p (l.0 - first_line p) ≡ l = line_by_number _ l (omega arith) in
    bytes_of_line-in m.base n l.0 (shown p).view span.0 ∙
    ap (λ s. take n (drop s (shown p).view)) (line_start p are l inside) ∙
    part_of_each n (line_count p) (l.0 - first_line p) (λ i. seen p (line_at_place p i)) (λ i inside. length_seen p are (line_at_place p i) (place_in p i inside)) place ∙
    ap (λ a. seen p a) line
