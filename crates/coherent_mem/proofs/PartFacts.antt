-- The parts of a coherent memory after a change of one holder's content of one line.
use Rattle.std.proofs.Common.{◌≡◌, ◌≢◌, ℕ, ◌+◌, ◌-◌, ◌/◌, ◌<◌, ◌≤◌, ⊎_elim, List, Option, length, get_or, set, sym, ap, subst, ◌∙◌, refl, arith}
use Rattle.std.proofs.lemmas.List.{length-set, get_or-set_same, get_or-set_other, get_or_past}
use Rattle.std.proofs.lemmas.Bool.{cases_eq, cases_lt}
use Rattle.conda_base.specs.Lines.{IsLineOf}
use Rattle.conda_base.specs.declared.Line.{Line}
use Rattle.conda_base.proofs.LineLemmas.{line_bytes_in_memory, line_by_number}
use Rattle.cpu_cache.specs.Contents.{Content, Contents, content_of, no_contents}
use Rattle.mesi_directory.specs.declared.row.Row.{Row}
use Rattle.mesi_directory.specs.declared.row.Row.TheVariants.{Nobody}
use Rattle.mesi_directory.specs.Rows.{Rows, AreRows, IsRow, HasRow, row_of, with_row}
use Rattle.mesi_directory.proofs.RowLemmas.{row_of-with_row_other}
use Rattle.line_memory.specs.Memory.{Memory, IsMemory, IsIn, line_of, with_bytes}
use Rattle.line_memory.specs.Tags.{each_below}
use Rattle.line_memory.proofs.MemoryLemmas.{length-with_line, bytes_of_line-with_line_other}
use Rattle.line_memory.proofs.WalkLemmas.{each_same}
use Rattle.coherent_mem.specs.Parts.{Parts, AreParts, FitsIn, IsKept, cache_at, held, seen, seen_below, shown, first_line, line_count, line_at_place}
use Rattle.coherent_mem.proofs.CacheFacts.{IsEdit}
use Rattle.coherent_mem.proofs.LineFacts.{seen_same, kept_same}

-- what a value is a view of
abbrev pub fields : {A : Type 0} {a b : A} → a ≡ b → A
fields {a = a} is = a

-- a memory with the same numbers in which only one line may have other bytes
pub record IsWritten (m : Memory) (l : Line) (new : Memory) : Type 0 where
  pub line_bytes : new.line_bytes ≡ m.line_bytes
  pub base : new.base ≡ m.base
  pub size : length new.bytes ≡ length m.bytes
  pub others : (a : Line) → IsIn m a → a.0 ≢ l.0 → line_of new a ≡ line_of m a

-- a directory in which only one line may have another row
pub record IsRowed (d : Rows) (l : Line) (new : Rows) : Type 0 where
  pub first : new.first ≡ d.first
  pub count : length new.rows ≡ length d.rows
  pub valid : AreRows new.rows
  pub others : (a : Line) → HasRow d a → a.0 ≢ l.0 → row_of new a ≡ row_of d a

-- the parts after one holder's content of one line has changed
pub record IsPartEdit (p : Parts) (h : ℕ) (l : Line) (x : Option Content) (q : Parts) : Type 0 where
  pub sets : q.sets ≡ p.sets
  pub ways : q.ways ≡ p.ways
  pub memory : IsWritten p.memory l q.memory
  pub rows : IsRowed p.rows l q.rows
  pub cache : Contents
  pub caches : q.caches ≡ set p.caches h cache
  pub edited : IsEdit (cache_at p h) l x cache

-- a line of the memory has a row
pub row_in : (p : Parts) → AreParts p → (l : Line) → IsIn p.memory l → HasRow p.rows l
row_in p are l is = record {
  from = rw are.first is.from;
  below = rw (are.first, are.count) is.below;
}

pub written_none : (m : Memory) (l : Line) → IsWritten m l m
written_none m l = record { line_bytes = refl; base = refl; size = refl; others = λ a is apart. refl }

pub written_line : (m : Memory) (l : Line) (bytes : List ℕ) → IsMemory m.line_bytes m.base (length m.bytes) → IsIn m l → length bytes ≡ m.line_bytes → IsWritten m l (with_bytes m l bytes)
written_line m l bytes is inside long =
    let span = line_bytes_in_memory m.base (length m.bytes) m.line_bytes l.0 is.size is.whole_base is.whole_bytes inside in
    record {
      line_bytes = refl;
      base = refl;
      size = length-with_line m.base m.line_bytes l.0 m.bytes bytes (omega arith) long;
      others = λ a there apart. bytes_of_line-with_line_other m.base m.line_bytes a.0 l.0 m.bytes bytes is there inside long apart;
    }

pub rowed_line : (d : Rows) (l : Line) (row : Row) → AreRows d.rows → HasRow d l → IsRow row → IsRowed d l (with_row d l row)
rowed_line d l row are inside is = record {
  first = refl;
  count = length-set d.rows (l.0 - d.first) row;
  valid = λ k. ⊎_elim
      (λ (same : k ≡ l.0 - d.first). ⊎_elim
      (λ (below : k < length d.rows). rw same (rw (get_or-set_same d.rows (l.0 - d.first) row Nobody (rw same at below)) is))
      (λ (past : length d.rows ≤ k). rw (get_or_past (set d.rows (l.0 - d.first) row) k Nobody (rw (length-set d.rows (l.0 - d.first) row) past)) tt)
      (cases_lt k (length d.rows)))
      (λ (apart : k ≢ l.0 - d.first). rw (get_or-set_other d.rows (l.0 - d.first) k row Nobody apart) (are k))
      (cases_eq k (l.0 - d.first));
  others = λ a there apart. row_of-with_row_other d l a row inside there apart;
}

-- the caches after the change
pub cache_same : (p q : Parts) (h : ℕ) (l : Line) (x : Option Content) → h < length p.caches → (e : IsPartEdit p h l x q) → cache_at q h ≡ e.cache
cache_same p q h l x inside e = ap (λ cs. get_or cs h (no_contents 0 0 0)) e.caches ∙ get_or-set_same p.caches h e.cache (no_contents 0 0 0) inside

pub cache_beside : (p q : Parts) (h k : ℕ) (l : Line) (x : Option Content) → IsPartEdit p h l x q → k ≢ h → cache_at q k ≡ cache_at p k
cache_beside p q h k l x e apart = ap (λ cs. get_or cs k (no_contents 0 0 0)) e.caches ∙ get_or-set_other p.caches h k e.cache (no_contents 0 0 0) apart

pub held_here : (p q : Parts) (h : ℕ) (l : Line) (x : Option Content) → h < length p.caches → IsPartEdit p h l x q → held q l h ≡ x
held_here p q h l x inside e = ap (λ c. content_of c l) (cache_same p q h l x inside e) ∙ e.edited.here

pub held_beside : (p q : Parts) (h k : ℕ) (l a : Line) (x : Option Content) → IsPartEdit p h l x q → k ≢ h → held q a k ≡ held p a k
held_beside p q h k l a x e apart = ap (λ c. content_of c a) (cache_beside p q h k l x e apart)

pub held_other : (p q : Parts) (h k : ℕ) (l a : Line) (x : Option Content) → h < length p.caches → IsPartEdit p h l x q → a.0 ≢ l.0 → held q a k ≡ held p a k
held_other p q h k l a x inside e apart =
    ⊎_elim
    (λ (same : k ≡ h). ap (λ i. held q a i) same ∙ ap (λ c. content_of c a) (cache_same p q h l x inside e) ∙ e.edited.others a apart ∙ ap (λ i. held p a i) (sym same))
    (λ (beside : k ≢ h). held_beside p q h k l a x e beside) (cases_eq k h)

pub count_same : (p q : Parts) (h : ℕ) (l : Line) (x : Option Content) → IsPartEdit p h l x q → length q.caches ≡ length p.caches
count_same p q h l x e = ap length e.caches ∙ length-set p.caches h e.cache

-- a line that is in one memory is in the other
pub in_same : (m new : Memory) (l a : Line) → IsWritten m l new → IsIn new a → IsIn m a
in_same m new l a is inside =
    let P : ℕ → ℕ → ℕ → Type 0 = λ base size n. IsLineOf base size n a.0 in
    let one : IsLineOf m.base (length new.bytes) new.line_bytes a.0 = subst (λ (b : ℕ). P b (length new.bytes) new.line_bytes) is.base inside in
    let two : IsLineOf m.base (length m.bytes) new.line_bytes a.0 = subst (λ (s : ℕ). P m.base s new.line_bytes) is.size one in
    subst (λ (n : ℕ). P m.base (length m.bytes) n) is.line_bytes two

pub in_new : (m new : Memory) (l a : Line) → IsWritten m l new → IsIn m a → IsIn new a
in_new m new l a is inside =
    let P : ℕ → ℕ → ℕ → Type 0 = λ base size n. IsLineOf base size n a.0 in
    let one : IsLineOf new.base (length m.bytes) m.line_bytes a.0 = subst (λ (b : ℕ). P b (length m.bytes) m.line_bytes) (sym is.base) inside in
    let two : IsLineOf new.base (length new.bytes) m.line_bytes a.0 = subst (λ (s : ℕ). P new.base s m.line_bytes) (sym is.size) one in
    subst (λ (n : ℕ). P new.base (length new.bytes) n) (sym is.line_bytes) two

fits_new : (p q : Parts) (h : ℕ) (l : Line) (x : Option Content) → h < length p.caches → AreParts p → (e : IsPartEdit p h l x q) → (k : ℕ) → k < length q.caches → FitsIn q (cache_at q k)
fits_new p q h l x inside are e k below =
    let old : k < length p.caches = rw (count_same p q h l x e) at below in
    ⊎_elim
    (λ (same : k ≡ h).
    let was = are.fits h inside in
    let is : cache_at q k ≡ e.cache = ap (λ i. cache_at q i) same ∙ cache_same p q h l x inside e in
    let P : Contents → Type 0 = λ c. FitsIn q c in
    let fits : FitsIn q e.cache = record {
      is = e.edited.is;
      line_bytes = e.edited.line_bytes ∙ was.line_bytes ∙ sym e.memory.line_bytes;
      sets = e.edited.sets ∙ was.sets ∙ sym e.sets;
      ways = e.edited.ways ∙ was.ways ∙ sym e.ways;
    } in
    subst P (sym is) fits)
    (λ (apart : k ≢ h).
    let was = are.fits k old in
    let P : Contents → Type 0 = λ c. FitsIn q c in
    let fits : FitsIn q (cache_at p k) = record {
      is = was.is;
      line_bytes = was.line_bytes ∙ sym e.memory.line_bytes;
      sets = was.sets ∙ sym e.sets;
      ways = was.ways ∙ sym e.ways;
    } in
    subst P (sym (cache_beside p q h k l x e apart)) fits)
    (cases_eq k h)

pub memory_new : (m new : Memory) (l : Line) → IsWritten m l new → IsMemory m.line_bytes m.base (length m.bytes) → IsMemory new.line_bytes new.base (length new.bytes)
memory_new m new l w is =
    let one : IsMemory new.line_bytes m.base (length m.bytes) = subst (λ (n : ℕ). IsMemory n m.base (length m.bytes)) (sym w.line_bytes) is in
    let two : IsMemory new.line_bytes new.base (length m.bytes) = subst (λ (b : ℕ). IsMemory new.line_bytes b (length m.bytes)) (sym w.base) one in
    subst (λ (s : ℕ). IsMemory new.line_bytes new.base s) (sym w.size) two

pub first_same : (p q : Parts) (l : Line) → IsWritten p.memory l q.memory → first_line q ≡ first_line p
first_same p q l w = ap (λ b. b / q.memory.line_bytes) w.base ∙ ap (λ n. p.memory.base / n) w.line_bytes

pub count_lines_same : (p q : Parts) (l : Line) → IsWritten p.memory l q.memory → line_count q ≡ line_count p
count_lines_same p q l w = ap (λ b. b / q.memory.line_bytes) w.size ∙ ap (λ n. length p.memory.bytes / n) w.line_bytes

-- the parts fit together after the change, where the rules of its line hold
pub parts_edited : (p q : Parts) (h : ℕ) (l : Line) (x : Option Content) → AreParts p → h < length p.caches → IsIn p.memory l → IsPartEdit p h l x q → IsKept (held q l) (row_of q.rows l) (line_of q.memory l) → AreParts q
parts_edited p q h l x are inside there e kept = record {
  memory = memory_new p.memory q.memory l e.memory are.memory;
  few = rw (count_same p q h l x e) are.few;
  some_sets = rw e.sets are.some_sets;
  few_sets = rw e.sets are.few_sets;
  some_ways = rw e.ways are.some_ways;
  few_ways = rw e.ways are.few_ways;
  fits = fits_new p q h l x inside are e;
  first = e.rows.first ∙ are.first ∙ sym (first_same p q l e.memory);
  count = e.rows.count ∙ are.count ∙ sym (count_lines_same p q l e.memory);
  rows = e.rows.valid;
  range = λ a k content at. ⊎_elim
      (λ (same : a.0 ≡ l.0). in_new p.memory q.memory l a e.memory (subst (λ (b : Line). IsIn p.memory b) (sym (line_by_number a l same)) there))
      (λ (apart : a.0 ≢ l.0). in_new p.memory q.memory l a e.memory (are.range a k content (sym (held_other p q h k l a x inside e apart) ∙ at)))
      (cases_eq a.0 l.0);
  kept = λ a within. ⊎_elim
      (λ (same : a.0 ≡ l.0). subst (λ (b : Line). IsKept (held q b) (row_of q.rows b) (line_of q.memory b)) (sym (line_by_number a l same)) kept)
      (λ (apart : a.0 ≢ l.0).
      let was_in : IsIn p.memory a = in_same p.memory q.memory l a e.memory within in
      let was : IsKept (held p a) (row_of p.rows a) (line_of p.memory a) = are.kept a was_in in
      let row : row_of q.rows a ≡ row_of p.rows a = e.rows.others a (row_in p are a was_in) apart in
      let copy : line_of q.memory a ≡ line_of p.memory a = e.memory.others a was_in apart in
      let moved : IsKept (held q a) (row_of p.rows a) (line_of p.memory a) = kept_same (held p a) (held q a) (row_of p.rows a) (line_of p.memory a) (λ k. held_other p q h k l a x inside e apart) was in
      let rowed : IsKept (held q a) (row_of q.rows a) (line_of p.memory a) = subst (λ (r : Row). IsKept (held q a) r (line_of p.memory a)) (sym row) moved in
      subst (λ (c : List ℕ). IsKept (held q a) (row_of q.rows a) c) (sym copy) rowed)
      (cases_eq a.0 l.0);
}

-- another line is seen as before
pub seen_other : (p q : Parts) (h : ℕ) (l a : Line) (x : Option Content) → AreParts p → h < length p.caches → IsPartEdit p h l x q → IsIn p.memory a → a.0 ≢ l.0 → seen q a ≡ seen p a
seen_other p q h l a x are inside e within apart =
    ap (λ n. seen_below n (held q a) (line_of q.memory a)) (count_same p q h l x e) ∙
    ap (λ c. seen_below (length p.caches) (held q a) c) (e.memory.others a within apart) ∙
    seen_same (length p.caches) (held p a) (held q a) (line_of p.memory a) (λ k. held_other p q h k l a x inside e apart)

-- the line at a place is in the memory
pub place_in : (p : Parts) (i : ℕ) → i < line_count p → IsIn p.memory (line_at_place p i)
place_in p i below = record { from = omega arith; below = omega arith }

-- where the line is seen as before, the whole view is
pub view_same : (p q : Parts) (h : ℕ) (l : Line) (x : Option Content) → AreParts p → h < length p.caches → IsPartEdit p h l x q → seen q l ≡ seen p l → (shown q).view ≡ (shown p).view
view_same p q h l x are inside e same =
    ap (λ n. each_below n (λ i. seen q (line_at_place q i))) (count_lines_same p q l e.memory) ∙
    each_same (line_count p) (λ i. seen q (line_at_place q i)) (λ i. seen p (line_at_place p i))
    (λ i below.
    let place : line_at_place q i ≡ line_at_place p i = line_by_number _ _ (ap (λ f. f + i) (first_same p q l e.memory)) in
    ap (λ a. seen q a) place ∙
    ⊎_elim
    (λ (at : (line_at_place p i).0 ≡ l.0). ap (λ a. seen q a) (line_by_number _ l at) ∙ same ∙ ap (λ a. seen p a) (sym (line_by_number _ l at)))
    (λ (apart : (line_at_place p i).0 ≢ l.0). seen_other p q h l (line_at_place p i) x are inside e (place_in p i below) apart)
    (cases_eq (line_at_place p i).0 l.0))
