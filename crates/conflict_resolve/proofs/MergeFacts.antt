-- Merges, byte by byte, entry by entry and note by note.
use Rattle.std.proofs.Common.{◌≡◌, ◌≢◌, ◌+◌, ◌-◌, ◌*◌, ◌%◌, ◌<◌, ◌≤◌, ℕ, zero, suc, Bool, true, false, List, [], ◌∷◌, ◌++◌, length, get_or, take, drop, refl, sym, ap, ◌∙◌, subst, arith, rules, ◌||◌, ◌&&◌, cond, eqb, not, ◌⊎◌, inl, inr, Some, map, append_assoc}
use Rattle.std.specs.Prelude.{All, slice_index}
use Rattle.std.specs.List.{filter}
use Rattle.std.proofs.lemmas.Bool.{false≢true, true≢false, eqb-true, eqb-false, eq-eqb, or_cases, or_left, or_right, cases_Bool, false_from_ne_true, and_right}
use Rattle.std.proofs.lemmas.List.{places, get_or-take, get_or-drop, length-take-le}
use Rattle.std.proofs.lemmas.List.Elements.{All-nil, All-cons, All-head, All-tail}
use Rattle.std.proofs.lemmas.List.{ext_get_or}
use Rattle.set_assoc.specs.Entries.{lookup}
use Rattle.conda_base.specs.declared.Line.{Line}
use Rattle.conda_base.specs.Lines.{IsLineSize, IsLineOf, line_number, line_offset}
use Rattle.conda_base.specs.Marks.{is_marked}
use Rattle.conda_base.proofs.LineLemmas.{line_split, offset_below, line_bytes_in_memory, line_size_bounds}
use Rattle.conda_base.proofs.MarkLemmas.{length-mixed, get_or-mixed}
use Rattle.traffic_trace.specs.declared.note.Kind.TheVariants as Kind_is
use Rattle.line_memory.specs.Memory.{IsMemory}
use Rattle.line_memory.specs.Backing.{BackingView, IsInRange, shape_of, view_of, committed_line, merged}
use Rattle.line_memory.specs.Tags.{Tag, Tags, Shape, held_state, without_line, each_below}
use Rattle.line_memory.specs.Access.{after_commit}
use Rattle.line_memory.specs.Notes.{note_of, leave_notes, all_notes, merge_notes, commit_notes}
use Rattle.line_memory.proofs.MemoryLemmas.{length-with_line, bytes_of_line-in}
use Rattle.offload_calls.specs.Stores.{Inside, overlay, byte_at, latest, is_listed, stored_addresses}
use Rattle.offload_calls.proofs.StoreLemmas.{length-overlay, byte_at-overlay, latest-elsewhere, latest_stored}
use Rattle.conda_base.specs.LineLists.{line_at, lines_of, same_line, names}
use Rattle.conda_base.proofs.LineListLemmas.{line_eq, same_line-refl, same_line-eq, names-with_all_new}
use Rattle.try_runs.proofs.LineFacts.{AreDistinct, AreDistinct-with_all_new}
use Rattle.try_runs.proofs.LineBytes.{apart_lines}
use Rattle.conflict_resolve.specs.Merges.{Stored, all_merged, all_merge_notes}

-- ---- what a commit has

abbrev pub lines_in : List Stored → List Line
lines_in entries = map (λ (e : Stored). e.0) entries

-- the marks of a line are the bytes of it that these stores stored, and its marked bytes the last ones stored there
pub record IsStored (line_bytes : ℕ) (stores : List (ℕ × ℕ)) (e : Stored) : Type 0 where
  pub room : length e.1.bytes ≡ 128
  pub marks : (k : ℕ) → k < line_bytes
      → is_marked e.1.mask k ≡ is_listed (stored_addresses stores) (e.0.0 * line_bytes + k)
  pub bytes : (k : ℕ) → k < line_bytes → is_marked e.1.mask k ≡ true
      → slice_index e.1.bytes k ≡ latest stores (e.0.0 * line_bytes + k) 0

-- the lines of its stores in the order of the first store, each as the stores left it
pub record AreStored (b : BackingView) (stores : List (ℕ × ℕ)) (entries : List Stored) : Type 0 where
  pub memory : IsMemory b.line_bytes b.base (length b.view)
  pub inside : All (Inside b.base (length b.view)) stores
  pub lines : lines_in entries ≡ lines_of b.line_bytes (stored_addresses stores)
  pub stored : All (IsStored b.line_bytes stores) entries
  pub in_range : All (λ (e : Stored). IsInRange b e.0) entries

-- the view is overlaid by the stores, the tags are those of a commit, and so are the notes
pub record IsCommitted (b new : BackingView) (core : ℕ) (stores : List (ℕ × ℕ)) (entries : List Stored) : Type 0 where
  pub view : new.view ≡ overlay b.base b.view stores
  pub tags : new.tags ≡ after_commit b.tags (lines_in entries)
  pub notes : all_merge_notes b core entries ≡ commit_notes (shape_of b) b.tags core (lines_in entries)

-- ---- a byte of a list with other bytes in a part of it

part_inside : (bytes new : List ℕ) (start n p : ℕ) → start + n ≤ length bytes → length new ≡ n → start ≤ p → p < start + n
    → get_or (take start bytes ++ new ++ drop (start + n) bytes) p 0 ≡ get_or new (p - start) 0
part_inside bytes new start n p within size low high = grind (arith, places)

part_before : (bytes new : List ℕ) (start n p : ℕ) → start + n ≤ length bytes → length new ≡ n → p < start
    → get_or (take start bytes ++ new ++ drop (start + n) bytes) p 0 ≡ get_or bytes p 0
part_before bytes new start n p within size high = grind (arith, places)

part_after : (bytes new : List ℕ) (start n p : ℕ) → start + n ≤ length bytes → length new ≡ n → start + n ≤ p
    → get_or (take start bytes ++ new ++ drop (start + n) bytes) p 0 ≡ get_or bytes p 0
part_after bytes new start n p within size low = grind (arith, places)

-- ---- one merge

module _ (b : BackingView) (e : Stored) (is : IsMemory b.line_bytes b.base (length b.view)) (range : IsInRange b e.0) (room : length e.1.bytes ≡ 128) where
  abbrev n : ℕ
  n = b.line_bytes

  abbrev start : ℕ
  start = e.0.0 * n - b.base

  abbrev line : List ℕ
  line = committed_line b e.0 e.1.bytes e.1.mask

  span : (b.base ≤ e.0.0 * n) × (e.0.0 * n + n ≤ b.base + length b.view)
  span = line_bytes_in_memory b.base (length b.view) n e.0.0 is.size is.whole_base is.whole_bytes range

  pub within : start + n ≤ length b.view
  within = let s = span in omega arith

  short : n ≤ 128
  short = (line_size_bounds n is.size).1

  front-long : length (take n e.1.bytes) ≡ n
  front-long = length-take-le n e.1.bytes (let s = short in omega arith)

  pub line-long : length line ≡ n
  line-long = length-mixed e.1.mask (take n e.1.bytes) (view_of b e.0) ∙ front-long

  view-is : view_of b e.0 ≡ take n (drop start b.view)
  view-is = bytes_of_line-in b.base n e.0.0 b.view span.0

  pub view-long : length (view_of b e.0) ≡ length (take n e.1.bytes)
  view-long = ap length view-is ∙ (search (rules, places, within) ∙ sym front-long)

  pub merged-long : length (merged b e.0 e.1.bytes e.1.mask).view ≡ length b.view
  merged-long = length-with_line b.base n e.0.0 b.view line within line-long

  line-byte : (k : ℕ) → k < n → get_or line k 0 ≡ cond (is_marked e.1.mask k) (get_or e.1.bytes k 0) (get_or b.view (start + k) 0)
  line-byte k below =
      get_or-mixed e.1.mask (take n e.1.bytes) (view_of b e.0) k view-long
      ∙ ap (λ x. cond (is_marked e.1.mask k) x (get_or (view_of b e.0) k 0)) (get_or-take n e.1.bytes k 0 below)
      ∙ ap (λ x. cond (is_marked e.1.mask k) (get_or e.1.bytes k 0) x)
      (ap (λ xs. get_or xs k 0) view-is ∙ get_or-take n (drop start b.view) k 0 below ∙ get_or-drop start b.view k 0)

  -- a byte of memory after the merge
  pub merged-byte : (p : ℕ) → p < length b.view
      → get_or (merged b e.0 e.1.bytes e.1.mask).view p 0
      ≡ cond (same_line e.0 (line_at n (b.base + p)) && is_marked e.1.mask (line_offset (b.base + p) n)) (get_or e.1.bytes (line_offset (b.base + p) n) 0) (get_or b.view p 0)
  merged-byte p below = go (same_line e.0 (line_at n a)) refl
    where
      a : ℕ
      a = b.base + p

      k : ℕ
      k = line_offset a n

      go : (t : Bool) → same_line e.0 (line_at n a) ≡ t
          → get_or (merged b e.0 e.1.bytes e.1.mask).view p 0 ≡ cond (t && is_marked e.1.mask k) (get_or e.1.bytes k 0) (get_or b.view p 0)
      go true h =
          let same : e.0.0 ≡ line_number a n = eqb-true e.0.0 (line_number a n) h in
          let small : k < n = offset_below a n is.size in
          let split : line_number a n * n + k ≡ a = line_split a n in
          let at : e.0.0 * n + k ≡ a = ap (λ l. l * n + k) same ∙ split in
          let s = span in
          let place : p - start ≡ k = omega arith in
          let back : start + k ≡ p = omega arith in
          part_inside b.view line start n p within line-long (omega arith) (omega arith)
          ∙ ap (λ i. get_or line i 0) place ∙ line-byte k small ∙ ap (λ i. cond (is_marked e.1.mask k) (get_or e.1.bytes k 0) (get_or b.view i 0)) back
      go false h =
          let other : line_number a n ≢ e.0.0 = λ same. eqb-false e.0.0 (line_number a n) h (sym same) in
          side (apart_lines a n e.0.0 is.size other)
        where
          side : (a < e.0.0 * n) ⊎ (e.0.0 * n + n ≤ a) → get_or (merged b e.0 e.1.bytes e.1.mask).view p 0 ≡ get_or b.view p 0
          side (inl low) = let s = span in part_before b.view line start n p within line-long (omega arith)
          side (inr high) = let s = span in part_after b.view line start n p within line-long (omega arith)

-- ---- all merges

-- the marks and bytes at an address of the line
stored-at : (b : BackingView) (stores : List (ℕ × ℕ)) (e : Stored) (a : ℕ) → IsLineSize b.line_bytes → IsStored b.line_bytes stores e
    → same_line e.0 (line_at b.line_bytes a) ≡ true
    → (is_marked e.1.mask (line_offset a b.line_bytes) ≡ is_listed (stored_addresses stores) a)
    × (is_marked e.1.mask (line_offset a b.line_bytes) ≡ true → get_or e.1.bytes (line_offset a b.line_bytes) 0 ≡ latest stores a 0)
stored-at b stores e a size is h = (
  is.marks k small ∙ ap (is_listed (stored_addresses stores)) at,
  λ m. is.bytes k small m ∙ ap (λ x. latest stores x 0) at,
)
  where
    n : ℕ
    n = b.line_bytes

    k : ℕ
    k = line_offset a n

    small : k < n
    small = offset_below a n size

    at : e.0.0 * n + k ≡ a
    at = ap (λ l. l * n + k) (eqb-true e.0.0 (line_number a n) h) ∙ line_split a n

choose : (s m later stored : Bool) (x y v : ℕ) → (s ≡ true → m ≡ stored) → (s ≡ true → m ≡ true → y ≡ x)
    → cond (later && stored) x (cond (s && m) y v) ≡ cond ((s || later) && stored) x v
choose true m later true x y v f g = done later
  where
    done : (later : Bool) → cond (later && true) x (cond m y v) ≡ x
    done true = refl
    done false = ap (λ t. cond t y v) (f refl) ∙ g refl (f refl)
choose true m later false x y v f g = none later
  where
    none : (later : Bool) → cond (later && false) x (cond m y v) ≡ v
    none true = ap (λ t. cond t y v) (f refl)
    none false = ap (λ t. cond t y v) (f refl)
choose false m later stored x y v f g = refl

all-long : (b : BackingView) (entries : List Stored) → IsMemory b.line_bytes b.base (length b.view) → All (λ (e : Stored). length e.1.bytes ≡ 128) entries
    → All (λ (e : Stored). IsInRange b e.0) entries → length (all_merged b entries).view ≡ length b.view
all-long b [] is rooms ranges = refl
all-long b (e ∷ entries) is rooms ranges =
    let range : IsInRange b e.0 = All-head (λ (e : Stored). IsInRange b e.0) e entries ranges in
    let room = All-head (λ (e : Stored). length e.1.bytes ≡ 128) e entries rooms in
    let long : length (merged b e.0 e.1.bytes e.1.mask).view ≡ length b.view = merged-long b e is range room in
    all-long (merged b e.0 e.1.bytes e.1.mask) entries (subst (IsMemory b.line_bytes b.base) (sym long) is) (All-tail (λ (e : Stored). length e.1.bytes ≡ 128) e entries rooms)
    (subst (λ m. All (λ (e : Stored). IsLineOf b.base m b.line_bytes e.0.0) entries) (sym long) (All-tail (λ (e : Stored). IsInRange b e.0) e entries ranges))
    ∙ long

all-byte : (b : BackingView) (stores : List (ℕ × ℕ)) (entries : List Stored) (p : ℕ) → IsMemory b.line_bytes b.base (length b.view)
    → All (IsStored b.line_bytes stores) entries → All (λ (e : Stored). IsInRange b e.0) entries → p < length b.view
    → get_or (all_merged b entries).view p 0
    ≡ cond (names (lines_in entries) (line_at b.line_bytes (b.base + p)) && is_listed (stored_addresses stores) (b.base + p)) (latest stores (b.base + p) 0) (get_or b.view p 0)
all-byte b stores [] p is stored ranges below = refl
all-byte b stores (e ∷ entries) p is stored ranges below =
    let n : ℕ = b.line_bytes in
    let a : ℕ = b.base + p in
    let range : IsInRange b e.0 = All-head (λ (e : Stored). IsInRange b e.0) e entries ranges in
    let here : IsStored n stores e = All-head (IsStored n stores) e entries stored in
    let long : length (merged b e.0 e.1.bytes e.1.mask).view ≡ length b.view = merged-long b e is range here.room in
    all-byte (merged b e.0 e.1.bytes e.1.mask) stores entries p (subst (IsMemory n b.base) (sym long) is) (All-tail (IsStored n stores) e entries stored)
    (subst (λ m. All (λ (e : Stored). IsLineOf b.base m n e.0.0) entries) (sym long) (All-tail (λ (e : Stored). IsInRange b e.0) e entries ranges))
    (subst (λ m. p < m) (sym long) below)
    ∙ ap (λ v. cond (names (lines_in entries) (line_at n a) && is_listed (stored_addresses stores) a) (latest stores a 0) v) (merged-byte b e is range here.room p below)
    ∙ choose (same_line e.0 (line_at n a)) (is_marked e.1.mask (line_offset a n)) (names (lines_in entries) (line_at n a)) (is_listed (stored_addresses stores) a)
    (latest stores a 0) (get_or e.1.bytes (line_offset a n) 0) (get_or b.view p 0)
    (λ s. (stored-at b stores e a is.size here s).0) (λ s m. (stored-at b stores e a is.size here s).1 m)

pub names-map : (n : ℕ) (xs : List ℕ) (a : ℕ) → is_listed xs a ≡ true → names (map (line_at n) xs) (line_at n a) ≡ true
names-map n [] a h = absurd (false≢true h)
names-map n (x ∷ xs) a h = go (or_cases (eqb x a) (is_listed xs a) h) (names-map n xs a)
  where
    go : (eqb x a ≡ true) ⊎ (is_listed xs a ≡ true) → (is_listed xs a ≡ true → names (map (line_at n) xs) (line_at n a) ≡ true)
        → (same_line (line_at n x) (line_at n a) || names (map (line_at n) xs) (line_at n a)) ≡ true
    go (inl e) ih = or_left _ _ (eq-eqb (line_at n x).0 (line_at n a).0 (ap (λ y. (line_at n y).0) (eqb-true x a e)))
    go (inr r) ih = or_right _ _ (ih r)

pub rooms : (n : ℕ) (stores : List (ℕ × ℕ)) (entries : List Stored) → All (IsStored n stores) entries → All (λ (e : Stored). length e.1.bytes ≡ 128) entries
rooms n stores [] h = All-nil (λ (e : Stored). length e.1.bytes ≡ 128)
rooms n stores (e ∷ entries) h =
    All-cons (λ (e : Stored). length e.1.bytes ≡ 128) e entries (All-head (IsStored n stores) e entries h).room
    (rooms n stores entries (All-tail (IsStored n stores) e entries h))

merges-view : (b : BackingView) (stores : List (ℕ × ℕ)) (entries : List Stored) → AreStored b stores entries → (all_merged b entries).view ≡ overlay b.base b.view stores
merges-view b stores entries are =
    ext_get_or 0 (all_merged b entries).view (overlay b.base b.view stores) (long ∙ sym (length-overlay b.base b.view stores))
    (λ p below. byte p (subst (λ m. p < m) long below))
  where
    n : ℕ
    n = b.line_bytes

    long : length (all_merged b entries).view ≡ length b.view
    long = all-long b entries are.memory (rooms n stores entries are.stored) are.in_range

    byte : (p : ℕ) → p < length b.view → get_or (all_merged b entries).view p 0 ≡ get_or (overlay b.base b.view stores) p 0
    byte p below =
        all-byte b stores entries p are.memory are.stored are.in_range below ∙ go (is_listed (stored_addresses stores) a) refl
        ∙ sym (byte_at-overlay b.base b.view stores a are.inside (omega arith)) ∙ ap (λ i. get_or (overlay b.base b.view stores) i 0) (omega arith)
      where
        a : ℕ
        a = b.base + p

        here : byte_at b.base b.view a ≡ get_or b.view p 0
        here = ap (λ i. get_or b.view i 0) (omega arith)

        go : (t : Bool) → is_listed (stored_addresses stores) a ≡ t
            → cond (names (lines_in entries) (line_at n a) && t) (latest stores a 0) (get_or b.view p 0) ≡ latest stores a (byte_at b.base b.view a)
        go true h =
            let named : names (lines_in entries) (line_at n a) ≡ true =
            ap (λ ls. names ls (line_at n a)) are.lines ∙ names-with_all_new [] (map (line_at n) (stored_addresses stores)) (line_at n a) ∙ names-map n (stored_addresses stores) a h in
            ap (λ s. cond (s && true) (latest stores a 0) (get_or b.view p 0)) named ∙ latest_stored stores a 0 (byte_at b.base b.view a) h
        go false h =
            ap (λ s. cond s (latest stores a 0) (get_or b.view p 0)) (and_right (names (lines_in entries) (line_at n a)) false refl)
            ∙ sym here ∙ sym (latest-elsewhere stores a (byte_at b.base b.view a) h)

-- ---- tags

flip : (a b : Line) → same_line a b ≡ same_line b a
flip a b = go (cases_Bool (same_line a b))
  where
    go : (same_line a b ≡ true) ⊎ (same_line a b ≡ false) → same_line a b ≡ same_line b a
    go (inl e) = e ∙ sym (same_line-eq b a (sym (line_eq a b e)))
    go (inr e) = e ∙ sym (false_from_ne_true _ (λ f. false≢true (sym e ∙ same_line-eq a b (sym (line_eq b a f)))))

filter-without : (l : Line) (lines : List Line) (ts : List Tag)
    → filter (λ (t : Tag). not (names lines t.0)) (without_line l ts) ≡ filter (λ (t : Tag). not (names (l ∷ lines) t.0)) ts
filter-without l lines [] = refl
filter-without l lines (t ∷ ts) = go (same_line t.0 l) (same_line l t.0) (flip t.0 l) (filter-without l lines ts)
  where
    old : List Tag
    old = without_line l ts

    go : (x y : Bool) → x ≡ y → filter (λ (t : Tag). not (names lines t.0)) old ≡ filter (λ (t : Tag). not (names (l ∷ lines) t.0)) ts
        → filter (λ (t : Tag). not (names lines t.0)) (cond (not x) (t ∷ old) old)
        ≡ cond (not (y || names lines t.0)) (t ∷ filter (λ (t : Tag). not (names (l ∷ lines) t.0)) ts) (filter (λ (t : Tag). not (names (l ∷ lines) t.0)) ts)
    go true true e ih = ih
    go false false e ih = ap (λ us. cond (not (names lines t.0)) (t ∷ us) us) ih
    go true false e ih = absurd (true≢false e)
    go false true e ih = absurd (true≢false (sym e))

filter-all : (ts : List Tag) → ts ≡ filter (λ (t : Tag). true) ts
filter-all [] = refl
filter-all (t ∷ ts) = ap (λ us. t ∷ us) (filter-all ts)

merges-tags : (b : BackingView) (entries : List Stored) (k s : ℕ) → (all_merged b entries).tags k s ≡ after_commit b.tags (lines_in entries) k s
merges-tags b [] k s = filter-all (b.tags k s)
merges-tags b (e ∷ entries) k s = merges-tags (merged b e.0 e.1.bytes e.1.mask) entries k s ∙ filter-without e.0 (lines_in entries) (b.tags k s)

-- ---- notes

state-without : (n l : Line) (ts : List Tag) → same_line n l ≡ false → lookup l (without_line n ts) ≡ lookup l ts
state-without n l [] ne = refl
state-without n l (t ∷ ts) ne = go (same_line t.0 n) refl (state-without n l ts ne)
  where
    rest : List Tag
    rest = without_line n ts

    go : (x : Bool) → same_line t.0 n ≡ x → lookup l rest ≡ lookup l ts
        → lookup l (cond (not x) (t ∷ rest) rest) ≡ cond (same_line t.0 l) (Some t.1) (lookup l ts)
    go true e ih =
        ih ∙ ap (λ c. cond c (Some t.1) (lookup l ts)) (sym (subst (λ m. same_line m l ≡ false) (sym (line_eq t.0 n e)) ne))
    go false e ih = ap (λ o. cond (same_line t.0 l) (Some t.1) o) ih

each-ext : {A : Type 0} (m : ℕ) (f g : ℕ → List A) → ((k : ℕ) → f k ≡ g k) → each_below m f ≡ each_below m g
each-ext zero f g h = refl
each-ext (suc m) f g h = (λ i. each-ext m f g h i ++ h m i)

-- the notes of lines that two tags agree on
commit-ext : (c : Shape) (tags new : Tags) (j : ℕ) (lines : List Line)
    → ((l : Line) → names lines l ≡ true → (k : ℕ) → held_state c tags k l ≡ held_state c new k l) → commit_notes c tags j lines ≡ commit_notes c new j lines
commit-ext c tags new j [] same = refl
commit-ext c tags new j (l ∷ lines) same =
    let here : all_notes leave_notes c tags l ≡ all_notes leave_notes c new l =
    each-ext c.holders _ _ (λ k. ap (leave_notes l k) (same l (or_left _ _ (same_line-refl l)) k)) in
    let later : commit_notes c tags j lines ≡ commit_notes c new j lines = commit-ext c tags new j lines (λ m h k. same m (or_right _ _ h) k) in
    λ i. here i ++ note_of Kind_is.Merge j l ∷ later i

apart : (lines : List Line) (n l : Line) → names lines n ≡ false → names lines l ≡ true → same_line n l ≡ false
apart lines n l out h = false_from_ne_true _ (λ e. false≢true (sym out ∙ subst (λ m. names lines m ≡ true) (sym (line_eq n l e)) h))

merges-notes : (b : BackingView) (core : ℕ) (entries : List Stored) → AreDistinct (lines_in entries)
    → all_merge_notes b core entries ≡ commit_notes (shape_of b) b.tags core (lines_in entries)
merges-notes b core [] o = refl
merges-notes b core (e ∷ entries) o =
    let next : BackingView = merged b e.0 e.1.bytes e.1.mask in
    let later : all_merge_notes next core entries ≡ commit_notes (shape_of b) b.tags core (lines_in entries) =
    merges-notes next core entries o.1
    ∙ commit-ext (shape_of b) next.tags b.tags core (lines_in entries)
    (λ l h k. state-without e.0 l (b.tags k (l.0 % b.sets)) (apart (lines_in entries) e.0 l o.0 h)) in
    ap (λ ns. merge_notes (shape_of b) b.tags core e.0 ++ ns) later
    ∙ append_assoc (all_notes leave_notes (shape_of b) b.tags e.0) (note_of Kind_is.Merge core e.0 ∷ []) (commit_notes (shape_of b) b.tags core (lines_in entries))

pub merges_commit : (b : BackingView) (core : ℕ) (stores : List (ℕ × ℕ)) (entries : List Stored) → AreStored b stores entries
    → IsCommitted b (all_merged b entries) core stores entries
merges_commit b core stores entries are = record {
  view = merges-view b stores entries are;
  tags = λ i k s. merges-tags b entries k s i;
  notes = merges-notes b core entries (subst AreDistinct (sym are.lines) (AreDistinct-with_all_new [] (map (line_at b.line_bytes) (stored_addresses stores)) tt));
}
