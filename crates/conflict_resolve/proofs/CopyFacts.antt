-- Memory's own copies after a commit.
use Rattle.std.proofs.Common.{◌≡◌, ◌≢◌, ◌≤◌, ◌<◌, ◌+◌, ◌-◌, ◌*◌, ◌⊎◌, ◌&&◌, ℕ, Bool, true, false, not, cond, eqb, List, [], ◌∷◌, length, refl, sym, ap, subst, ◌∙◌, inl, inr, Some, None}
use Rattle.std.specs.Prelude.{All}
use Rattle.std.specs.List.{filter, Contains}
use Rattle.std.proofs.lemmas.Bool.{false≢true, true≢false, eqb-false, eq-eqb, or_cases, or_parts, or_left, or_right, and_from}
use Rattle.std.proofs.lemmas.List.Elements.{All-head, All-tail}
use Rattle.set_assoc.specs.Entries.{lookup}
use Rattle.conda_base.specs.declared.Line.{Line}
use Rattle.conda_base.specs.declared.Mesi.TheVariants.{M}
use Rattle.conda_base.specs.Lines.{IsLineOf}
use Rattle.conda_base.specs.LineLists.{names, same_line}
use Rattle.line_memory.specs.Memory.{IsMemory}
use Rattle.line_memory.specs.Tags.{Tag, Tags, Shape, set_number, held_state, is_in_m, dirty_lines}
use Rattle.line_memory.specs.Access.{after_commit}
use Rattle.line_memory.specs.Backing.{BackingView, IsBacking, IsInRange, shape_of, dirty_in, view_of, copy_of, committed_line, merged}
use Rattle.line_memory.specs.Copies.{has_same_owner, copy_after}
use Rattle.line_memory.proofs.BelowLemmas.{some_found}
use Rattle.line_memory.proofs.MemberLemmas.{cons_cases, cons_here, cons_later, none_in_nil, state_of_dirty}
use Rattle.line_memory.proofs.MemoryLemmas.{length-with_line, bytes_of_line-with_line_other}
use Rattle.conda_base.proofs.LineListLemmas.{line_eq}
use Rattle.conflict_resolve.specs.Merges.{Stored, all_merged}
use Rattle.conflict_resolve.proofs.MergeFacts.{lines_in, within, line-long, merged-long}

-- ---- lines of a list

contains_named : (lines : List Line) (l : Line) → names lines l ≡ true → Contains lines l
contains_named [] l h = absurd (false≢true h)
contains_named (k ∷ lines) l h = go (or_cases (same_line k l) (names lines l) h) (contains_named lines l)
  where
    go : (same_line k l ≡ true) ⊎ (names lines l ≡ true) → (names lines l ≡ true → Contains lines l) → Contains (k ∷ lines) l
    go (inl same) rest = subst (λ (x : Line). Contains (x ∷ lines) l) (sym (line_eq k l same)) (cons_here l lines)
    go (inr later) rest = cons_later k l lines (rest later)

named_contains : (lines : List Line) (l : Line) → Contains lines l → names lines l ≡ true
named_contains [] l h = absurd (none_in_nil l h)
named_contains (k ∷ lines) l h = go (cons_cases k l lines h) (named_contains lines l)
  where
    go : (k ≡ l) ⊎ Contains lines l → (Contains lines l → names lines l ≡ true) → names (k ∷ lines) l ≡ true
    go (inl same) rest = or_left _ _ (eq-eqb k.0 l.0 (ap (λ (x : Line). x.0) same))
    go (inr later) rest = or_right _ _ (rest later)

-- ---- what the merges keep

shape-all : (b : BackingView) (entries : List Stored) → shape_of (all_merged b entries) ≡ shape_of b
shape-all b [] = refl
shape-all b (e ∷ entries) = shape-all (merged b e.0 e.1.bytes e.1.mask) entries

abbrev AreWhole : List Stored → Type 0
AreWhole entries = All (λ (e : Stored). length e.1.bytes ≡ 128) entries

abbrev AreInRange : BackingView → List Stored → Type 0
AreInRange b entries = All (λ (e : Stored). IsInRange b e.0) entries

-- memory's copy of a line stays
abbrev Stays : Line → BackingView → BackingView → Type 0
Stays l b new = copy_of new l ≡ copy_of b l

-- those of other lines stay, and so does the range
module _ (l : Line) where
  stays : (b : BackingView) (entries : List Stored) → IsMemory b.line_bytes b.base (length b.view) → length b.copies ≡ length b.view
      → AreWhole entries → AreInRange b entries → IsInRange b l → names (lines_in entries) l ≡ false → Stays l b (all_merged b entries)
  stays b [] is same rooms ranges range out = refl
  stays b (e ∷ entries) is same rooms ranges range out =
      let n : ℕ = b.line_bytes in
      let room : length e.1.bytes ≡ 128 = All-head (λ (e : Stored). length e.1.bytes ≡ 128) e entries rooms in
      let here : IsInRange b e.0 = All-head (λ (e : Stored). IsInRange b e.0) e entries ranges in
      let parts = or_parts (eqb e.0.0 l.0) (names (lines_in entries) l) out in
      let next : BackingView = merged b e.0 e.1.bytes e.1.mask in
      let size : length (committed_line b e.0 e.1.bytes e.1.mask) ≡ n = line-long b e is here room in
      let long : length next.view ≡ length b.view = merged-long b e is here room in
      let fits : e.0.0 * n - b.base + n ≤ length b.copies = subst (λ m. e.0.0 * n - b.base + n ≤ m) (sym same) (within b e is here room) in
      let copies_long : length next.copies ≡ length b.copies = length-with_line b.base n e.0.0 b.copies (committed_line b e.0 e.1.bytes e.1.mask) fits size in
      let other : l.0 ≢ e.0.0 = λ eq. eqb-false e.0.0 l.0 parts.0 (sym eq) in
      let later : Stays l next (all_merged next entries) =
      stays next entries (subst (IsMemory n b.base) (sym long) is) (copies_long ∙ same ∙ sym long)
      (All-tail (λ (e : Stored). length e.1.bytes ≡ 128) e entries rooms)
      (subst (λ m. All (λ (e : Stored). IsLineOf b.base m n e.0.0) entries) (sym long) (All-tail (λ (e : Stored). IsInRange b e.0) e entries ranges))
      (subst (λ m. IsLineOf b.base m n l.0) (sym long) range) parts.1 in
      later
      ∙ bytes_of_line-with_line_other b.base n l.0 e.0.0 b.copies (committed_line b e.0 e.1.bytes e.1.mask) (subst (IsMemory n b.base) (sym same) is)
      (subst (λ m. IsLineOf b.base m n l.0) (sym same) range) (subst (λ m. IsLineOf b.base m n e.0.0) (sym same) here) size other

  range-all : (b : BackingView) (entries : List Stored) → IsMemory b.line_bytes b.base (length b.view) → AreWhole entries → AreInRange b entries
      → IsInRange b l → IsInRange (all_merged b entries) l
  range-all b [] is rooms ranges range = range
  range-all b (e ∷ entries) is rooms ranges range =
      let n : ℕ = b.line_bytes in
      let room : length e.1.bytes ≡ 128 = All-head (λ (e : Stored). length e.1.bytes ≡ 128) e entries rooms in
      let here : IsInRange b e.0 = All-head (λ (e : Stored). IsInRange b e.0) e entries ranges in
      let next : BackingView = merged b e.0 e.1.bytes e.1.mask in
      let long : length next.view ≡ length b.view = merged-long b e is here room in
      range-all next entries (subst (IsMemory n b.base) (sym long) is)
      (All-tail (λ (e : Stored). length e.1.bytes ≡ 128) e entries rooms)
      (subst (λ m. All (λ (e : Stored). IsLineOf b.base m n e.0.0) entries) (sym long) (All-tail (λ (e : Stored). IsInRange b e.0) e entries ranges))
      (subst (λ m. IsLineOf b.base m n l.0) (sym long) range)

-- ---- who has a line in M

-- a line that is left in M was so before, and isn't one of those taken out
left_in_m : (lines : List Line) (tags : List Tag) (l : Line) → lookup l (filter (λ (t : Tag). not (names lines t.0)) tags) ≡ Some M
    → (names lines l ≡ false) × (lookup l tags ≡ Some M)
left_in_m lines [] l h = absurd (let none : None ≡ Some M = h in cc)
left_in_m lines (t ∷ tags) l h = go (names lines t.0) refl (same_line t.0 l) refl h (left_in_m lines tags l)
  where
    rest : List Tag
    rest = filter (λ (t : Tag). not (names lines t.0)) tags

    taken : (same_line t.0 l ≡ true) → names lines t.0 ≡ true → (names lines l ≡ false) × (lookup l tags ≡ Some M) → ⊥
    taken same on left = true≢false (sym (subst (λ k. names lines k ≡ true) (line_eq t.0 l same) on) ∙ left.0)

    go : (x : Bool) → names lines t.0 ≡ x → (y : Bool) → same_line t.0 l ≡ y
        → lookup l (cond (not x) (t ∷ rest) rest) ≡ Some M
        → (lookup l rest ≡ Some M → (names lines l ≡ false) × (lookup l tags ≡ Some M))
        → (names lines l ≡ false) × (cond y (Some t.1) (lookup l tags) ≡ Some M)
    go true on true same h later = absurd (taken same on (later h))
    go true on false other h later = later h
    go false off true same h later = (
      subst (λ k. names lines k ≡ false) (line_eq t.0 l same) off,
      sym (ap (λ y. cond y (Some t.1) (lookup l rest)) same) ∙ h,
    )
    go false off false other h later = later (sym (ap (λ y. cond y (Some t.1) (lookup l rest)) other) ∙ h)

-- ---- the copies

pub copies_are : (b new : BackingView) (entries : List Stored) (lines : List Line) (l : Line)
    → new ≡ all_merged b entries → lines_in entries ≡ lines → new.tags ≡ after_commit b.tags lines
    → IsBacking b → IsBacking new → AreWhole entries → AreInRange b entries → IsInRange b l
    → copy_of new l ≡ copy_after (shape_of b) b.tags new.tags l (copy_of b l) (view_of b l) (view_of new l)
copies_are b new entries lines l is named tags old backing rooms ranges range = go (names (dirty_lines (shape_of b) new.tags) l) refl
  where
    shape : shape_of new ≡ shape_of b
    shape = ap shape_of is ∙ shape-all b entries

    go : (x : Bool) → names (dirty_lines (shape_of b) new.tags) l ≡ x
        → copy_of new l ≡ cond x (cond (has_same_owner (shape_of b) b.tags new.tags l) (copy_of b l) (view_of b l)) (view_of new l)
    go true dirty =
        let on : names (dirty_in new) l ≡ true = ap (λ s. names (dirty_lines s new.tags) l) shape ∙ dirty in
        let owner = state_of_dirty new l backing (contains_named (dirty_in new) l on) in
        let here : held_state (shape_of b) new.tags owner.0 l ≡ Some M = ap (λ s. held_state s new.tags owner.0 l) (sym shape) ∙ owner.2 in
        let left = left_in_m lines (b.tags owner.0 (set_number (shape_of b) l)) l (ap (λ (ts : Tags). held_state (shape_of b) ts owner.0 l) (sym tags) ∙ here) in
        let below : owner.0 < b.holders = subst (λ (s : Shape). owner.0 < s.holders) shape owner.1 in
        let same : has_same_owner (shape_of b) b.tags new.tags l ≡ true =
        some_found b.holders owner.0 (λ k. is_in_m (held_state (shape_of b) b.tags k l) && is_in_m (held_state (shape_of b) new.tags k l)) below
        (and_from _ _ (ap is_in_m left.1) (ap is_in_m here)) in
        ap (λ (m : BackingView). copy_of m l) is
        ∙ stays l b entries old.memory old.same rooms ranges range (ap (λ ls. names ls l) named ∙ left.0)
        ∙ ap (λ y. cond y (copy_of b l) (view_of b l)) (sym same)
    go false clean =
        backing.clean l (subst (λ (m : BackingView). IsInRange m l) (sym is) (range-all l b entries old.memory rooms ranges range))
        (λ dirty. true≢false (sym (named_contains (dirty_in new) l dirty) ∙ ap (λ s. names (dirty_lines s new.tags) l) shape ∙ clean))
