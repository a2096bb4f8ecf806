-- A step of the merges of a commit.
use Rattle.std.proofs.Common.{◌≡◌, ◌≤◌, ◌<◌, ◌+◌, ◌/◌, ℕ, Bool, true, false, cond, List, [], ◌∷◌, length, get_or, take, drop, Option, Some, None, refl, sym, ap, subst, ◌∙◌, arith, ⊎_elim}
use Rattle.std.specs.Prelude.{All, slice_get}
use Rattle.std.specs.Option.{option_map}
use Rattle.std.proofs.lemmas.Grind.{same_number_lists}
use Rattle.std.proofs.lemmas.List.{drop_more, get_or-take, length-drop}
use Rattle.std.proofs.lemmas.Option.{slice_get-map, slice_get_within, get_or_from_slice_get, slice_get-get_or}
use Rattle.std.proofs.lemmas.List.Sums.{fold-append}
use Rattle.std.proofs.lemmas.Bool.{cases_lt}
use Rattle.conda_base.specs.declared.Line.{Line}
use Rattle.write_masks.specs.declared.Masked.{Masked}
use Rattle.conda_base.specs.Marks.{is_marked}
use Rattle.conda_base.proofs.MarkLemmas.{get_or-mixed}
use Rattle.nda_cache.specs.Tried.{Tried, HaveSameMarked, known_of}
use Rattle.line_memory.specs.Access.{after_merge}
use Rattle.line_memory.specs.Memory.{IsMemory, with_line}
use Rattle.line_memory.specs.Backing.{BackingView, IsInRange, shape_of, view_of, committed_line, merged}
use Rattle.line_memory.specs.Notes.{all_noted, merge_notes}
use Rattle.traffic_trace.specs.Notes.{Trace, noted}
use Rattle.conflict_resolve.specs.Merges.{Stored, stored_in, all_merged, all_merge_notes}
use Rattle.conflict_resolve.proofs.MergeFacts.{line-long, view-long}

-- what stands at a place of the stored lines
pub record AtPlace (cache : Tried) (place : ℕ) (l : Line) : Type 0 where
  pub named : slice_get cache.stored place ≡ Some l
  pub entry : ◌≡◌ {A = Option Stored} (slice_get (stored_in cache) place) (Some (l, known_of cache l))
  pub within : place < length cache.stored

pub at-place : (cache : Tried) (place : ℕ) (l : Line) → slice_get cache.stored place ≡ Some l → AtPlace cache place l
at-place cache place l named = record {
  named = named;
  entry = slice_get-map (λ (x : Line). (x, known_of cache x)) cache.stored place ∙ ap (option_map (λ (k : Line). (k, known_of cache k))) named;
  within = slice_get_within cache.stored place l named;
}

-- a merge takes marked bytes alone
marked_same : (a b : Masked) (n k : ℕ) (x : ℕ) → HaveSameMarked a b → k < n → cond (is_marked a.mask k) (get_or (take n a.bytes) k 0) x ≡ cond (is_marked b.mask k) (get_or (take n b.bytes) k 0) x
marked_same a b n k x same below =
    ap (λ m. cond (is_marked m k) (get_or (take n a.bytes) k 0) x) same.marks ∙
    either (is_marked b.mask k) refl
  where
    either : (m : Bool) → is_marked b.mask k ≡ m → cond m (get_or (take n a.bytes) k 0) x ≡ cond m (get_or (take n b.bytes) k 0) x
    either false off = refl
    either true on = get_or-take n a.bytes k 0 below ∙ same.bytes k on ∙ sym (get_or-take n b.bytes k 0 below)

pub merged-marked : (b : BackingView) (l : Line) (line known : Masked) → IsMemory b.line_bytes b.base (length b.view) → IsInRange b l → length known.bytes ≡ 128 → HaveSameMarked line known → merged b l line.bytes line.mask ≡ merged b l known.bytes known.mask
merged-marked b l line known is range room same =
    let n : ℕ = b.line_bytes in
    let raw_room : length line.bytes ≡ 128 = same.room ∙ room in
    let raw_long = line-long b (l, line) is range raw_room in
    let long = line-long b (l, known) is range room in
    let raw_view = view-long b (l, line) is range raw_room in
    let view = view-long b (l, known) is range room in
    let bytes : committed_line b l line.bytes line.mask ≡ committed_line b l known.bytes known.mask =
    same_number_lists _ _ (raw_long ∙ sym long)
    (λ k below.
    get_or-mixed line.mask (take n line.bytes) (view_of b l) k raw_view ∙
    marked_same line known n k (get_or (view_of b l) k 0) same (omega arith) ∙
    sym (get_or-mixed known.mask (take n known.bytes) (view_of b l) k view)) in
    ap (λ xs. record b { view = with_line b.base n b.view l.0 xs; copies = with_line b.base n b.copies l.0 xs; tags = after_merge b.tags l }) bytes

-- a line that stands there is in the range of a memory of the same lines
pub line-in-range : (b new : BackingView) (cache : Tried) (place : ℕ) (l : Line) → AtPlace cache place l → All (IsInRange b) cache.stored
    → new.line_bytes ≡ b.line_bytes → new.base ≡ b.base → length new.view ≡ length b.view → IsInRange new l
line-in-range b new cache place l at all lines base long =
    let here : IsInRange b (get_or cache.stored place l) = all place l at.within in
    let there : IsInRange b l = subst (IsInRange b) (get_or_from_slice_get cache.stored place l l at.named) here in
    record {
      from = subst (λ n. new.base / n ≤ l.0) (sym lines) (subst (λ x. x / b.line_bytes ≤ l.0) (sym base) there.from);
      below =
          let was : l.0 < b.base / b.line_bytes + length b.view / b.line_bytes = there.below in
          subst (λ n. l.0 < new.base / n + length new.view / n) (sym lines)
          (subst (λ x. l.0 < x / b.line_bytes + length new.view / b.line_bytes) (sym base) (subst (λ m. l.0 < b.base / b.line_bytes + m / b.line_bytes) (sym long) was));
    }

-- the merge of the line at a place
pub record MergeStep (b new : BackingView) (core place : ℕ) (entries : List Stored) (before after : Trace) : Type 0 where
  pub memory : all_merged new (drop (place + 1) entries) ≡ all_merged b (drop place entries)
  pub notes : all_noted after (all_merge_notes new core (drop (place + 1) entries)) ≡ all_noted before (all_merge_notes b core (drop place entries))

pub merge-step : (b new : BackingView) (core place : ℕ) (entries : List Stored) (l : Line) (line : Masked) (before after : Trace)
    → ◌≡◌ {A = Option Stored} (slice_get entries place) (Some (l, line)) → new ≡ merged b l line.bytes line.mask → after ≡ all_noted before (merge_notes (shape_of b) b.tags core l)
    → MergeStep b new core place entries before after
merge-step b new core place entries l line before after at is noted_is =
    let rest : List Stored = drop (place + 1) entries in
    let here : ◌≡◌ {A = List Stored} (drop place entries) ((l, line) ∷ rest) =
    drop_more entries place (l, line) (slice_get_within entries place (l, line) at) ∙ ap (λ (e : Stored). e ∷ rest) (get_or_from_slice_get entries place (l, line) (l, line) at) in
    record {
      memory = ap (λ (m : BackingView). all_merged m rest) is ∙ ap (all_merged b) (sym here);
      notes =
          ap (λ (log : Trace). all_noted log (all_merge_notes new core rest)) noted_is
          ∙ ap (λ (m : BackingView). all_noted (all_noted before (merge_notes (shape_of b) b.tags core l)) (all_merge_notes m core rest)) is
          ∙ sym (fold-append noted before (merge_notes (shape_of b) b.tags core l) (all_merge_notes (merged b l line.bytes line.mask) core rest))
          ∙ ap (λ es. all_noted before (all_merge_notes b core es)) (sym here);
    }

-- nothing is left where the walk ends
pub no-more : (cache : Tried) (place : ℕ) → slice_get cache.stored place ≡ None → drop place (stored_in cache) ≡ []
no-more cache place none-left =
    let past : slice_get (stored_in cache) place ≡ None =
    slice_get-map (λ (x : Line). (x, known_of cache x)) cache.stored place ∙ ap (option_map (λ (k : Line). (k, known_of cache k))) none-left in
    all-dropped (stored_in cache) place (⊎_elim (λ (within : place < length (stored_in cache)). absurd (inside within past)) (λ far. far) (cases_lt place (length (stored_in cache))))
  where
    none : Stored
    none = (record { 0 = 0 }, known_of cache (record { 0 = 0 }))

    inside : place < length (stored_in cache) → slice_get (stored_in cache) place ≡ None → ⊥
    inside within past =
        let there : slice_get (stored_in cache) place ≡ Some (get_or (stored_in cache) place none) = slice_get-get_or (stored_in cache) place none within in
        cc

    empty : (xs : List Stored) → length xs ≡ 0 → xs ≡ []
    empty [] e = refl
    empty (x ∷ xs) e = absurd (omega arith)

    all-dropped : (xs : List Stored) (i : ℕ) → length xs ≤ i → drop i xs ≡ []
    all-dropped xs i far = empty (drop i xs) (length-drop i xs ∙ omega arith)
