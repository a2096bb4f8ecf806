-- What a set is seen as after a change of its ages or its entries.
use Rattle.std.proofs.Common.{◌≡◌, ◌≢◌, ℕ, zero, suc, ◌+◌, ◌-◌, ◌<◌, ◌≤◌, true, false, List, [], ◌∷◌, ◌++◌, Option, Some, None, length, get_or, map, take, set, eqb, get_or-take, length-take, take_all, length-append, sym, ap, ◌∙◌, refl, ⊎_elim, arith, add-one}
use Rattle.std.specs.List.{remove, range_with_len}
use Rattle.std.specs.Prelude.{slice_get}
use Rattle.std.specs.Option.{option_map}
use Rattle.std.proofs.lemmas.List.{same_lists, get_or_default, get_or-set_same, get_or-set_other, length-set, get_or_append_left}
use Rattle.std.proofs.lemmas.List.FromFn.{length-map-range_with_len, get_or-map-range_with_len}
use Rattle.std.proofs.lemmas.List.Edits.{get_or-remove_below, get_or-remove_above, length-remove}
use Rattle.std.proofs.lemmas.Bool.{cases_eq, cases_lt, cases_Bool, eq-eqb, ne_eqb, eqb-true, lt-ltb}
use Rattle.conda_base.specs.declared.Line.{Line}
use Rattle.set_assoc.specs.Ages.{place_of_age, AreAges, IsRaised, IsLowered, placed_entry, lines_by_age, StandOnce, IsAgedRow, IsPlaceOf, IsNowhere}
use Rattle.set_assoc.specs.Places.{place_of_line, ArePlaces}
use Rattle.set_assoc.specs.declared.placed.Placed.{Placed}
use Rattle.set_assoc.specs.Entries.{lookup, without, replaced, touched, StandsAt}
use Rattle.set_assoc.proofs.AgeLemmas.{place_is, AreAges-found, AreAges-raised, AreAges-lowered, AreAges-more, raised_place, raised_young, raised_old, lowered_place, lowered_young, lowered_old, more_place}
use Rattle.conda_base.proofs.LineLemmas.{line_by_number}
use Rattle.set_assoc.proofs.EntryLemmas.{stands_at, is_absent, absent_parts, lookup-without_absent, lookup-replaced_absent, lookup-take_absent}

slice_get_within : {A : Type 0} (xs : List A) (i : ℕ) (d : A) → i < length xs → slice_get xs i ≡ Some (get_or xs i d)
slice_get_within [] i d within = absurd (omega arith)
slice_get_within (x ∷ xs) zero d within = refl
slice_get_within (x ∷ xs) (suc i) d within = slice_get_within xs i d (omega arith)

slice_get_past : {A : Type 0} (xs : List A) (i : ℕ) → length xs ≤ i → slice_get xs i ≡ None
slice_get_past [] i past = refl
slice_get_past (x ∷ xs) zero past = absurd (omega arith)
slice_get_past (x ∷ xs) (suc i) past = slice_get_past xs i (omega arith)

more_is : (place : ℕ → ℕ) (n k : ℕ) → k < n → more_place place n k ≡ place k
more_is place n k small = rw (lt-ltb k n small) refl

module _ {T : Type 0} where
  -- an entry's line isn't found among entries without it
  absent_at : (a : Line) (entries : List (Line × T)) (i : ℕ) (d : Line × T) → lookup a entries ≡ None → i < length entries → (get_or entries i d).0.0 ≡ a.0 → ⊥
  absent_at a [] i d absent within same = absurd (omega arith)
  absent_at a (entry ∷ rest) zero d absent within same =
      let parts = absent_parts a entry rest absent in
      let yes : eqb entry.0.0 a.0 ≡ true = eq-eqb entry.0.0 a.0 same in
      let no : eqb entry.0.0 a.0 ≡ false = parts.0 in
      cc
  absent_at a (entry ∷ rest) (suc i) d absent within same = absent_at a rest i d (absent_parts a entry rest absent).1 (omega arith) same

  apart_at : (entries : List (Line × T)) (k i : ℕ) (d : Line × T) → StandOnce entries → k < i → i < length entries → (get_or entries k d).0.0 ≡ (get_or entries i d).0.0 → ⊥
  apart_at [] k i d are before within same = absurd (omega arith)
  apart_at (entry ∷ rest) k zero d are before within same = absurd (omega arith)
  apart_at (entry ∷ rest) zero (suc i) d are before within same = absent_at entry.0 rest i d are.0 (omega arith) (sym same)
  apart_at (entry ∷ rest) (suc k) (suc i) d are before within same = apart_at rest k i d are.1 (omega arith) (omega arith) same

  -- a line at a place of a list without doubles
  pub stands_apart : (line : Line) (entries : List (Line × T)) (i : ℕ) → StandOnce entries → i < length entries → ((d : Line × T) → (get_or entries i d).0.0 ≡ line.0) → StandsAt line entries i
  stands_apart line entries i are within here =
      stands_at line entries i within
      (λ d. eq-eqb (get_or entries i d).0.0 line.0 (here d))
      (λ k d before. ne_eqb (get_or entries k d).0.0 line.0 (λ same. apart_at entries k i d are before within (same ∙ sym (here d))))

  -- each change keeps lines apart
  pub AreApart-without : (line : Line) (entries : List (Line × T)) → StandOnce entries → StandOnce (without line entries)
  AreApart-without line [] are = tt
  AreApart-without line (entry ∷ rest) are =
      ⊎_elim (λ yes. rw yes are.1)
      (λ no. rw no (lookup-without_absent entry.0 line rest are.0, AreApart-without line rest are.1))
      (cases_Bool (eqb entry.0.0 line.0))

  pub lookup-without_apart : (line : Line) (entries : List (Line × T)) → StandOnce entries → lookup line (without line entries) ≡ None
  lookup-without_apart line [] are = refl
  lookup-without_apart line (entry ∷ rest) are =
      ⊎_elim
      (λ yes. rw yes (ap (λ l. lookup l rest) (line_by_number line entry.0 (sym (eqb-true _ _ yes))) ∙ are.0))
      (λ no. rw no (rw no (lookup-without_apart line rest are.1)))
      (cases_Bool (eqb entry.0.0 line.0))

  pub AreApart-replaced : (line : Line) (value : T) (entries : List (Line × T)) → StandOnce entries → StandOnce (replaced line value entries)
  AreApart-replaced line value [] are = tt
  AreApart-replaced line value (entry ∷ rest) are =
      ⊎_elim
      (λ yes. let same : entry.0.0 ≡ line.0 = eqb-true _ _ yes in
      let absent : lookup line rest ≡ None = ap (λ l. lookup l rest) (line_by_number line entry.0 (sym same)) ∙ are.0 in
      rw yes (absent, are.1))
      (λ no. rw no (lookup-replaced_absent entry.0 line value rest are.0, AreApart-replaced line value rest are.1))
      (cases_Bool (eqb entry.0.0 line.0))

  pub AreApart-take : (m : ℕ) (entries : List (Line × T)) → StandOnce entries → StandOnce (take m entries)
  AreApart-take zero entries are = tt
  AreApart-take (suc m) [] are = tt
  AreApart-take (suc m) (entry ∷ rest) are = (lookup-take_absent entry.0 m rest are.0, AreApart-take m rest are.1)

  pub AreApart-touched : (line : Line) (entries : List (Line × T)) → StandOnce entries → StandOnce (touched line entries)
  AreApart-touched line entries are =
      elim (lookup line entries) as (λ o. StandOnce (elim o as (λ x. List (Line × T)) [ None ↦ entries | Some value ↦ (line, value) ∷ without line entries ])) [
        | None ↦ are
        | Some value ↦ (lookup-without_apart line entries are, AreApart-without line entries are)
      ]

module _ {T : Type 0} where
  -- the lines by age, with any entry past the places
  pub lines_are : (entries : List (Line × T)) (d : Line × T) (ages : List ℕ) (used : ℕ) (place : ℕ → ℕ) → used ≤ length entries → AreAges ages (length entries) place → lines_by_age entries ages used ≡ map (λ age. placed_entry entries d (place age)) (range_with_len 0 used)
  lines_are [] d ages used place filled are =
      let none : used ≡ 0 = omega arith in
      rw none refl
  lines_are (first ∷ rest) d ages used place filled are =
      let entries : List (Line × T) = first ∷ rest in
      let f : ℕ → Line × Placed T = λ age. placed_entry (first ∷ rest) first (place_of_age ages age) in
      let h : ℕ → Line × Placed T = λ age. placed_entry (first ∷ rest) d (place age) in
      same_lists (map f (range_with_len 0 used)) (map h (range_with_len 0 used))
      (length-map-range_with_len f 0 used ∙ sym (length-map-range_with_len h 0 used))
      (λ k x below.
      let small : k < used = rw (length-map-range_with_len f 0 used) at below in
      let inside : k < length (first ∷ rest) = omega arith in
      let at : place_of_age ages k ≡ place k = place_is ages (length (first ∷ rest)) place k are inside in
      let there = (are.by_age k inside).0 in
      get_or-map-range_with_len f 0 used k k x small (omega arith) ∙
      (ap (λ p. placed_entry (first ∷ rest) first p) at ∙
      ap (λ e. (e.0, record { value = e.1; place = place k })) (get_or_default (first ∷ rest) (place k) first d there)) ∙
      sym (get_or-map-range_with_len h 0 used k k x small (omega arith)))

  pub length-lines : (entries : List (Line × T)) (ages : List ℕ) (used : ℕ) → used ≤ length entries → length (lines_by_age entries ages used) ≡ used
  length-lines [] ages used filled = omega arith
  length-lines (first ∷ rest) ages used filled = length-map-range_with_len _ 0 used

  pub line_at : (entries : List (Line × T)) (d : Line × T) (x : Line × Placed T) (ages : List ℕ) (used k : ℕ) (place : ℕ → ℕ) → used ≤ length entries → AreAges ages (length entries) place → k < used → get_or (lines_by_age entries ages used) k x ≡ placed_entry entries d (place k)
  line_at entries d x ages used k place filled are small =
      ap (λ es. get_or es k x) (lines_are entries d ages used place filled are) ∙
      get_or-map-range_with_len (λ age. placed_entry entries d (place age)) 0 used k k x small (omega arith)

  -- a place in use stands in the list, at its age
  pub stands_in_lines : (entries : List (Line × T)) (ages : List ℕ) (used : ℕ) (line : Line) (p : ℕ) → IsAgedRow entries ages used → IsPlaceOf entries ages used line p → StandsAt line (lines_by_age entries ages used) (get_or ages p 0)
  stands_in_lines [] ages used line p is at = absurd (omega (arith, at.within))
  stands_in_lines (first ∷ rest) ages used line p is at =
      let entries : List (Line × T) = first ∷ rest in
      let a : ℕ = get_or ages p 0 in
      let back = (is.aged.by_place p at.within).1 in
      stands_apart line (lines_by_age (first ∷ rest) ages used) a is.apart
      (omega (arith, at.young, length-lines (first ∷ rest) ages used is.filled))
      (λ d. ap (λ e. e.0.0) (line_at (first ∷ rest) first d ages used a (place_of_age ages) is.filled is.aged at.young) ∙
      ap (λ q. (get_or (first ∷ rest) q first).0.0) back ∙ at.has first)

  pub lookup_in_lines : (entries : List (Line × T)) (d : Line × T) (ages : List ℕ) (used : ℕ) (line : Line) (p : ℕ) → IsAgedRow entries ages used → IsPlaceOf entries ages used line p → lookup line (lines_by_age entries ages used) ≡ Some (record { value = (get_or entries p d).1; place = p })
  lookup_in_lines entries d ages used line p is at =
      let a : ℕ = get_or ages p 0 in
      let x : Line × Placed T = placed_entry entries d p in
      let back = (is.aged.by_place p at.within).1 in
      (stands_in_lines entries ages used line p is at).found x ∙
      ap (λ e. Some e.1) (line_at entries d x ages used a (place_of_age ages) is.filled is.aged at.young) ∙
      ap (λ q. Some (record { value = (get_or entries q d).1; place = q })) back

  pub absent_in_lines : (entries : List (Line × T)) (ages : List ℕ) (used : ℕ) (line : Line) → IsAgedRow entries ages used → IsNowhere entries ages used line → lookup line (lines_by_age entries ages used) ≡ None
  absent_in_lines [] ages used line is nowhere = refl
  absent_in_lines (first ∷ rest) ages used line is nowhere =
      (is_absent line (lines_by_age (first ∷ rest) ages used)
      (λ k d below.
      let small : k < used = rw (length-lines (first ∷ rest) ages used is.filled) at below in
      let there = is.aged.by_age k (omega (arith, is.filled)) in
      let seen = line_at (first ∷ rest) first d ages used k (place_of_age ages) is.filled is.aged small in
      ne_eqb (get_or (lines_by_age (first ∷ rest) ages used) k d).0.0 line.0 (λ same.
      let old = nowhere (place_of_age ages k) first there.0 (sym (ap (λ e. e.0.0) seen) ∙ same) in
      omega (arith, there.1, old)))).found

  -- a line in front of its list
  pub touched_is : (line : Line) (value : T) (entries : List (Line × T)) → lookup line entries ≡ Some value → touched line entries ≡ (line, value) ∷ without line entries
  touched_is line value entries found = rw found refl

  front_at : (x : T) (xs : List T) (k i : ℕ) (d : T) → i < length xs → k < i → get_or (x ∷ remove xs i) (suc k) d ≡ get_or xs k d
  front_at x xs k i d inside before = get_or-remove_below xs i d k before inside

  back_at : (x : T) (xs : List T) (k i : ℕ) (d : T) → i < length xs → i ≤ k → get_or (x ∷ remove xs i) (suc k) d ≡ get_or xs (suc k) d
  back_at x xs k i d inside after = get_or-remove_above xs i d k after inside ∙ ap (λ n. get_or xs n d) (add-one k)

module _ {T : Type 0} where
  raised_lines : (entries : List (Line × T)) (d : Line × T) (ages new : List ℕ) (used p : ℕ) → IsAgedRow entries ages used → p < length entries → get_or ages p 0 < used → IsRaised ages p new → lines_by_age entries new used ≡ placed_entry entries d p ∷ remove (lines_by_age entries ages used) (get_or ages p 0)
  raised_lines entries d ages new used p is within young raised =
      let a : ℕ = get_or ages p 0 in
      let old : List (Line × Placed T) = lines_by_age entries ages used in
      let place : ℕ → ℕ = raised_place (place_of_age ages) p a in
      let are : AreAges new (length entries) place = AreAges-raised ages new (length entries) p (place_of_age ages) is.aged within raised in
      let was = length-lines entries ages used is.filled in
      let inside : a < length old = omega arith in
      let rest = length-remove old a inside in
      let now = length-lines entries new used is.filled in
      same_lists (lines_by_age entries new used) (placed_entry entries d p ∷ remove old a) (omega arith)
      (λ k x below. by_place k x (omega arith))
    where
      by_place : (k : ℕ) (x : Line × Placed T) → k < used → get_or (lines_by_age entries new used) k x ≡ get_or (placed_entry entries d p ∷ remove (lines_by_age entries ages used) (get_or ages p 0)) k x
      by_place zero x small = line_at entries d x new used 0 (raised_place (place_of_age ages) p (get_or ages p 0)) is.filled (AreAges-raised ages new (length entries) p (place_of_age ages) is.aged within raised) small
      by_place (suc v) x small =
          let a : ℕ = get_or ages p 0 in
          let was = length-lines entries ages used is.filled in
          let inside : a < length (lines_by_age entries ages used) = omega arith in
          line_at entries d x new used (suc v) (raised_place (place_of_age ages) p a) is.filled (AreAges-raised ages new (length entries) p (place_of_age ages) is.aged within raised) small ∙
          ⊎_elim
          (λ (before : v < a).
          ap (λ q. placed_entry entries d q) (raised_young (place_of_age ages) p a v before) ∙
          sym (line_at entries d x ages used v (place_of_age ages) is.filled is.aged (omega arith)) ∙
          sym (front_at (placed_entry entries d p) (lines_by_age entries ages used) v a x inside before))
          (λ (after : a ≤ v).
          ap (λ q. placed_entry entries d q) (raised_old (place_of_age ages) p a (suc v) (omega arith)) ∙
          sym (line_at entries d x ages used (suc v) (place_of_age ages) is.filled is.aged small) ∙
          sym (back_at (placed_entry entries d p) (lines_by_age entries ages used) v a x inside after))
          (cases_lt v a)

  line_of_entry : (entries : List (Line × T)) (d : Line × T) (line : Line) (p : ℕ) → (get_or entries p d).0.0 ≡ line.0 → placed_entry entries d p ≡ (line, record { value = (get_or entries p d).1; place = p })
  line_of_entry entries d line p same = ap (λ l. (l, record { value = (get_or entries p d).1; place = p })) (line_by_number _ line same)

  pub touched_lines : (entries : List (Line × T)) (ages new : List ℕ) (used : ℕ) (line : Line) (p : ℕ) → IsAgedRow entries ages used → IsPlaceOf entries ages used line p → IsRaised ages p new → lines_by_age entries new used ≡ touched line (lines_by_age entries ages used)
  touched_lines [] ages new used line p is at raised = absurd (omega (arith, at.within))
  touched_lines (d ∷ rest) ages new used line p is at raised =
      let value : Placed T = record { value = (get_or (d ∷ rest) p d).1; place = p } in
      raised_lines (d ∷ rest) d ages new used p is at.within at.young raised ∙
      ap (λ e. e ∷ remove (lines_by_age (d ∷ rest) ages used) (get_or ages p 0)) (line_of_entry (d ∷ rest) d line p (at.has d)) ∙
      ap (λ es. (line, value) ∷ es) (sym (stands_in_lines (d ∷ rest) ages used line p is at).removed) ∙
      sym (touched_is line value (lines_by_age (d ∷ rest) ages used) (lookup_in_lines (d ∷ rest) d ages used line p is at))

  pub IsRow-touched : (entries : List (Line × T)) (ages new : List ℕ) (used : ℕ) (line : Line) (p : ℕ) → IsAgedRow entries ages used → IsPlaceOf entries ages used line p → IsRaised ages p new → IsAgedRow entries new used
  IsRow-touched entries ages new used line p is at raised = record {
    few = is.few;
    eight = raised.len ∙ is.eight;
    filled = is.filled;
    aged = AreAges-found new (length entries) (raised_place (place_of_age ages) p (get_or ages p 0)) (AreAges-raised ages new (length entries) p (place_of_age ages) is.aged at.within raised);
    apart = rw (touched_lines entries ages new used line p is at raised) (AreApart-touched line (lines_by_age entries ages used) is.apart);
  }

  -- a line that leaves
  pub removed_lines : (entries : List (Line × T)) (ages new : List ℕ) (used : ℕ) (line : Line) (p : ℕ) → IsAgedRow entries ages used → IsPlaceOf entries ages used line p → IsLowered ages p (length entries) new → lines_by_age entries new (used - 1) ≡ without line (lines_by_age entries ages used)
  removed_lines [] ages new used line p is at lowered = absurd (omega (arith, at.within))
  removed_lines (d ∷ rest) ages new used line p is at lowered =
      let a : ℕ = get_or ages p 0 in
      let n : ℕ = length (d ∷ rest) in
      let old : List (Line × Placed T) = lines_by_age (d ∷ rest) ages used in
      let place : ℕ → ℕ = lowered_place (place_of_age ages) p a (length (d ∷ rest)) in
      let are : AreAges new (length (d ∷ rest)) place = AreAges-lowered ages new (length (d ∷ rest)) p (place_of_age ages) is.aged at.within lowered in
      let was = length-lines (d ∷ rest) ages used is.filled in
      let young = at.young in
      let filled = is.filled in
      let inside : a < length old = omega arith in
      let gone = length-remove old a inside in
      let fewer : used - 1 ≤ length (d ∷ rest) = omega arith in
      let now = length-lines (d ∷ rest) new (used - 1) fewer in
      same_lists (lines_by_age (d ∷ rest) new (used - 1)) (remove old a) (omega arith)
      (λ k x below.
      let small : k < used - 1 = omega arith in
      line_at (d ∷ rest) d x new (used - 1) k place fewer are small ∙
      ⊎_elim
      (λ (before : k < a).
      ap (λ q. placed_entry (d ∷ rest) d q) (lowered_young (place_of_age ages) p a (length (d ∷ rest)) k before) ∙
      sym (line_at (d ∷ rest) d x ages used k (place_of_age ages) is.filled is.aged (omega arith)) ∙
      sym (get_or-remove_below old a x k before inside))
      (λ (after : a ≤ k).
      ap (λ q. placed_entry (d ∷ rest) d q) (lowered_old (place_of_age ages) p a (length (d ∷ rest)) k after (omega arith)) ∙
      sym (line_at (d ∷ rest) d x ages used (suc k) (place_of_age ages) is.filled is.aged (omega arith)) ∙
      sym (get_or-remove_above old a x k after inside ∙ ap (λ i. get_or old i x) (add-one k)))
      (cases_lt k a)) ∙
      sym (stands_in_lines (d ∷ rest) ages used line p is at).removed

  pub IsRow-removed : (entries : List (Line × T)) (ages new : List ℕ) (used : ℕ) (line : Line) (p : ℕ) → IsAgedRow entries ages used → IsPlaceOf entries ages used line p → IsLowered ages p (length entries) new → IsAgedRow entries new (used - 1)
  IsRow-removed entries ages new used line p is at lowered = record {
    few = is.few;
    eight = lowered.len ∙ is.eight;
    filled = omega (arith, is.filled);
    aged = AreAges-found new (length entries) (lowered_place (place_of_age ages) p (get_or ages p 0) (length entries)) (AreAges-lowered ages new (length entries) p (place_of_age ages) is.aged at.within lowered);
    apart = rw (removed_lines entries ages new used line p is at lowered) (AreApart-without line (lines_by_age entries ages used) is.apart);
  }

  -- a line with a new value
  pub replaced_lines : (entries : List (Line × T)) (ages : List ℕ) (used : ℕ) (line : Line) (p : ℕ) (value : T) → IsAgedRow entries ages used → IsPlaceOf entries ages used line p → lines_by_age (set entries p (line, value)) ages used ≡ replaced line (record { value = value; place = p }) (lines_by_age entries ages used)
  replaced_lines entries ages used line p value is at =
      let d : Line × T = (line, value) in
      let a : ℕ = get_or ages p 0 in
      let new : List (Line × T) = set entries p d in
      let y : Line × Placed T = (line, record { value = value; place = p }) in
      let old : List (Line × Placed T) = lines_by_age entries ages used in
      let len : length new ≡ length entries = length-set entries p d in
      let filled : used ≤ length new = rw len is.filled in
      let are : AreAges ages (length new) (place_of_age ages) = rw len is.aged in
      let was = length-lines entries ages used is.filled in
      let now = length-lines new ages used filled in
      let inside : a < length old = omega (arith, at.young) in
      same_lists (lines_by_age new ages used) (set old a y) (now ∙ sym was ∙ sym (length-set old a y))
      (λ k x below.
      let small : k < used = omega arith in
      let there = is.aged.by_age k (omega (arith, is.filled)) in
      line_at new d x ages used k (place_of_age ages) filled are small ∙
      ⊎_elim
      (λ (same : k ≡ a).
      let q : place_of_age ages k ≡ p = ap (place_of_age ages) same ∙ (is.aged.by_place p at.within).1 in
      ap (λ i. placed_entry new d i) q ∙ ap (λ e. (e.0, record { value = e.1; place = p })) (get_or-set_same entries p d d at.within) ∙
      sym (ap (λ i. get_or (set old a y) i x) same ∙ get_or-set_same old a y x inside))
      (λ (other : k ≢ a).
      let q : place_of_age ages k ≢ p = λ e. other (sym there.1 ∙ ap (λ i. get_or ages i 0) e) in
      ap (λ e. (e.0, record { value = e.1; place = place_of_age ages k })) (get_or-set_other entries p (place_of_age ages k) d d q) ∙
      sym (line_at entries d x ages used k (place_of_age ages) is.filled is.aged small) ∙
      sym (get_or-set_other old a k y x other))
      (cases_eq k a)) ∙
      sym ((stands_in_lines entries ages used line p is at).written (record { value = value; place = p }))

  pub IsRow-replaced : (entries : List (Line × T)) (ages : List ℕ) (used : ℕ) (line : Line) (p : ℕ) (value : T) → IsAgedRow entries ages used → IsPlaceOf entries ages used line p → IsAgedRow (set entries p (line, value)) ages used
  IsRow-replaced entries ages used line p value is at =
      let len : length (set entries p (line, value)) ≡ length entries = length-set entries p (line, value) in
      record {
        few = rw len is.few;
        eight = is.eight;
        filled = rw len is.filled;
        aged = rw len is.aged;
        apart = rw (replaced_lines entries ages used line p value is at) (AreApart-replaced line (record { value = value; place = p }) (lines_by_age entries ages used) is.apart);
      }

  -- a line that is found stands somewhere
  found_at : (line : Line) (entries : List (Line × T)) (value : T) → lookup line entries ≡ Some value → (i : ℕ) × (i < length entries) × ((d : Line × T) → ((get_or entries i d).0.0 ≡ line.0) × ((get_or entries i d).1 ≡ value))
  found_at line [] value found = absurd cc
  found_at line (entry ∷ rest) value found =
      ⊎_elim
      (λ (yes : eqb entry.0.0 line.0 ≡ true).
      let here : Some entry.1 ≡ Some value = rw yes at found in
      (0, omega arith, λ d. (eqb-true _ _ yes, cc)))
      (λ (no : eqb entry.0.0 line.0 ≡ false).
      let later : lookup line rest ≡ Some value = rw no at found in
      let there = found_at line rest value later in
      (suc there.0, omega (arith, there.1), there.2))
      (cases_Bool (eqb entry.0.0 line.0))

module _ {T : Type 0} where
  place_of_found : (o : Option (Placed T)) (p : ℕ) → option_map (λ placed. placed.place) o ≡ Some p → (v : Placed T) × (o ≡ Some v) × (v.place ≡ p)
  place_of_found None p at = absurd cc
  place_of_found (Some v) p at = (v, refl, cc)

  -- what the place that the list shows tells of the places
  pub place_told : (entries : List (Line × T)) (ages : List ℕ) (used : ℕ) (line : Line) (p : ℕ) → IsAgedRow entries ages used → place_of_line line (lines_by_age entries ages used) ≡ Some p → IsPlaceOf entries ages used line p
  place_told [] ages used line p is at = absurd cc
  place_told (d ∷ rest) ages used line p is at =
      let seen = place_of_found (lookup line (lines_by_age (d ∷ rest) ages used)) p at in
      let there = found_at line (lines_by_age (d ∷ rest) ages used) seen.0 seen.1 in
      let i : ℕ = there.0 in
      let small : i < used = rw (length-lines (d ∷ rest) ages used is.filled) at there.1 in
      let inside : i < length (d ∷ rest) = omega (arith, is.filled) in
      let x : Line × Placed T = placed_entry (d ∷ rest) d 0 in
      let entry = line_at (d ∷ rest) d x ages used i (place_of_age ages) is.filled is.aged small in
      let same : place_of_age ages i ≡ p = sym (ap (λ e. e.1.place) entry) ∙ ap (λ v. v.place) (there.2 x).1 ∙ seen.2 in
      let back = is.aged.by_age i inside in
      record {
        within = rw same at back.0;
        young = omega (arith, small, ap (λ q. get_or ages q 0) same, back.1);
        has = λ e. let within : p < length (d ∷ rest) = rw same at back.0 in
            ap (λ y. y.0.0) (get_or_default (d ∷ rest) p e d within) ∙
            ap (λ q. (get_or (d ∷ rest) q d).0.0) (sym same) ∙ sym (ap (λ y. y.0.0) entry) ∙ (there.2 x).0;
      }

  -- another place, in which no line is
  pub AreAges-opened : (entries : List (Line × T)) (e : Line × T) (ages : List ℕ) (used : ℕ) → IsAgedRow entries ages used → length entries < 8 → AreAges (set ages (length entries) (length entries)) (length (entries ++ e ∷ [])) (more_place (place_of_age ages) (length entries))
  AreAges-opened entries e ages used is room =
      let more : length (entries ++ e ∷ []) ≡ length entries + 1 = length-append entries (e ∷ []) in
      rw more (AreAges-more ages (length entries) (place_of_age ages) is.aged (omega (arith, is.eight)))

  pub opened_lines : (entries : List (Line × T)) (e : Line × T) (ages : List ℕ) (used : ℕ) → IsAgedRow entries ages used → length entries < 8 → lines_by_age (entries ++ e ∷ []) (set ages (length entries) (length entries)) used ≡ lines_by_age entries ages used
  opened_lines entries e ages used is room =
      let n : ℕ = length entries in
      let more : length (entries ++ e ∷ []) ≡ length entries + 1 = length-append entries (e ∷ []) in
      let filled : used ≤ length (entries ++ e ∷ []) = omega (arith, is.filled) in
      let was = length-lines entries ages used is.filled in
      let now = length-lines (entries ++ e ∷ []) (set ages n n) used filled in
      same_lists (lines_by_age (entries ++ e ∷ []) (set ages n n) used) (lines_by_age entries ages used) (now ∙ sym was)
      (λ k x below.
      let small : k < used = omega arith in
      let inside : k < length entries = omega (arith, is.filled) in
      let there = (is.aged.by_age k inside).0 in
      line_at (entries ++ e ∷ []) e x (set ages n n) used k (more_place (place_of_age ages) n) filled (AreAges-opened entries e ages used is room) small ∙
      ap (λ q. placed_entry (entries ++ e ∷ []) e q) (more_is (place_of_age ages) n k inside) ∙
      ap (λ y. (y.0, record { value = y.1; place = place_of_age ages k })) (get_or_append_left entries (e ∷ []) e (place_of_age ages k) there) ∙
      sym (line_at entries e x ages used k (place_of_age ages) is.filled is.aged small))

  -- the set once there is a place of an age that a line may take
  pub record IsOpened (entries : List (Line × T)) (ages : List ℕ) (used age : ℕ) (old : List (Line × Placed T)) : Type 0 where
    pub row : IsAgedRow entries ages used
    pub lines : lines_by_age entries ages used ≡ old
    pub within : age < length entries

  pub opened : (entries now : List (Line × T)) (e : Line × T) (ages new : List ℕ) (used age : ℕ) → IsAgedRow entries ages used → age ≤ used → age < 8 → (age < length entries → (now ≡ entries) × (new ≡ ages)) → (age ≡ length entries → (now ≡ entries ++ e ∷ []) × (new ≡ set ages age age)) → IsOpened now new used age (lines_by_age entries ages used)
  opened entries now e ages new used age is le few kept more =
      ⊎_elim
      (λ (there : age < length entries).
      let same = kept there in
      rw same.0 (rw same.1 (record { row = is; lines = refl; within = there })))
      (λ (past : length entries ≤ age).
      let last : age ≡ length entries = omega (arith, is.filled) in
      let same = more last in
      let ages_are : new ≡ set ages (length entries) (length entries) = same.1 ∙ ap (λ n. set ages n n) last in
      let room : length entries < 8 = omega arith in
      let length_is : length (entries ++ e ∷ []) ≡ length entries + 1 = length-append entries (e ∷ []) in
      rw same.0 (rw ages_are (record {
        row = record {
          few = omega arith;
          eight = length-set ages (length entries) (length entries) ∙ is.eight;
          filled = omega (arith, is.filled);
          aged = AreAges-found _ _ _ (AreAges-opened entries e ages used is room);
          apart = rw (opened_lines entries e ages used is room) is.apart;
        };
        lines = opened_lines entries e ages used is room;
        within = omega arith;
      })))
      (cases_lt age (length entries))

  -- a line that comes takes the place of an age
  pub added_lines : (entries : List (Line × T)) (ages new : List ℕ) (used age : ℕ) (line : Line) (value : T) → IsAgedRow entries ages used → age < length entries → age ≤ used → IsRaised ages (place_of_age ages age) new → lines_by_age (set entries (place_of_age ages age) (line, value)) new (age + 1) ≡ (line, record { value = value; place = place_of_age ages age }) ∷ take age (lines_by_age entries ages used)
  added_lines entries ages new used age line value is within le raised =
      let q : ℕ = place_of_age ages age in
      let there = is.aged.by_age age within in
      let d : Line × T = (line, value) in
      let now : List (Line × T) = set entries q d in
      let len : length now ≡ length entries = length-set entries q d in
      let are : AreAges new (length now) (raised_place (place_of_age ages) q (get_or ages q 0)) =
      rw len (AreAges-raised ages new (length entries) q (place_of_age ages) is.aged there.0 raised) in
      let filled : age + 1 ≤ length now = omega arith in
      let was = length-lines entries ages used is.filled in
      let have = length-lines now new (age + 1) filled in
      let cut = length-take age (lines_by_age entries ages used) in
      same_lists (lines_by_age now new (age + 1)) ((line, record { value = value; place = q }) ∷ take age (lines_by_age entries ages used)) (omega arith)
      (λ k x below. by_place k x (omega arith) filled are)
    where
      by_place : (k : ℕ) (x : Line × Placed T) → k < age + 1 → age + 1 ≤ length (set entries (place_of_age ages age) (line, value)) → AreAges new (length (set entries (place_of_age ages age) (line, value))) (raised_place (place_of_age ages) (place_of_age ages age) (get_or ages (place_of_age ages age) 0)) → get_or (lines_by_age (set entries (place_of_age ages age) (line, value)) new (age + 1)) k x ≡ get_or ((line, record { value = value; place = place_of_age ages age }) ∷ take age (lines_by_age entries ages used)) k x
      by_place zero x small filled are =
          let there = is.aged.by_age age within in
          line_at (set entries (place_of_age ages age) (line, value)) (line, value) x new (age + 1) 0 (raised_place (place_of_age ages) (place_of_age ages age) (get_or ages (place_of_age ages age) 0)) filled are small ∙
          ap (λ e. (e.0, record { value = e.1; place = place_of_age ages age })) (get_or-set_same entries (place_of_age ages age) (line, value) (line, value) there.0)
      by_place (suc v) x small filled are =
          let there = is.aged.by_age age within in
          let young : v < age = omega arith in
          let his = is.aged.by_age v (omega arith) in
          let other : place_of_age ages v ≢ place_of_age ages age = λ same. let e : v ≡ age = sym his.1 ∙ ap (λ i. get_or ages i 0) same ∙ there.1 in omega arith in
          line_at (set entries (place_of_age ages age) (line, value)) (line, value) x new (age + 1) (suc v) (raised_place (place_of_age ages) (place_of_age ages age) (get_or ages (place_of_age ages age) 0)) filled are small ∙
          ap (λ i. placed_entry (set entries (place_of_age ages age) (line, value)) (line, value) i) (raised_young (place_of_age ages) (place_of_age ages age) (get_or ages (place_of_age ages age) 0) v (omega (arith, there.1))) ∙
          ap (λ e. (e.0, record { value = e.1; place = place_of_age ages v })) (get_or-set_other entries (place_of_age ages age) (place_of_age ages v) (line, value) (line, value) other) ∙
          sym (line_at entries (line, value) x ages used v (place_of_age ages) is.filled is.aged (omega arith)) ∙
          sym (get_or-take age (lines_by_age entries ages used) v x young)

  pub IsRow-added : (entries : List (Line × T)) (ages new : List ℕ) (used age : ℕ) (line : Line) (value : T) → IsAgedRow entries ages used → age < length entries → age ≤ used → IsRaised ages (place_of_age ages age) new → lookup line (lines_by_age entries ages used) ≡ None → IsAgedRow (set entries (place_of_age ages age) (line, value)) new (age + 1)
  IsRow-added entries ages new used age line value is within le raised absent =
      let q : ℕ = place_of_age ages age in
      let there = is.aged.by_age age within in
      let len : length (set entries q (line, value)) ≡ length entries = length-set entries q (line, value) in
      record {
        few = rw len is.few;
        eight = raised.len ∙ is.eight;
        filled = omega arith;
        aged = rw len (AreAges-found _ _ _ (AreAges-raised ages new (length entries) q (place_of_age ages) is.aged there.0 raised));
        apart = rw (added_lines entries ages new used age line value is within le raised)
            (lookup-take_absent line age (lines_by_age entries ages used) absent, AreApart-take age (lines_by_age entries ages used) is.apart);
      }

module _ {T : Type 0} where
  -- what is cut off where a list is full
  pub front_taken : (x : T) (entries : List T) (ways age : ℕ) → 0 < ways → length entries ≤ ways → (length entries ≡ ways → age ≡ ways - 1) → (length entries ≢ ways → age ≡ length entries) → x ∷ take age entries ≡ take ways (x ∷ entries)
  front_taken x entries zero age some fits full room = absurd (omega arith)
  front_taken x entries (suc w) age some fits full room =
      ap (λ es. x ∷ es)
      (⊎_elim
      (λ (same : length entries ≡ suc w). ap (λ n. take n entries) (full same ∙ omega arith))
      (λ (other : length entries ≢ suc w).
      ap (λ n. take n entries) (room other) ∙ take_all (length entries) entries (omega arith) ∙ sym (take_all w entries (omega arith)))
      (cases_eq (length entries) (suc w)))

module _ {T : Type 0} where
  -- the most recent line in front
  pub front_touched : (line : Line) (entries : List (Line × T)) → StandsAt line entries 0 → ((d : Line × T) → (get_or entries 0 d).0.0 ≡ line.0) → touched line entries ≡ entries
  front_touched line [] stands has = absurd (omega (arith, stands.within))
  front_touched line (entry ∷ rest) stands has =
      touched_is line entry.1 (entry ∷ rest) (stands.found entry) ∙
      ap (λ es. (line, entry.1) ∷ es) stands.removed ∙
      ap (λ l. (l, entry.1) ∷ rest) (sym (line_by_number entry.0 line (has entry)))

module _ {T : Type 0} where
  pub untouched_lines : (entries : List (Line × T)) (ages : List ℕ) (used : ℕ) (line : Line) (p : ℕ) → IsAgedRow entries ages used → IsPlaceOf entries ages used line p → get_or ages p 0 ≡ 0 → touched line (lines_by_age entries ages used) ≡ lines_by_age entries ages used
  untouched_lines [] ages used line p is at front = absurd (omega (arith, at.within))
  untouched_lines (first ∷ rest) ages used line p is at front =
      let stands : StandsAt line (lines_by_age (first ∷ rest) ages used) 0 = rw front at (stands_in_lines (first ∷ rest) ages used line p is at) in
      let back = (is.aged.by_place p at.within).1 in
      let some : 0 < used = omega (arith, at.young) in
      front_touched line (lines_by_age (first ∷ rest) ages used) stands
      (λ d. ap (λ e. e.0.0) (line_at (first ∷ rest) first d ages used 0 (place_of_age ages) is.filled is.aged some) ∙
      ap (λ q. (get_or (first ∷ rest) q first).0.0) (ap (place_of_age ages) (sym front) ∙ back) ∙ at.has first)

  -- the entry of a way
  pub entry_of_way : (entries : List (Line × T)) (d : Line × T) (ages : List ℕ) (used way : ℕ) → IsAgedRow entries ages used → way < used → Some (placed_entry entries d (place_of_age ages way)) ≡ slice_get (lines_by_age entries ages used) way
  entry_of_way entries d ages used way is small =
      let x : Line × Placed T = placed_entry entries d 0 in
      let within : way < length (lines_by_age entries ages used) = rw (length-lines entries ages used is.filled) small in
      sym (slice_get_within (lines_by_age entries ages used) way x within ∙
      ap (λ e. Some e) (line_at entries d x ages used way (place_of_age ages) is.filled is.aged small))

  pub no_entry_of_way : (entries : List (Line × T)) (ages : List ℕ) (used way : ℕ) → IsAgedRow entries ages used → used ≤ way → None ≡ slice_get (lines_by_age entries ages used) way
  no_entry_of_way entries ages used way is past =
      sym ((slice_get_past (lines_by_age entries ages used) way (rw (length-lines entries ages used is.filled) past)))

  pub are_places : (entries : List (Line × T)) (ages : List ℕ) (used : ℕ) → IsAgedRow entries ages used → ArePlaces (lines_by_age entries ages used)
  are_places [] ages used is = record { below = λ l p at. absurd cc; apart = λ l k p at there. absurd cc }
  are_places (first ∷ rest) ages used is = record {
    below = λ l p at. let told = place_told (first ∷ rest) ages used l p is at in omega (arith, told.within, is.few);
    apart = λ l k p at there.
        sym ((place_told (first ∷ rest) ages used l p is at).has first) ∙ (place_told (first ∷ rest) ages used k p is there).has first;
  }
