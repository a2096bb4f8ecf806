-- Sets whose values are seen through a function, as sets without the places of their lines.
use Rattle.std.proofs.Common.{◌≡◌, ℕ, zero, suc, ◌-◌, ◌%◌, ◌<◌, ⊎_elim, eqb, List, [], ◌∷◌, Option, Some, None, length, get_or, map, take, set, sym, ap, ◌∙◌, refl, arith}
use Rattle.std.specs.Option.{option_map}
use Rattle.std.specs.Prelude.{slice_get, replicate}
use Rattle.std.proofs.lemmas.List.{length-map, map-set, set-get_or, take-map}
use Rattle.std.proofs.lemmas.Option.{slice_get-map}
use Rattle.std.proofs.Math.ListN.{get_or-map}
use Rattle.std.proofs.lemmas.List.{get_or-map as get_or-map_within}
use Rattle.std.proofs.lemmas.Bool.{cases_Bool, eqb-true}
use Rattle.conda_base.specs.declared.Line.{Line}
use Rattle.set_assoc.specs.declared.placed.Placed.{Placed}
use Rattle.set_assoc.specs.Entries.{lookup, without, replaced, touched, AreEntries}
use Rattle.set_assoc.specs.SetLists.{SetLists, AreSets, set_of, list_of, with_list, IsSets}
use Rattle.set_assoc.specs.Seen.{seen_list, seen_through, without_places}
use Rattle.conda_base.proofs.LineLemmas.{line_by_number}
use Rattle.set_assoc.proofs.EntryLemmas.{absent_parts}

module _ {T : Type 0} where
  pub touched_some : (l : Line) (value : T) (entries : List (Line × T)) → lookup l entries ≡ Some value → touched l entries ≡ (l, value) ∷ without l entries
  touched_some l value entries found = rw found refl

  pub touched_none : (l : Line) (entries : List (Line × T)) → lookup l entries ≡ None → touched l entries ≡ entries
  touched_none l entries absent = rw absent refl

  pub without_none : (l : Line) (entries : List (Line × T)) → lookup l entries ≡ None → without l entries ≡ entries
  without_none l [] absent = refl
  without_none l (entry ∷ rest) absent =
      let parts = absent_parts l entry rest absent in
      rw parts.0 (ap (λ es. entry ∷ es) (without_none l rest parts.1))

  pub replaced_none : (l : Line) (value : T) (entries : List (Line × T)) → lookup l entries ≡ None → replaced l value entries ≡ entries
  replaced_none l value [] absent = refl
  replaced_none l value (entry ∷ rest) absent =
      let parts = absent_parts l entry rest absent in
      rw parts.0 (ap (λ es. entry ∷ es) (replaced_none l value rest parts.1))

  -- a list that stays
  pub with_same_list : (sets : SetLists T) (l : Line) (entries : List (Line × T)) → entries ≡ list_of sets l → with_list sets l entries ≡ sets
  with_same_list sets l entries same =
      ap (λ es. with_list sets l es) same ∙
      ap (λ lists. record { ways = sets.ways; lists = lists }) (set-get_or sets.lists (set_of sets l) [])

module _ {A B : Type 0} where
  pub lookup-seen_list : (f : Line → A → B) (l : Line) (entries : List (Line × A)) → lookup l (seen_list f entries) ≡ option_map (f l) (lookup l entries)
  lookup-seen_list f l [] = refl
  lookup-seen_list f l (entry ∷ rest) =
      ⊎_elim
      (λ yes. rw yes (ap (λ k. Some (f k entry.1)) (line_by_number entry.0 l (eqb-true _ _ yes))))
      (λ no. rw no (lookup-seen_list f l rest)) (cases_Bool (eqb entry.0.0 l.0))

  pub without-seen_list : (f : Line → A → B) (l : Line) (entries : List (Line × A)) → without l (seen_list f entries) ≡ seen_list f (without l entries)
  without-seen_list f l [] = refl
  without-seen_list f l (entry ∷ rest) =
      ⊎_elim (λ yes. rw yes refl) (λ no. rw no (ap (λ es. (entry.0, f entry.0 entry.1) ∷ es) (without-seen_list f l rest))) (cases_Bool (eqb entry.0.0 l.0))

  pub replaced-seen_list : (f : Line → A → B) (l : Line) (new : A) (entries : List (Line × A)) → replaced l (f l new) (seen_list f entries) ≡ seen_list f (replaced l new entries)
  replaced-seen_list f l new [] = refl
  replaced-seen_list f l new (entry ∷ rest) =
      ⊎_elim (λ yes. rw yes refl) (λ no. rw no (ap (λ es. (entry.0, f entry.0 entry.1) ∷ es) (replaced-seen_list f l new rest))) (cases_Bool (eqb entry.0.0 l.0))

  pub touched-seen_list : (f : Line → A → B) (l : Line) (entries : List (Line × A)) → touched l (seen_list f entries) ≡ seen_list f (touched l entries)
  touched-seen_list f l entries = by_case (lookup l entries) refl
    where
      by_case : (o : Option A) → lookup l entries ≡ o → touched l (seen_list f entries) ≡ seen_list f (touched l entries)
      by_case None absent =
          touched_none l (seen_list f entries) (lookup-seen_list f l entries ∙ ap (λ o. option_map (f l) o) absent) ∙
          ap (seen_list f) (sym (touched_none l entries absent))
      by_case (Some value) found =
          touched_some l (f l value) (seen_list f entries) (lookup-seen_list f l entries ∙ ap (λ o. option_map (f l) o) found) ∙
          ap (λ es. (l, f l value) ∷ es) (without-seen_list f l entries) ∙
          ap (seen_list f) (sym (touched_some l value entries found))

  pub list_of-seen : (f : Line → A → B) (sets : SetLists A) (l : Line) → list_of (seen_through f sets) l ≡ seen_list f (list_of sets l)
  list_of-seen f sets l =
      ap (λ n. get_or (map (seen_list f) sets.lists) (l.0 % n) []) (length-map sets.lists (seen_list f)) ∙
      get_or-map (seen_list f) sets.lists (set_of sets l) []

  pub find-seen : (f : Line → A → B) (sets : SetLists A) (l : Line) → lookup l (list_of (seen_through f sets) l) ≡ option_map (f l) (lookup l (list_of sets l))
  find-seen f sets l = ap (λ es. lookup l es) (list_of-seen f sets l) ∙ lookup-seen_list f l (list_of sets l)

  -- a change of a list is seen as that change
  pub with_list-seen : (f : Line → A → B) (sets : SetLists A) (l : Line) (entries : List (Line × A)) → seen_through f (with_list sets l entries) ≡ with_list (seen_through f sets) l (seen_list f entries)
  with_list-seen f sets l entries =
      ap (λ lists. record { ways = sets.ways; lists = lists })
      (map-set (seen_list f) sets.lists (set_of sets l) entries ∙
      ap (λ n. set (map (seen_list f) sets.lists) (l.0 % n) (seen_list f entries)) (sym (length-map sets.lists (seen_list f))))

  pub changed-seen : (f : Line → A → B) (sets : SetLists A) (l : Line) (entries : List (Line × A)) (seen : List (Line × B)) → seen ≡ seen_list f entries → seen_through f (with_list sets l entries) ≡ with_list (seen_through f sets) l seen
  changed-seen f sets l entries seen is = with_list-seen f sets l entries ∙ ap (λ es. with_list (seen_through f sets) l es) (sym is)

  pub AreEntries-seen : (f : Line → A → B) (n k : ℕ) (entries : List (Line × A)) → AreEntries n k entries → AreEntries n k (seen_list f entries)
  AreEntries-seen f n k [] are = tt
  AreEntries-seen f n k (entry ∷ rest) are =
      (are.0, lookup-seen_list f entry.0 rest ∙ ap (λ o. option_map (f entry.0) o) are.1, AreEntries-seen f n k rest are.2)

  pub AreSets-seen : (f : Line → A → B) (sets ways : ℕ) (lists : List (List (Line × A))) → AreSets sets ways lists → AreSets sets ways (map (seen_list f) lists)
  AreSets-seen f sets ways lists are = record {
    count = length-map lists (seen_list f) ∙ are.count;
    some = are.some;
    some_ways = are.some_ways;
    few_ways = are.few_ways;
    entries = λ k below. rw (get_or-map (seen_list f) lists k []) (AreEntries-seen f sets k (get_or lists k []) (are.entries k below));
    short = λ k d below.
        let inside : k < length lists = rw (length-map lists (seen_list f)) at below in
        rw (get_or-map_within (seen_list f) lists k [] d inside) (let same : length (seen_list f (get_or lists k [])) ≡ length (get_or lists k []) = length-map (get_or lists k []) (λ e. (e.0, f e.0 e.1)) in rw same (are.short k [] inside));
  }

  pub IsSets-seen : (f : Line → A → B) (sets : SetLists A) → IsSets sets → IsSets (seen_through f sets)
  IsSets-seen f sets are = rw (length-map sets.lists (seen_list f)) (AreSets-seen f (length sets.lists) sets.ways sets.lists are)

  pub replicate-seen : (f : Line → A → B) (n : ℕ) → map (seen_list f) (replicate n []) ≡ replicate n []
  replicate-seen f zero = refl
  replicate-seen f (suc n) = ap (λ lists. [] ∷ lists) (replicate-seen f n)

module _ {T : Type 0} where
  pub found_seen : (sets : SetLists (Placed T)) (l : Line) (v : Placed T) → lookup l (list_of sets l) ≡ Some v → lookup l (list_of (without_places sets) l) ≡ Some v.value
  found_seen sets l v found = find-seen (λ _ kept. kept.value) sets l ∙ ap (λ o. option_map (λ kept. kept.value) o) found

  pub absent_seen : (sets : SetLists (Placed T)) (l : Line) → lookup l (list_of sets l) ≡ None → lookup l (list_of (without_places sets) l) ≡ None
  absent_seen sets l at =
      find-seen (λ _ kept. kept.value) sets l ∙
      ap (λ o. option_map (λ kept. kept.value) o) at

  pub absent_before : (sets : SetLists (Placed T)) (l : Line) → lookup l (list_of (without_places sets) l) ≡ None → lookup l (list_of sets l) ≡ None
  absent_before sets l absent = no_value (lookup l (list_of sets l)) (sym (find-seen (λ _ kept. kept.value) sets l) ∙ absent)
    where
      no_value : (o : Option (Placed T)) → option_map (λ kept. kept.value) o ≡ None → o ≡ None
      no_value None at = refl
      no_value (Some value) at = absurd cc

  pub sets_seen : (sets : SetLists (Placed T)) → IsSets sets → IsSets (without_places sets)
  sets_seen sets are = IsSets-seen (λ _ kept. kept.value) sets are

  pub replaced_seen : (sets : SetLists (Placed T)) (l : Line) (v : Placed T) → without_places (with_list sets l (replaced l v (list_of sets l))) ≡ with_list (without_places sets) l (replaced l v.value (list_of (without_places sets) l))
  replaced_seen sets l v =
      changed-seen (λ _ kept. kept.value) sets l (replaced l v (list_of sets l)) (replaced l v.value (list_of (without_places sets) l))
      (ap (λ es. replaced l v.value es) (list_of-seen (λ _ kept. kept.value) sets l) ∙ replaced-seen_list (λ _ kept. kept.value) l v (list_of sets l))

  pub touched_seen : (sets : SetLists (Placed T)) (l : Line) → without_places (with_list sets l (touched l (list_of sets l))) ≡ with_list (without_places sets) l (touched l (list_of (without_places sets) l))
  touched_seen sets l =
      changed-seen (λ _ kept. kept.value) sets l (touched l (list_of sets l)) (touched l (list_of (without_places sets) l))
      (ap (λ es. touched l es) (list_of-seen (λ _ kept. kept.value) sets l) ∙ touched-seen_list (λ _ kept. kept.value) l (list_of sets l))

  pub removed_seen : (sets : SetLists (Placed T)) (l : Line) → without_places (with_list sets l (without l (list_of sets l))) ≡ with_list (without_places sets) l (without l (list_of (without_places sets) l))
  removed_seen sets l =
      changed-seen (λ _ kept. kept.value) sets l (without l (list_of sets l)) (without l (list_of (without_places sets) l))
      (ap (λ es. without l es) (list_of-seen (λ _ kept. kept.value) sets l) ∙ without-seen_list (λ _ kept. kept.value) l (list_of sets l))

  pub added_seen : (sets : SetLists (Placed T)) (l : Line) (v : Placed T) → without_places (with_list sets l (take sets.ways ((l, v) ∷ list_of sets l))) ≡ with_list (without_places sets) l (take sets.ways ((l, v.value) ∷ list_of (without_places sets) l))
  added_seen sets l v =
      changed-seen (λ _ kept. kept.value) sets l (take sets.ways ((l, v) ∷ list_of sets l)) (take sets.ways ((l, v.value) ∷ list_of (without_places sets) l))
      (ap (λ es. take sets.ways ((l, v.value) ∷ es)) (list_of-seen (λ _ kept. kept.value) sets l) ∙
      take-map (λ e. (e.0, e.1.value)) sets.ways ((l, v) ∷ list_of sets l))

  pub last_seen : (sets : SetLists (Placed T)) (l : Line) (value : T) → 0 < sets.ways → option_map (λ e. (e.0, e.1.value)) (slice_get (list_of sets l) (sets.ways - 1)) ≡ slice_get ((l, value) ∷ list_of (without_places sets) l) sets.ways
  last_seen sets l value some = by_ways sets.ways some
    where
      by_ways : (ways : ℕ) → 0 < ways → option_map (λ e. (e.0, e.1.value)) (slice_get (list_of sets l) (ways - 1)) ≡ slice_get ((l, value) ∷ list_of (without_places sets) l) ways
      by_ways zero some = absurd (omega arith)
      by_ways (suc w) some =
          let less : suc w - 1 ≡ w = omega arith in
          rw less (sym (ap (λ es. slice_get es w) (list_of-seen (λ _ kept. kept.value) sets l) ∙ slice_get-map (λ e. (e.0, e.1.value)) (list_of sets l) w))

  -- what a line that isn't there changes
  pub not_replaced : (sets : SetLists T) (l : Line) (value : T) → lookup l (list_of sets l) ≡ None → sets ≡ with_list sets l (replaced l value (list_of sets l))
  not_replaced sets l value absent = sym (with_same_list sets l (replaced l value (list_of sets l)) (replaced_none l value (list_of sets l) absent))

  pub not_touched : (sets : SetLists T) (l : Line) → lookup l (list_of sets l) ≡ None → sets ≡ with_list sets l (touched l (list_of sets l))
  not_touched sets l absent = sym (with_same_list sets l (touched l (list_of sets l)) (touched_none l (list_of sets l) absent))

  pub not_removed : (sets : SetLists T) (l : Line) → lookup l (list_of sets l) ≡ None → sets ≡ with_list sets l (without l (list_of sets l))
  not_removed sets l absent = sym (with_same_list sets l (without l (list_of sets l)) (without_none l (list_of sets l) absent))

  pub empty_seen : (ways n : ℕ) → without_places {T = T} (record { ways = ways; lists = replicate n [] }) ≡ record { ways = ways; lists = replicate n [] }
  empty_seen ways n = ap (λ lists. record { ways = ways; lists = lists }) (replicate-seen (λ _ kept. kept.value) n)

  pub cleared_seen : (sets : SetLists (Placed T)) → without_places {T = T} (record { ways = sets.ways; lists = replicate (length sets.lists) [] }) ≡ record { ways = sets.ways; lists = replicate (length (without_places sets).lists) [] }
  cleared_seen sets =
      empty_seen sets.ways (length sets.lists) ∙
      ap (λ n. record { ways = sets.ways; lists = replicate n [] }) (sym (length-map sets.lists (seen_list (λ _ kept. kept.value))))

  -- an entry of a list
  pub at_seen : (sets : SetLists (Placed T)) (set way : ℕ) → option_map (λ e. (e.0, e.1.value)) (slice_get (get_or sets.lists set []) way) ≡ slice_get (get_or (without_places sets).lists set []) way
  at_seen sets set way =
      sym (ap (λ es. slice_get es way) (get_or-map (seen_list (λ _ kept. kept.value)) sets.lists set []) ∙
      slice_get-map (λ e. (e.0, e.1.value)) (get_or sets.lists set []) way)
