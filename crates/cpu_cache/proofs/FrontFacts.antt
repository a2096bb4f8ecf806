-- A held line that comes to the front in another state.
use Rattle.std.proofs.Common.{◌≡◌, ◌<◌, ℕ, ⊎_elim, eqb, List, [], ◌∷◌, Option, Some, None, length, ap, ◌∙◌, refl}
use Rattle.std.specs.Option.{option_map}
use Rattle.std.proofs.lemmas.Bool.{cases_Bool, eq-eqb}
use Rattle.std.proofs.lemmas.List.{length-set}
use Rattle.conda_base.specs.declared.Line.{Line}
use Rattle.set_assoc.specs.Entries.{lookup, without, replaced, touched}
use Rattle.set_assoc.specs.Places.{placed, place_of_line}
use Rattle.set_assoc.specs.declared.placed.Placed.{Placed}
use Rattle.set_assoc.specs.SetLists.{SetLists, set_of, list_of, with_list}
use Rattle.set_assoc.proofs.SetLemmas.{list_of-with_list, lookup-replaced_same}
use Rattle.set_assoc.proofs.SeenFacts.{touched_some}
use Rattle.cpu_cache.proofs.ViewFacts.{with_list_twice}

module _ {T : Type 0} where
  without-replaced : (l : Line) (value : T) (entries : List (Line × T)) → without l (replaced l value entries) ≡ without l entries
  without-replaced l value [] = refl
  without-replaced l value (entry ∷ rest) =
      ⊎_elim (λ yes. rw yes (rw (eq-eqb l.0 l.0 refl) refl))
      (λ no. rw no (rw no (ap (λ es. entry ∷ es) (without-replaced l value rest)))) (cases_Bool (eqb entry.0.0 l.0))

  front_again : (sets : SetLists T) (l : Line) (was value : T) → 0 < length sets.lists → lookup l (list_of sets l) ≡ Some was → with_list (with_list sets l (replaced l value (list_of sets l))) l (touched l (list_of (with_list sets l (replaced l value (list_of sets l))) l)) ≡ with_list sets l ((l, value) ∷ without l (list_of sets l))
  front_again sets l was value some there =
      let new : List (Line × T) = replaced l value (list_of sets l) in
      ap (λ es. with_list (with_list sets l new) l (touched l es)) (list_of-with_list sets l new some) ∙
      with_list_twice sets l new (touched l new) ∙
      ap (λ es. with_list sets l es)
      (touched_some l value new (lookup-replaced_same l value was (list_of sets l) there) ∙
      ap (λ es. (l, value) ∷ es) (without-replaced l value (list_of sets l)))

-- what the place of a line tells of it
module _ {T : Type 0} where
  place_found : (o : Option (Placed T)) (p : ℕ) → option_map (λ kept. kept.place) o ≡ Some p → (v : Placed T) × (o ≡ Some v)
  place_found None p at = absurd cc
  place_found (Some v) p at = (v, refl)

  -- the place of a line that has a new value
  pub replaced_place : (sets : SetLists (Placed T)) (l : Line) (value : T) (p : ℕ) → 0 < length sets.lists → place_of_line l (list_of sets l) ≡ Some p → place_of_line l (list_of (with_list sets l (replaced l (placed value p) (list_of sets l))) l) ≡ Some p
  replaced_place sets l value p some at =
      let was = place_found (lookup l (list_of sets l)) p at in
      ap (λ es. place_of_line l es) (list_of-with_list sets l (replaced l (placed value p) (list_of sets l)) some) ∙
      ap (λ o. option_map (λ kept. kept.place) o) (lookup-replaced_same l (placed value p) was.0 (list_of sets l) was.1)

  pub replaced_front : (sets : SetLists (Placed T)) (l : Line) (value : T) (p : ℕ) → 0 < length sets.lists → place_of_line l (list_of sets l) ≡ Some p → with_list (with_list sets l (replaced l (placed value p) (list_of sets l))) l (touched l (list_of (with_list sets l (replaced l (placed value p) (list_of sets l))) l)) ≡ with_list sets l ((l, placed value p) ∷ without l (list_of sets l))
  replaced_front sets l value p some at =
      let was = place_found (lookup l (list_of sets l)) p at in
      front_again sets l was.0 (placed value p) some was.1

module _ {T : Type 0} where
  pub some_before : (sets now : SetLists T) (l : Line) (entries : List (Line × T)) → now ≡ with_list sets l entries → 0 < length now.lists → 0 < length sets.lists
  some_before sets now l entries is some =
      let len : length now.lists ≡ length sets.lists = ap (λ (s : SetLists T). length s.lists) is ∙ length-set sets.lists (set_of sets l) entries in
      rw len at some
