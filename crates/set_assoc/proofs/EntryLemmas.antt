-- Where a line stands in its set, and what that makes of the set.
use Rattle.std.proofs.Common.{◌≡◌, ℕ, zero, suc, ◌<◌, Bool, true, false, List, [], ◌∷◌, Some, None, length, get_or, take, ◌%◌, ⊎_elim, eqb, sym, ◌∙◌, ap, refl, arith}
use Rattle.std.proofs.lemmas.Bool.{cases_Bool, eqb-true}
use Rattle.conda_base.specs.declared.Line.{Line}
use Rattle.conda_base.proofs.LineLemmas.{line_by_number}
use Rattle.set_assoc.specs.Entries.{lookup, without, replaced, StandsAt, IsAbsent, AreEntries}

module _ {T : Type 0} where
  -- the test that the code makes
  abbrev pub is_of : Line → Line × T → Bool
  is_of line entry = eqb entry.0.0 line.0

  pub stands_at : (line : Line) (entries : List (Line × T)) (i : ℕ) → i < length entries → ((d : Line × T) → is_of line (get_or entries i d) ≡ true) → ((k : ℕ) (d : Line × T) → k < i → is_of line (get_or entries k d) ≡ false) → StandsAt line entries i
  stands_at line [] i within here before = absurd (omega arith)
  stands_at line (entry ∷ rest) zero within here before =
      let first : is_of line entry ≡ true = here entry in
      record { within = within; found = λ d. rw first refl; removed = rw first refl; written = λ value. rw first refl }
  stands_at line (entry ∷ rest) (suc i) within here before =
      let first : is_of line entry ≡ false = before 0 entry (omega arith) in
      let later = stands_at line rest i (omega arith) here (λ k d below. before (suc k) d (omega arith)) in
      record {
        within = within;
        found = λ d. rw first (later.found d);
        removed = rw first (ap (λ xs. entry ∷ xs) later.removed);
        written = λ value. rw first (ap (λ xs. entry ∷ xs) (later.written value));
      }

  pub is_absent : (line : Line) (entries : List (Line × T)) → ((k : ℕ) (d : Line × T) → k < length entries → is_of line (get_or entries k d) ≡ false) → IsAbsent line entries
  is_absent line [] none = record { found = refl; removed = refl; written = λ value. refl }
  is_absent line (entry ∷ rest) none =
      let first : is_of line entry ≡ false = none 0 entry (omega arith) in
      let later = is_absent line rest (λ k d below. none (suc k) d (omega arith)) in
      record {
        found = rw first later.found;
        removed = rw first (ap (λ xs. entry ∷ xs) later.removed);
        written = λ value. rw first (ap (λ xs. entry ∷ xs) (later.written value));
      }

  -- a line that isn't there isn't the first one, and isn't among the rest
  pub absent_parts : (a : Line) (entry : Line × T) (rest : List (Line × T)) → lookup a (entry ∷ rest) ≡ None → (eqb entry.0.0 a.0 ≡ false) × (lookup a rest ≡ None)
  absent_parts a entry rest absent =
      ⊎_elim (λ yes. let found : Some entry.1 ≡ None = rw yes at absent in absurd cc)
      (λ no. (no, rw no at absent)) (cases_Bool (eqb entry.0.0 a.0))

  pub lookup-without_absent : (a line : Line) (entries : List (Line × T)) → lookup a entries ≡ None → lookup a (without line entries) ≡ None
  lookup-without_absent a line [] absent = refl
  lookup-without_absent a line (entry ∷ rest) absent =
      let parts = absent_parts a entry rest absent in
      ⊎_elim (λ yes. rw yes parts.1) (λ no. rw no (rw parts.0 (lookup-without_absent a line rest parts.1))) (cases_Bool (eqb entry.0.0 line.0))

  pub lookup-replaced_absent : (a line : Line) (value : T) (entries : List (Line × T)) → lookup a entries ≡ None → lookup a (replaced line value entries) ≡ None
  lookup-replaced_absent a line value [] absent = refl
  lookup-replaced_absent a line value (entry ∷ rest) absent =
      let parts = absent_parts a entry rest absent in
      ⊎_elim
      (λ yes. let same : entry.0.0 ≡ line.0 = eqb-true _ _ yes in
      let other : eqb line.0 a.0 ≡ false = rw same at parts.0 in rw yes (rw other parts.1))
      (λ no. rw no (rw parts.0 (lookup-replaced_absent a line value rest parts.1))) (cases_Bool (eqb entry.0.0 line.0))

  pub lookup-take_absent : (a : Line) (m : ℕ) (entries : List (Line × T)) → lookup a entries ≡ None → lookup a (take m entries) ≡ None
  lookup-take_absent a zero entries absent = refl
  lookup-take_absent a (suc m) [] absent = refl
  lookup-take_absent a (suc m) (entry ∷ rest) absent =
      let parts = absent_parts a entry rest absent in rw parts.0 (lookup-take_absent a m rest parts.1)

  -- each change keeps the lines of a set in it, and none of them twice
  pub AreEntries-without : (n k : ℕ) (line : Line) (entries : List (Line × T)) → AreEntries n k entries → AreEntries n k (without line entries)
  AreEntries-without n k line [] are = tt
  AreEntries-without n k line (entry ∷ rest) are =
      ⊎_elim (λ yes. rw yes are.2)
      (λ no. rw no (are.0, lookup-without_absent entry.0 line rest are.1, AreEntries-without n k line rest are.2))
      (cases_Bool (eqb entry.0.0 line.0))

  pub AreEntries-replaced : (n k : ℕ) (line : Line) (value : T) (entries : List (Line × T)) → AreEntries n k entries → AreEntries n k (replaced line value entries)
  AreEntries-replaced n k line value [] are = tt
  AreEntries-replaced n k line value (entry ∷ rest) are =
      ⊎_elim
      (λ yes. let same : entry.0.0 ≡ line.0 = eqb-true _ _ yes in
      let placed : line.0 % n ≡ k = rw same at are.0 in
      let absent : lookup line rest ≡ None = ap (λ l. lookup l rest) (line_by_number line entry.0 (sym same)) ∙ are.1 in
      rw yes (placed, absent, are.2))
      (λ no. rw no (are.0, lookup-replaced_absent entry.0 line value rest are.1, AreEntries-replaced n k line value rest are.2))
      (cases_Bool (eqb entry.0.0 line.0))

  pub AreEntries-take : (n k m : ℕ) (entries : List (Line × T)) → AreEntries n k entries → AreEntries n k (take m entries)
  AreEntries-take n k zero entries are = tt
  AreEntries-take n k (suc m) [] are = tt
  AreEntries-take n k (suc m) (entry ∷ rest) are =
      (are.0, lookup-take_absent entry.0 m rest are.1, AreEntries-take n k m rest are.2)

  -- a line that was taken out isn't there
  pub lookup-without_same : (n k : ℕ) (line : Line) (entries : List (Line × T)) → AreEntries n k entries → lookup line (without line entries) ≡ None
  lookup-without_same n k line [] are = refl
  lookup-without_same n k line (entry ∷ rest) are =
      ⊎_elim
      (λ yes. rw yes (ap (λ l. lookup l rest) (line_by_number line entry.0 (sym (eqb-true _ _ yes))) ∙ are.1))
      (λ no. rw no (rw no (lookup-without_same n k line rest are.2)))
      (cases_Bool (eqb entry.0.0 line.0))

  -- a line among the rest isn't the first one
  pub other_line : (a : Line) (entry : Line × T) (rest : List (Line × T)) (value : T) → lookup entry.0 rest ≡ None → lookup a rest ≡ Some value → eqb entry.0.0 a.0 ≡ false
  other_line a entry rest value absent there =
      ⊎_elim
      (λ (yes : eqb entry.0.0 a.0 ≡ true).
      let none : lookup a rest ≡ None = ap (λ l. lookup l rest) (line_by_number a entry.0 (sym (eqb-true _ _ yes))) ∙ absent in absurd cc)
      (λ no. no) (cases_Bool (eqb entry.0.0 a.0))

  pub length-replaced : (line : Line) (new : T) (entries : List (Line × T)) → length (replaced line new entries) ≡ length entries
  length-replaced line new [] = refl
  length-replaced line new (entry ∷ rest) =
      ⊎_elim (λ yes. rw yes refl) (λ no. rw no (ap suc (length-replaced line new rest))) (cases_Bool (eqb entry.0.0 line.0))

  pub length-without : (line : Line) (value : T) (entries : List (Line × T)) → lookup line entries ≡ Some value → suc (length (without line entries)) ≡ length entries
  length-without line value [] there = absurd cc
  length-without line value (entry ∷ rest) there =
      ⊎_elim (λ yes. rw yes refl) (λ no. rw no (ap suc (length-without line value rest (rw no at there)))) (cases_Bool (eqb entry.0.0 line.0))
