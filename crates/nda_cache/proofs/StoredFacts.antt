-- The stored lines are those with a mark, each once.
use Rattle.std.proofs.Common.{◌≡◌, ◌≢◌, ℕ, zero, suc, ◌-◌, ◌<◌, ◌≤◌, ⊎_elim, true, false, eqb, List, [], ◌∷◌, ◌++◌, Option, length, get_or, sym, ap, subst, ◌∙◌, refl, arith}
use Rattle.std.proofs.lemmas.List.{get_or_append_left, get_or-append_right, length-append}
use Rattle.std.proofs.lemmas.Bool.{cases_eq, cases_Bool, cases_lt, eq-eqb, eqb-true, false≢true, or_left, or_right}
use Rattle.conda_base.specs.declared.Line.{Line}
use Rattle.conda_base.specs.LineLists.{NamesOnce, names}
use Rattle.write_masks.specs.declared.Masked.{Masked}
use Rattle.set_assoc.specs.Entries.{lookup}
use Rattle.nda_cache.specs.Tried.{unknown, masked_or_unknown, has_marks, put_line}
use Rattle.nda_cache.proofs.SetFacts.{test_by_apart}
use Rattle.nda_cache.proofs.LineFacts.{known-put}

names-at : (stored : List Line) (k : ℕ) (d l : Line) → k < length stored → (get_or stored k d).0 ≡ l.0 → names stored l ≡ true
names-at [] k d l below same = absurd (omega arith)
names-at (x ∷ stored) zero d l below same = or_left _ _ (eq-eqb x.0 l.0 same)
names-at (x ∷ stored) (suc k) d l below same = or_right _ _ (names-at stored k d l (omega arith) same)

pub once-push : (stored : List Line) (l : Line) → NamesOnce stored → names stored l ≡ false → NamesOnce (stored ++ l ∷ [])
once-push stored l once off i j d before below =
    let len = length-append stored (l ∷ []) in
    ⊎_elim
    (λ (inside : j < length stored).
    subst (λ (a : Line). a.0 ≢ (get_or (stored ++ l ∷ []) j d).0) (sym (get_or_append_left stored (l ∷ []) d i (omega arith)))
    (subst (λ (b : Line). (get_or stored i d).0 ≢ b.0) (sym (get_or_append_left stored (l ∷ []) d j inside)) (once i j d before inside)))
    (λ (past : length stored ≤ j).
    let none : j - length stored ≡ 0 = omega arith in
    let last : get_or (stored ++ l ∷ []) j d ≡ l = get_or-append_right stored (l ∷ []) (length stored) j d refl past ∙ ap (λ k. get_or (l ∷ []) k d) none in
    let first : get_or (stored ++ l ∷ []) i d ≡ get_or stored i d = get_or_append_left stored (l ∷ []) d i (omega arith) in
    λ (same : (get_or (stored ++ l ∷ []) i d).0 ≡ (get_or (stored ++ l ∷ []) j d).0).
    let equal : (get_or stored i d).0 ≡ l.0 = sym (ap (λ (a : Line). a.0) first) ∙ same ∙ ap (λ (a : Line). a.0) last in
    absurd (false≢true (sym off ∙ names-at stored i d l (omega arith) equal)))
    (cases_lt j (length stored))

-- a line of which nothing is known, behind the others
pub known-behind : (lines : List (Line × Masked)) (l a : Line) → masked_or_unknown (lookup a (lines ++ (l, unknown) ∷ [])) ≡ masked_or_unknown (lookup a lines)
known-behind [] l a =
    ⊎_elim (λ (on : eqb l.0 a.0 ≡ true). rw on refl) (λ (off : eqb l.0 a.0 ≡ false). rw off refl) (cases_Bool (eqb l.0 a.0))
known-behind (entry ∷ lines) l a =
    ⊎_elim
    (λ (on : eqb entry.0.0 a.0 ≡ true). rw on refl)
    (λ (off : eqb entry.0.0 a.0 ≡ false). rw off (known-behind lines l a))
    (cases_Bool (eqb entry.0.0 a.0))

-- the other lines of a list in which one was put
pub known-other : (l : Line) (masked : Masked) (lines : List (Line × Masked)) (a : Line) → a.0 ≢ l.0 → lookup a (put_line l masked lines) ≡ lookup a lines
known-other l masked [] a apart = rw (test_by_apart l.0 a.0 (λ same. apart (sym same))) refl
known-other l masked (entry ∷ rest) a apart =
    ⊎_elim
    (λ (on : eqb entry.0.0 l.0 ≡ true).
    let here : eqb l.0 a.0 ≡ false = test_by_apart l.0 a.0 (λ same. apart (sym same)) in
    let first : eqb entry.0.0 a.0 ≡ false = test_by_apart entry.0.0 a.0 (λ same. apart (sym same ∙ eqb-true _ _ on)) in
    rw on (rw here (rw first refl)))
    (λ (off : eqb entry.0.0 l.0 ≡ false).
    rw off
    (⊎_elim
    (λ (yes : eqb entry.0.0 a.0 ≡ true). rw yes refl)
    (λ (no : eqb entry.0.0 a.0 ≡ false). rw no (known-other l masked rest a apart))
    (cases_Bool (eqb entry.0.0 a.0))))
    (cases_Bool (eqb entry.0.0 l.0))

pub marked-changed : (lines : List (Line × Masked)) (stored new_stored : List Line) (l : Line) (new : Masked) → ((a : Line) → names stored a ≡ has_marks (masked_or_unknown (lookup a lines))) → ((a : Line) → a.0 ≡ l.0 → names new_stored a ≡ has_marks new) → ((a : Line) → a.0 ≢ l.0 → names new_stored a ≡ names stored a) → (a : Line) → names new_stored a ≡ has_marks (masked_or_unknown (lookup a (put_line l new lines)))
marked-changed lines stored new_stored l new marked here others a =
    ⊎_elim
    (λ (same : a.0 ≡ l.0).
    here a same ∙ ap (λ (o : Option Masked). has_marks (masked_or_unknown o)) (sym (ap (λ n. lookup (record { 0 = n }) (put_line l new lines)) same ∙ known-put l new lines)))
    (λ (apart : a.0 ≢ l.0). others a apart ∙ marked a ∙ ap (λ (o : Option Masked). has_marks (masked_or_unknown o)) (sym (known-other l new lines a apart)))
    (cases_eq a.0 l.0)
