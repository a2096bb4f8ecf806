-- Lists with one member changed.
use Rattle.std.proofs.Common.{◌≡◌, ◌≢◌, ◌<◌, ◌+◌, ◌++◌, ℕ, zero, suc, Bool, true, false, cond, ltb, eqb, List, [], ◌∷◌, length, replicate, get_or, set, refl, sym, ap, ◌∙◌, subst, arith, ◌⊎◌, inl, inr, Option, Some, None}
use Rattle.std.specs.Prelude.{slice_get}
use Rattle.std.proofs.lemmas.Bool.{cond-true, cond-false, cases_eq, eq-eqb, ne_eqb}
use Rattle.std.proofs.lemmas.Bool.Decides.{nat_tests}
use Rattle.std.proofs.lemmas.Option.{slice_get-get_or}
use Rattle.offload_calls.specs.State.{updated, status_of}
use Rattle.offload_calls.specs.declared.status.Core.{Core}
use Rattle.offload_calls.specs.declared.status.CoreStatus.{CoreStatus}

pub slice_get-set_same : {A : Type 0} (xs : List A) (i : ℕ) (x : A) → i < length xs → slice_get (set xs i x) i ≡ Some x
slice_get-set_same [] i x h = absurd (omega arith)
slice_get-set_same (y ∷ ys) zero x h = refl
slice_get-set_same (y ∷ ys) (suc i) x h = slice_get-set_same ys i x (omega arith)

pub slice_get-set_other : {A : Type 0} (xs : List A) (i k : ℕ) (x : A) → k ≢ i → slice_get (set xs i x) k ≡ slice_get xs k
slice_get-set_other [] i k x other = refl
slice_get-set_other (y ∷ ys) zero zero x other = absurd (other refl)
slice_get-set_other (y ∷ ys) zero (suc k) x other = refl
slice_get-set_other (y ∷ ys) (suc i) zero x other = refl
slice_get-set_other (y ∷ ys) (suc i) (suc k) x other = slice_get-set_other ys i k x (λ e. other (ap suc e))

slice_get-set_past : {A : Type 0} (xs : List A) (i : ℕ) (x : A) → ltb i (length xs) ≡ false → slice_get (set xs i x) i ≡ None
slice_get-set_past [] i x h = refl
slice_get-set_past (y ∷ ys) zero x h = absurd (grind (arith, nat_tests))
slice_get-set_past (y ∷ ys) (suc i) x h = slice_get-set_past ys i x (grind (arith, nat_tests))

pub eqb-comm : (i j : ℕ) → eqb i j ≡ eqb j i
eqb-comm i j = grind (arith, nat_tests)

pub updated-here : {A : Type 0} (g : ℕ → A) (j : ℕ) (x : A) (i : ℕ) → i ≡ j → updated g j x i ≡ x
updated-here g j x i same = cond-true (eqb i j) x (g i) (eq-eqb i j same)

pub updated-there : {A : Type 0} (g : ℕ → A) (j : ℕ) (x : A) (i : ℕ) → i ≢ j → updated g j x i ≡ g i
updated-there g j x i other = cond-false (eqb i j) x (g i) (ne_eqb i j other)

-- a list that shows a function, with one member changed
pub get-updated : {A : Type 0} (n : ℕ) (xs : List A) (g : ℕ → A) (j : ℕ) (x : A) → length xs ≡ n → ((i : ℕ) → i < n → slice_get xs i ≡ Some (g i))
    → (i : ℕ) → i < n → slice_get (set xs j x) i ≡ Some (updated g j x i)
get-updated {A} n xs g j x long all i u = go (cases_eq i j)
  where
    go : (i ≡ j) ⊎ (i ≡ j → ⊥) → slice_get (set xs j x) i ≡ Some (updated g j x i)
    go (inl same) =
        ap (slice_get (set xs j x)) same ∙ slice_get-set_same xs j x (subst (λ k. k < length xs) same (subst (λ m. i < m) (sym long) u))
        ∙ sym (ap Some (updated-here g j x i same))
    go (inr other) = slice_get-set_other xs j i x other ∙ all i u ∙ sym (ap Some (updated-there g j x i other))

-- the same of the statuses of cores
pub status-updated : (n : ℕ) (statuses : List CoreStatus) (cores : ℕ → Core) (j : ℕ) (c : Core) → length statuses ≡ n
    → ((k : ℕ) → slice_get statuses k ≡ status_of n cores k) → (k : ℕ) → slice_get (set statuses j c.status) k ≡ status_of n (updated cores j c) k
status-updated n statuses cores j c long all k = go (cases_eq k j)
  where
    here : (b : Bool) → ltb k (length statuses) ≡ b → k ≡ j → slice_get (set statuses j c.status) k ≡ cond b (Some c.status) None
    here true h same =
        ap (λ i. slice_get (set statuses i c.status) k) (sym same) ∙ slice_get-set_same statuses k c.status (let u : k < length statuses = grind (arith, nat_tests) in u)
    here false h same = ap (λ i. slice_get (set statuses i c.status) k) (sym same) ∙ slice_get-set_past statuses k c.status h

    go : (k ≡ j) ⊎ (k ≡ j → ⊥) → slice_get (set statuses j c.status) k ≡ status_of n (updated cores j c) k
    go (inl same) =
        here (ltb k n) (ap (ltb k) long) same
        ∙ ap (λ (x : Core). cond (ltb k n) (Some x.status) None) (sym (updated-here cores j c k same))
    go (inr other) =
        slice_get-set_other statuses j k c.status other ∙ all k
        ∙ ap (λ (x : Core). cond (ltb k n) (Some x.status) None) (sym (updated-there cores j c k other))

-- an element that was read, and the list after a write there
pub read_is : {A : Type 0} (xs : List A) (i : ℕ) (d x : A) → i < length xs → slice_get xs i ≡ Some x → get_or xs i d ≡ x
read_is {A} xs i d x u at = let same : ◌≡◌ {A = Option A} (Some (get_or xs i d)) (Some x) = sym (slice_get-get_or xs i d u) ∙ at in cc

one-more : (n : ℕ) → suc (n + 1) ≡ suc n + 1
one-more n = omega arith

pub replicate-more : {A : Type 0} (n : ℕ) (x : A) → replicate n x ++ x ∷ [] ≡ replicate (n + 1) x
replicate-more zero x = refl
replicate-more (suc n) x = ap (λ xs. x ∷ xs) (replicate-more n x) ∙ ap (λ k. replicate k x) (one-more n)
