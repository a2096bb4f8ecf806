-- Lists of lines.
use Rattle.std.proofs.Common.{◌≡◌, ℕ, Bool, true, false, ◌||◌, cond, eqb, List, [], ◌∷◌, ◌++◌, refl, sym, ap, ◌∙◌, subst, ⊎_elim}
use Rattle.std.proofs.lemmas.Bool.{eqb-true, eq-eqb, or_right, cases_Bool}
use Rattle.conda_base.specs.declared.line.Line.{Line}
use Rattle.conda_base.specs.LineLists.{same_line, names, with_new, with_all_new}

-- ---- equal lines

pub line_eq : (a b : Line) → same_line a b ≡ true → a ≡ b
line_eq a b h = let same : a.0 ≡ b.0 = eqb-true a.0 b.0 h in λ i. record { 0 = same i }

pub same_line-refl : (a : Line) → same_line a a ≡ true
same_line-refl a = eq-eqb a.0 a.0 refl

pub same_line-eq : (a b : Line) → a ≡ b → same_line a b ≡ true
same_line-eq a b e = eq-eqb a.0 b.0 (ap (λ (l : Line). l.0) e)

-- two lines in the other order
pub same_line-swap : (a b : ℕ) → eqb a b ≡ false → eqb b a ≡ false
same_line-swap a b off =
    ⊎_elim (λ (on : eqb b a ≡ true). let back : eqb a b ≡ true = eq-eqb a b (sym (eqb-true b a on)) in absurd cc) (λ e. e) (cases_Bool (eqb b a))

-- ---- lists of lines

pub or_false : (b : Bool) → (b || false) ≡ b
or_false true = refl
or_false false = refl

pub or_assoc : (a b d : Bool) → ((a || b) || d) ≡ (a || (b || d))
or_assoc true b d = refl
or_assoc false b d = refl

pub names-append : (xs ys : List Line) (l : Line) → names (xs ++ ys) l ≡ (names xs l || names ys l)
names-append [] ys l = refl
names-append (x ∷ xs) ys l = ap (λ b. same_line x l || b) (names-append xs ys l) ∙ sym (or_assoc (same_line x l) (names xs l) (names ys l))

pub names-push : (lines : List Line) (n l : Line) → names (lines ++ n ∷ []) l ≡ (names lines l || same_line n l)
names-push lines n l = names-append lines (n ∷ []) l ∙ ap (λ b. names lines l || b) (or_false (same_line n l))

pub names-same : (lines : List Line) (n l : Line) → n.0 ≡ l.0 → names lines n ≡ names lines l
names-same [] n l same = refl
names-same (k ∷ lines) n l same = ap (λ i. eqb k.0 i || names lines n) same ∙ ap (λ b. eqb k.0 l.0 || b) (names-same lines n l same)

pub names-with_new : (xs : List Line) (n l : Line) → names (with_new xs n) l ≡ (names xs l || same_line n l)
names-with_new xs n l = go (names xs n) refl
  where
    go : (t : Bool) → names xs n ≡ t → names (cond t xs (xs ++ n ∷ [])) l ≡ (names xs l || same_line n l)
    go true e = same (same_line n l) refl
      where
        same : (u : Bool) → same_line n l ≡ u → names xs l ≡ (names xs l || u)
        same true d = subst (λ k. names xs k ≡ (names xs k || true)) (line_eq n l d) (e ∙ sym (or_right (names xs n) true refl))
        same false d = sym (or_false (names xs l))
    go false e = names-append xs (n ∷ []) l ∙ ap (λ b. names xs l || b) (or_false (same_line n l))

pub names-itself : (lines : List Line) (n : Line) → names (with_new lines n) n ≡ true
names-itself lines n = names-with_new lines n n ∙ or_right _ _ (same_line-refl n)

pub names-with_all_new : (xs ys : List Line) (l : Line) → names (with_all_new xs ys) l ≡ (names xs l || names ys l)
names-with_all_new xs [] l = sym (or_false (names xs l))
names-with_all_new xs (y ∷ ys) l =
    names-with_all_new (with_new xs y) ys l ∙ ap (λ b. b || names ys l) (names-with_new xs y l)
    ∙ or_assoc (names xs l) (same_line y l) (names ys l)
