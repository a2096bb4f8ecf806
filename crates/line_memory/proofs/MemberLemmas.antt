-- What stands in lists end to end, and in which states the dirty lines are.
use Rattle.std.proofs.Common.{◌≡◌, ◌≢◌, ℕ, zero, suc, ◌%◌, ◌+◌, ◌-◌, ◌<◌, ◌≤◌, ◌⊎◌, inl, inr, ⊎_elim, true, false, eqb, List, [], ◌∷◌, ◌++◌, Option, Some, None, length, get_or, sym, ap, subst, ◌∙◌, refl, arith}
use Rattle.std.specs.List.{AllPairs, Contains}
use Rattle.std.proofs.lemmas.List.{get_or_append_left, get_or-append_right, length-append, append-nil, get_or_default}
use Rattle.std.proofs.lemmas.List.Elements.{Contains-append_left, Contains-append_right, Contains-append_cases, Contains-get_or}
use Rattle.std.proofs.lemmas.Bool.{cases_Bool, cases_eq, cases_lt, eqb-true, eq-eqb}
use Rattle.std.proofs.lemmas.Nat.{mod_below}
use Rattle.set_assoc.specs.Entries.{lookup}
use Rattle.conda_base.specs.declared.Line.{Line}
use Rattle.conda_base.specs.declared.Mesi.{Mesi}
use Rattle.conda_base.specs.declared.Mesi.TheVariants.{M, E, S}
use Rattle.conda_base.proofs.LineLemmas.{line_by_number}
use Rattle.line_memory.specs.Tags.{Tag, is_modified, modified, held_state, each_below}
use Rattle.line_memory.specs.Backing.{BackingView, IsBacking, IsDirty, shape_of}
use Rattle.line_memory.proofs.WalkLemmas.{each_empty}
use Rattle.line_memory.specs.Notes.{back_notes}
use Rattle.line_memory.specs.Laws.{IsWrittenBackBy}

pub cons_cases : {A : Type 0} (y x : A) (ys : List A) → Contains (y ∷ ys) x → (y ≡ x) ⊎ Contains ys x
cons_cases y x ys (zero, below, is) = inl is
cons_cases y x ys (suc k, below, is) = inr (k, omega arith, is)

pub cons_here : {A : Type 0} (x : A) (xs : List A) → Contains (x ∷ xs) x
cons_here x xs = (0, omega arith, refl)

pub cons_later : {A : Type 0} (y x : A) (ys : List A) → Contains ys x → Contains (y ∷ ys) x
cons_later y x ys (k, below, is) = (suc k, omega arith, is)

pub none_in_nil : {A : Type 0} (x : A) → Contains [] x → ⊥
none_in_nil x (k, below, is) = omega arith

pub pairs_cons : {A : Type 0} (R : A → A → Type 0) (x : A) (ys : List A) → AllPairs R ys → ((y : A) → Contains ys y → R x y) → AllPairs R (x ∷ ys)
pairs_cons R x ys rest first zero zero d order below = absurd (omega arith)
pairs_cons R x ys rest first zero (suc j) d order below = first (get_or ys j d) (Contains-get_or ys j d (omega arith))
pairs_cons R x ys rest first (suc i) zero d order below = absurd (omega arith)
pairs_cons R x ys rest first (suc i) (suc j) d order below = rest i j d (omega arith) (omega arith)

pub pairs_append : {A : Type 0} (R : A → A → Type 0) (xs ys : List A) → AllPairs R xs → AllPairs R ys → ((x y : A) → Contains xs x → Contains ys y → R x y) → AllPairs R (xs ++ ys)
pairs_append R xs ys first second between i j d order below =
    let total = length-append xs ys in
    ⊎_elim
    (λ (left : j < length xs).
    let i_left : i < length xs = omega arith in
    rw (get_or_append_left xs ys d i i_left, get_or_append_left xs ys d j left) (first i j d order left))
    (λ (right : length xs ≤ j).
    let inside : j - length xs < length ys = omega arith in
    rw (get_or-append_right xs ys (length xs) j d refl right)
    (⊎_elim
    (λ (left : i < length xs). rw (get_or_append_left xs ys d i left) (between (get_or xs i d) (get_or ys (j - length xs) d) (Contains-get_or xs i d left) (Contains-get_or ys (j - length xs) d inside)))
    (λ (also : length xs ≤ i). rw (get_or-append_right xs ys (length xs) i d refl also) (second (i - length xs) (j - length xs) d (omega arith) inside))
    (cases_lt i (length xs))))
    (cases_lt j (length xs))

pub pairs_nil : {A : Type 0} (R : A → A → Type 0) → AllPairs R []
pairs_nil R i j d order below = absurd (omega arith)

pub each_member : {A : Type 0} (n : ℕ) (f : ℕ → List A) (x : A) → Contains (each_below n f) x → (k : ℕ) × (k < n) × Contains (f k) x
each_member zero f x is = absurd (none_in_nil x is)
each_member (suc n) f x is =
    ⊎_elim
    (λ (earlier : Contains (each_below n f) x). let found = each_member n f x earlier in (found.0, omega arith, found.2))
    (λ (last : Contains (f n) x). (n, omega arith, last))
    (Contains-append_cases (each_below n f) (f n) x is)

pub each_contains : {A : Type 0} (n k : ℕ) (f : ℕ → List A) (x : A) → k < n → Contains (f k) x → Contains (each_below n f) x
each_contains zero k f x below is = absurd (omega arith)
each_contains (suc n) k f x below is =
    ⊎_elim
    (λ (last : k ≡ n). Contains-append_right (each_below n f) (f n) x (subst (λ (i : ℕ). Contains (f i) x) last is))
    (λ (apart : k ≢ n). Contains-append_left (each_below n f) (f n) x (each_contains n k f x (omega arith) is))
    (cases_eq k n)

pub pairs_each : {A : Type 0} (R : A → A → Type 0) (n : ℕ) (f : ℕ → List A) → ((k : ℕ) → k < n → AllPairs R (f k)) → ((i j : ℕ) (x y : A) → i < j → j < n → Contains (f i) x → Contains (f j) y → R x y) → AllPairs R (each_below n f)
pairs_each R zero f inside between = pairs_nil R
pairs_each R (suc n) f inside between =
    pairs_append R (each_below n f) (f n) (pairs_each R n f (λ k below. inside k (omega arith)) (λ i j x y order below. between i j x y order (omega arith))) (inside n (omega arith))
    (λ x y first second. let found = each_member n f x first in between found.0 n x y found.1 (omega arith) found.2 second)

-- the lines in M are among the tags
pub modified_member : (x : Line) (tags : List Tag) → Contains (modified tags) x → (tag : Tag) × (Contains tags tag) × (tag.0 ≡ x) × (tag.1 ≡ M)
modified_member x [] is = absurd (none_in_nil x is)
modified_member x (tag ∷ tags) is =
    ⊎_elim
    (λ (on : is_modified tag.1 ≡ true).
    let here : Contains (tag.0 ∷ modified tags) x = rw on at is in
    ⊎_elim
    (λ (first : tag.0 ≡ x). (tag, cons_here tag tags, first, m_of tag.1 on))
    (λ (later : Contains (modified tags) x). let found = modified_member x tags later in (found.0, cons_later tag found.0 tags found.1, found.2, found.3))
    (cons_cases tag.0 x (modified tags) here))
    (λ (off : is_modified tag.1 ≡ false).
    let later : Contains (modified tags) x = rw off at is in
    let found = modified_member x tags later in (found.0, cons_later tag found.0 tags found.1, found.2, found.3))
    (cases_Bool (is_modified tag.1))
  where
    m_of : (state : Mesi) → is_modified state ≡ true → state ≡ M
    m_of M is = refl
    m_of E is = absurd cc
    m_of S is = absurd cc

pub modified_contains : (l : Line) (tags : List Tag) → lookup l tags ≡ Some M → Contains (modified tags) l
modified_contains l [] is = absurd cc
modified_contains l (tag ∷ tags) is =
    ⊎_elim
    (λ (on : eqb tag.0.0 l.0 ≡ true).
    let both : Some tag.1 ≡ Some M = rw on at is in
    let state : tag.1 ≡ M = cc in
    let line : tag.0 ≡ l = line_by_number tag.0 l (eqb-true _ _ on) in
    rw (ap is_modified state) (subst (λ (b : Line). Contains (b ∷ modified tags) l) (sym line) (cons_here l (modified tags))))
    (λ (off : eqb tag.0.0 l.0 ≡ false).
    let later : Contains (modified tags) l = modified_contains l tags (rw off at is) in
    ⊎_elim (λ (m : is_modified tag.1 ≡ true). rw m (cons_later tag.0 l (modified tags) later)) (λ (n : is_modified tag.1 ≡ false). rw n later) (cases_Bool (is_modified tag.1)))
    (cases_Bool (eqb tag.0.0 l.0))

-- a line of a list that names no line twice has the state of its tag
pub state_of_tag : (tags : List Tag) (tag : Tag) → AllPairs (λ (one : Tag) (other : Tag). one.0.0 ≢ other.0.0) tags → Contains tags tag → lookup tag.0 tags ≡ Some tag.1
state_of_tag [] tag once is = absurd (none_in_nil tag is)
state_of_tag (first ∷ tags) tag once is =
    ⊎_elim
    (λ (here : first ≡ tag). rw (eq-eqb first.0.0 tag.0.0 (ap (λ (t : Tag). t.0.0) here)) (ap (λ (t : Tag). Some t.1) here))
    (λ (later : Contains tags tag).
    let below = later.1 in
    let apart : first.0.0 ≢ (get_or tags later.0 tag).0.0 = once 0 (suc later.0) tag (omega arith) (omega arith) in
    let off : eqb first.0.0 tag.0.0 ≡ false = off_test first.0.0 tag.0.0 (λ same. apart (same ∙ sym (ap (λ (t : Tag). t.0.0) later.2))) in
    rw off (state_of_tag tags tag (λ i j d order inside. once (suc i) (suc j) d (omega arith) (omega arith)) later))
    (cons_cases first tag tags is)
  where
    off_test : (a b : ℕ) → a ≢ b → eqb a b ≡ false
    off_test a b apart = ⊎_elim (λ on. absurd (apart (eqb-true a b on))) (λ off. off) (cases_Bool (eqb a b))

-- a dirty line is in M in the cache of a holder
pub state_of_dirty : (b : BackingView) (l : Line) → IsBacking b → IsDirty b l → (h : ℕ) × (h < b.holders) × (held_state (shape_of b) b.tags h l ≡ Some M)
state_of_dirty b l is dirty =
    let holder = each_member b.holders (λ h. each_below b.sets (λ s. modified (b.tags h s))) l dirty in
    let h : ℕ = holder.0 in
    let set_is = each_member b.sets (λ s. modified (b.tags h s)) l holder.2 in
    let s : ℕ = set_is.0 in
    let found = modified_member l (b.tags h s) set_is.2 in
    let tag : Tag = found.0 in
    let place = found.1 in
    let at : tag.0.0 % b.sets ≡ s = ap (λ (t : Tag). t.0.0 % b.sets) (sym place.2) ∙ is.placed h s place.0 tag place.1 in
    let state : lookup tag.0 (b.tags h s) ≡ Some tag.1 = state_of_tag (b.tags h s) tag (is.once h s) place in (
      h,
      holder.1,
      ap (λ (k : Line). lookup k (b.tags h (k.0 % b.sets))) (sym found.2) ∙ ap (λ i. lookup tag.0 (b.tags h i)) at ∙ state ∙ ap (λ m. Some m) found.3,
    )

-- the line is among the holder's lines in M
pub held_member : (b : BackingView) (l : Line) (h : ℕ) → 0 < b.sets → held_state (shape_of b) b.tags h l ≡ Some M → Contains (each_below b.sets (λ s. modified (b.tags h s))) l
held_member b l h some is =
    each_contains b.sets (l.0 % b.sets) (λ s. modified (b.tags h s)) l (mod_below l.0 b.sets some) (modified_contains l (b.tags h (l.0 % b.sets)) is)

pub dirty_of_state : (b : BackingView) (l : Line) (h : ℕ) → 0 < b.sets → h < b.holders → held_state (shape_of b) b.tags h l ≡ Some M → IsDirty b l
dirty_of_state b l h some inside is =
    each_contains b.holders h (λ h. each_below b.sets (λ s. modified (b.tags h s))) l inside (held_member b l h some is)

pairs_between : {A : Type 0} (R : A → A → Type 0) (xs ys : List A) (x y : A) → AllPairs R (xs ++ ys) → Contains xs x → Contains ys y → R x y
pairs_between R xs ys x y all first second =
    let below_x = first.1 in
    let below_y = second.1 in
    let long = length-append xs ys in
    let past : length xs ≤ length xs + second.0 = omega arith in
    let same : length xs + second.0 - length xs ≡ second.0 = omega arith in
    let left : get_or (xs ++ ys) first.0 x ≡ x = get_or_append_left xs ys x first.0 below_x ∙ first.2 in
    let right : get_or (xs ++ ys) (length xs + second.0) x ≡ y =
    get_or-append_right xs ys (length xs) (length xs + second.0) x refl past ∙ ap (λ i. get_or ys i x) same ∙ get_or_default ys second.0 x y below_y ∙ second.2 in
    let both : R (get_or (xs ++ ys) first.0 x) (get_or (xs ++ ys) (length xs + second.0) x) = all first.0 (length xs + second.0) x (omega arith) (omega arith) in
    rw (left, right) at both

pairs_left : {A : Type 0} (R : A → A → Type 0) (xs ys : List A) → AllPairs R (xs ++ ys) → AllPairs R xs
pairs_left R xs ys all i j d order below =
    let long = length-append xs ys in
    let low : i < length xs = omega arith in
    let both = all i j d order (omega arith) in
    rw (get_or_append_left xs ys d i low, get_or_append_left xs ys d j below) at both

-- elements of two lists that stand end to end
pub pairs_of_each : {A : Type 0} (R : A → A → Type 0) (n i j : ℕ) (f : ℕ → List A) (x y : A) → AllPairs R (each_below n f) → i < j → j < n → Contains (f i) x → Contains (f j) y → R x y
pairs_of_each R zero i j f x y all order inside first second = absurd (omega arith)
pairs_of_each R (suc n) i j f x y all order inside first second =
    ⊎_elim
    (λ (last : j ≡ n). pairs_between R (each_below n f) (f n) x y all (each_contains n i f x (omega arith) first) (subst (λ (i : ℕ). Contains (f i) y) last second))
    (λ (apart : j ≢ n). pairs_of_each R n i j f x y (pairs_left R (each_below n f) (f n) all) order (omega arith) first second)
    (cases_eq j n)

-- no two holders have a line in M
pub one_owner : (b : BackingView) (l : Line) (h k : ℕ) → IsBacking b → h < b.holders → k < b.holders → held_state (shape_of b) b.tags h l ≡ Some M → held_state (shape_of b) b.tags k l ≡ Some M → k ≡ h
one_owner b l h k is inside_h inside_k one other =
    let f : ℕ → List Line = λ h. each_below b.sets (λ s. modified (b.tags h s)) in
    let in_h : Contains (f h) l = held_member b l h is.some_sets one in
    let in_k : Contains (f k) l = held_member b l k is.some_sets other in
    ⊎_elim
    (λ (same : k ≡ h). same)
    (λ (apart : k ≢ h). ⊎_elim
    (λ (before : k < h). absurd (pairs_of_each (λ (x : Line) (y : Line). x.0 ≢ y.0) b.holders k h f l l is.single before inside_h in_k in_h refl))
    (λ (after : h ≤ k). absurd (pairs_of_each (λ (x : Line) (y : Line). x.0 ≢ y.0) b.holders h k f l l is.single (omega arith) inside_k in_h in_k refl))
    (cases_lt k h))
    (cases_eq k h)

pub each_one : {A : Type 0} (n o : ℕ) (f : ℕ → List A) → o < n → ((k : ℕ) → k < n → k ≢ o → f k ≡ []) → each_below n f ≡ f o
each_one zero o f inside none = absurd (omega arith)
each_one (suc n) o f inside none =
    ⊎_elim
    (λ (last : o ≡ n). ap (λ xs. xs ++ f n) (each_empty n f (λ k below. none k (omega arith) (λ same. let both = same ∙ last in absurd (omega arith)))) ∙ ap f (sym last))
    (λ (apart : o ≢ n). let before : o < n = omega arith in
    ap (λ xs. xs ++ f n) (each_one n o f before (λ k below off. none k (omega arith) off)) ∙
    ap (λ ys. f o ++ ys) (none n (omega arith) (λ same. apart (sym same))) ∙ append-nil (f o))
    (cases_eq o n)

-- a flush of a dirty line notes one write-back, by the holder that has it in M
pub flush_written : (b : BackingView) (l : Line) → IsBacking b → IsDirty b l → (h : ℕ) × IsWrittenBackBy b l h
flush_written b l is dirty =
    let found = state_of_dirty b l is dirty in
    let h : ℕ = found.0 in
    let none : (k : ℕ) → k < b.holders → k ≢ h → back_notes l k (held_state (shape_of b) b.tags k l) ≡ [] = λ k below apart. go k (held_state (shape_of b) b.tags k l) (λ m. apart (one_owner b l h k is found.1 below found.2 m)) in
    (h, record { inside = found.1; owned = found.2; noted = each_one b.holders h (λ k. back_notes l k (held_state (shape_of b) b.tags k l)) found.1 none ∙ ap (λ o. back_notes l h o) found.2 })
  where
    go : (k : ℕ) (o : Option Mesi) → o ≢ Some M → back_notes l k o ≡ []
    go k None apart = refl
    go k (Some M) apart = absurd (apart refl)
    go k (Some E) apart = refl
    go k (Some S) apart = refl
