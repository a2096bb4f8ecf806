-- The open tries of a machine after an entry.
use Rattle.std.proofs.Common.{◌≡◌, ◌≢◌, ◌<◌, ◌≤◌, ◌+◌, ◌-◌, ◌/◌, ◌^◌, ◌++◌, ◌||◌, ◌&&◌, ℕ, zero, suc, Bool, true, false, cond, eqb, min, List, [], ◌∷◌, length, set, refl, sym, ap, ◌∙◌, subst, arith, ◌⊎◌, inl, inr, Option, Some, None}
use Rattle.std.specs.Prelude.{slice_get}
use Rattle.std.specs.Option.{option_map}
use Rattle.std.proofs.lemmas.Bool.{cases_eq}
use Rattle.std.proofs.lemmas.Bool.Decides.{nat_tests}
use Rattle.std.proofs.lemmas.Option.{same_Some}
use Rattle.std.proofs.lemmas.List.{length-set, get_or-set_same, get_or-set_other}
use Rattle.rv32_hart.specs.Code.{CodeView}
use Rattle.offload_calls.specs.Stores.{is_listed}
use Rattle.offload_calls.specs.State.{Setup, updated}
use Rattle.flat_check.specs.Marks.{Marked, is_set}
use Rattle.flat_check.specs.Portions.{AllFitImage, FitsImage, MarksToo, is_marked_at, marks_at, no_marked}
use Rattle.rv32_hart.specs.declared.act.Access.{Access}
use Rattle.flat_check.specs.Tries.{TryParts, FitsTries, ShowsTries, MarksTry, counted_acts, counted, one_act, with_stored}
use Rattle.flat_check.specs.Walks.{Watched, has_acts}
use Rattle.flat_check.proofs.WalkFacts.{listed-append}
use Rattle.flat_check.proofs.ListFacts.{get-updated, updated-here, updated-there}

-- ---- one core's member changed

acts-updated : (s : Setup) (p : TryParts) (tries : ℕ → Option Watched) (j : ℕ) (x : Option Watched) (a : Option ℕ) → ShowsTries s p tries
    → a ≡ counted_acts x → (i : ℕ) → i < s.cores → slice_get (set p.acts j a) i ≡ Some (counted_acts (updated tries j x i))
acts-updated s p tries j x a sh is i u =
    get-updated s.cores p.acts (λ k. counted_acts (tries k)) j a sh.many_acts sh.acts i u ∙ ap Some (go (eqb i j))
  where
    go : (b : Bool) → cond b a (counted_acts (tries i)) ≡ counted_acts (cond b x (tries i))
    go true = is
    go false = refl

-- the marks of one core changed
marks-updated : (s : Setup) (p : TryParts) (marks : List Marked) (tries : ℕ → Option Watched) (j : ℕ) (x : Option Watched) → ShowsTries s p tries
    → MarksTry s.code.base (marks_at marks j) x → ((i : ℕ) → i ≢ j → marks_at marks i ≡ marks_at p.marks i)
    → (i : ℕ) → i < s.cores → MarksTry s.code.base (marks_at marks i) (updated tries j x i)
marks-updated s p marks tries j x sh own others i u = go (cases_eq i j)
  where
    go : (i ≡ j) ⊎ (i ≡ j → ⊥) → MarksTry s.code.base (marks_at marks i) (updated tries j x i)
    go (inl same) =
        subst (MarksTry s.code.base (marks_at marks i)) (sym (updated-here tries j x i same))
        (subst (λ k. MarksTry s.code.base (marks_at marks k) x) (sym same) own)
    go (inr other) =
        subst (MarksTry s.code.base (marks_at marks i)) (sym (updated-there tries j x i other))
        (subst (λ (m : Marked). MarksTry s.code.base m (tries i)) (sym (others i other)) (sh.marks i u))

pub changed-one : (s : Setup) (p q : TryParts) (tries : ℕ → Option Watched) (j : ℕ) (x : Option Watched) (a : Option ℕ) → ShowsTries s p tries → length q.marks ≡ length p.marks
    → q.acts ≡ set p.acts j a → a ≡ counted_acts x → MarksTry s.code.base (marks_at q.marks j) x → ((i : ℕ) → i ≢ j → marks_at q.marks i ≡ marks_at p.marks i)
    → ShowsTries s q (updated tries j x)
changed-one s p q tries j x a sh long acts is own others = record {
  many_acts = ap length acts ∙ length-set p.acts j a ∙ sh.many_acts;
  many_marks = long ∙ sh.many_marks;
  acts = λ i u. ap (λ xs. slice_get xs i) acts ∙ acts-updated s p tries j x a sh is i u;
  marks = marks-updated s p q.marks tries j x sh own others;
}

-- no marks are on what nobody stored
pub no_marks-try : (base : ℕ) (m : Marked) → ((place : ℕ) → is_set m place ≡ false) → MarksTry base m (Some (record { acts = 0; stored = [] }))
no_marks-try base m none = λ addr from. none (addr - base)

marks-one_act : (base : ℕ) (m : Marked) (x : Option Watched) → MarksTry base m x → MarksTry base m (option_map one_act x)
marks-one_act base m None h = h
marks-one_act base m (Some w) h = h

pub counted-one : (s : Setup) (p q : TryParts) (tries : ℕ → Option Watched) (j acts : ℕ) → j < s.cores → ShowsTries s p tries
    → slice_get p.acts j ≡ Some (Some acts) → q.acts ≡ set p.acts j (Some (min (acts + 1) (2 ^ 32 - 1))) → q.marks ≡ p.marks → ShowsTries s q (counted tries j)
counted-one s p q tries j acts u sh at is marks =
    changed-one s p q tries j (option_map one_act (tries j)) (Some (min (acts + 1) (2 ^ 32 - 1))) sh (ap length marks) is
    (go (tries j) (same_Some (counted_acts (tries j)) (Some acts) (sym (sh.acts j u) ∙ at)))
    (subst (λ (ms : List Marked). MarksTry s.code.base (marks_at ms j) (option_map one_act (tries j))) (sym marks) (marks-one_act s.code.base (marks_at p.marks j) (tries j) (sh.marks j u)))
    (λ i other. ap (λ ms. marks_at ms i) marks)
  where
    go : (x : Option Watched) → counted_acts x ≡ Some acts → Some (min (acts + 1) (2 ^ 32 - 1)) ≡ counted_acts (option_map one_act x)
    go None none = absurd (let z : ◌≡◌ {A = Option ℕ} None (Some acts) = none in cc)
    go (Some w) here = let e : min w.acts (2 ^ 32 - 1) ≡ acts = same_Some (min w.acts (2 ^ 32 - 1)) acts here in ap Some (omega arith)

pub counted-none : (s : Setup) (p : TryParts) (tries : ℕ → Option Watched) (j : ℕ) → j < s.cores → ShowsTries s p tries → slice_get p.acts j ≡ Some None → ShowsTries s p (counted tries j)
counted-none s p tries j u sh at = record {
  many_acts = sh.many_acts;
  many_marks = sh.many_marks;
  acts = λ i v. sh.acts i v ∙ ap (λ x. Some (counted_acts x)) (sym (same i (cases_eq i j)));
  marks = λ i v. subst (MarksTry s.code.base (marks_at p.marks i)) (sym (same i (cases_eq i j))) (sh.marks i v);
}
  where
    go : (x : Option Watched) → counted_acts x ≡ None → option_map one_act x ≡ x
    go None none = refl
    go (Some w) here = absurd (let z : ◌≡◌ {A = Option ℕ} (Some (min w.acts (2 ^ 32 - 1))) None = here in cc)

    same : (i : ℕ) → (i ≡ j) ⊎ (i ≡ j → ⊥) → counted tries j i ≡ tries i
    same i (inl e) =
        updated-here tries j (option_map one_act (tries j)) i e
        ∙ go (tries j) (same_Some (counted_acts (tries j)) None (sym (sh.acts j u) ∙ at)) ∙ ap tries (sym e)
    same i (inr ne) = updated-there tries j (option_map one_act (tries j)) i ne

-- the number of acts decides as it is counted
pub counts_as : (x : Option Watched) (acts n : ℕ) → n ≤ 65536 → counted_acts x ≡ Some acts → has_acts x n ≡ eqb acts n
counts_as None acts n few h = absurd (let z : ◌≡◌ {A = Option ℕ} None (Some acts) = h in cc)
counts_as (Some w) acts n few h =
    let e : min w.acts (2 ^ 32 - 1) ≡ acts = same_Some (min w.acts (2 ^ 32 - 1)) acts h in grind (arith, nat_tests)

pub counts_none : (x : Option Watched) (n : ℕ) → counted_acts x ≡ None → has_acts x n ≡ false
counts_none None n h = refl
counts_none (Some w) n h = absurd (let z : ◌≡◌ {A = Option ℕ} (Some (min w.acts (2 ^ 32 - 1))) None = h in cc)

-- ---- what others stored

or_kept : (a b : Bool) → ((a && true) || b) ≡ ((a || b) && true)
or_kept true b = refl
or_kept false true = refl
or_kept false false = refl

-- marks on more addresses, for a try since whose opening these were stored to too
pub marks-too : (base : ℕ) (old new : Marked) (more : List ℕ) (x : Option Watched)
    → ((addr : ℕ) → base ≤ addr → is_marked_at new base addr ≡ (is_marked_at old base addr || is_listed more addr))
    → MarksTry base old x → MarksTry base new (option_map (with_stored more) x)
marks-too base old new more None marked h = tt
marks-too base old new more (Some w) marked h = λ addr from.
    marked addr from ∙ ap (λ b. b || is_listed more addr) (h addr from)
    ∙ or_kept (is_listed w.stored addr) (is_listed more addr)
    ∙ ap (λ b. b && true) (sym (listed-append w.stored more addr))

pub counted-stored : (more : List ℕ) (x : Option Watched) → counted_acts (option_map (with_stored more) x) ≡ counted_acts x
counted-stored more None = refl
counted-stored more (Some w) = refl

-- ---- marks of a list of cores

pub marks_at-set_same : (marks : List Marked) (j : ℕ) (m : Marked) → j < length marks → marks_at (set marks j m) j ≡ m
marks_at-set_same marks j m u = get_or-set_same marks j m no_marked u

pub marks_at-set_other : (marks : List Marked) (j i : ℕ) (m : Marked) → i ≢ j → marks_at (set marks j m) i ≡ marks_at marks i
marks_at-set_other marks j i m other = get_or-set_other marks j i m no_marked other

pub all-fit-set : (marks : List Marked) (j : ℕ) (m : Marked) (code : CodeView) → AllFitImage marks code → FitsImage m code → AllFitImage (set marks j m) code
all-fit-set marks j m code all fits k u = go (cases_eq k j)
  where
    within : k < length marks
    within = subst (λ n. k < n) (length-set marks j m) u

    go : (k ≡ j) ⊎ (k ≡ j → ⊥) → FitsImage (marks_at (set marks j m) k) code
    go (inl same) =
        subst (λ (x : Marked). FitsImage x code) (sym (ap (marks_at (set marks j m)) same ∙ marks_at-set_same marks j m (subst (λ n. n < length marks) same within))) fits
    go (inr other) = subst (λ (x : Marked). FitsImage x code) (sym (marks_at-set_other marks j k m other)) (all k within)

-- the marks of one core more
pub all-fit-push : (marks : List Marked) (m : Marked) (code : CodeView) → AllFitImage marks code → FitsImage m code → AllFitImage (marks ++ m ∷ []) code
all-fit-push [] m code all fits zero u = fits
all-fit-push [] m code all fits (suc k) u = absurd (omega arith)
all-fit-push (x ∷ marks) m code all fits zero u = all 0 (omega arith)
all-fit-push (x ∷ marks) m code all fits (suc k) u = all-fit-push marks m code (λ i v. all (suc i) (omega arith)) fits k (omega arith)

-- the same marks under another name
pub all-fit-as : (marks others : List Marked) (code : CodeView) → marks ≡ others → AllFitImage others code → AllFitImage marks code
all-fit-as marks others code same all = subst (λ (ms : List Marked). AllFitImage ms code) (sym same) all

-- marks with as many blocks
pub fits-room : (old new : Marked) (code : CodeView) → length new.blocks ≡ length old.blocks → FitsImage old code → FitsImage new code
fits-room old new code same fits = record { places = λ place u. subst (λ n. place / 32 < n) (sym same) (fits.places place u); even = fits.even }

pub fits-closed : (code : CodeView) (cores : ℕ) (p q : TryParts) (j : ℕ) → q.acts ≡ set p.acts j None → length q.marks ≡ length p.marks → AllFitImage q.marks code
    → FitsTries code cores p → FitsTries code cores q
fits-closed code cores p q j acts long all fits = record { acts = ap length acts ∙ length-set p.acts j None ∙ fits.acts; marks = long ∙ fits.marks; fit = all }

-- ---- marks of all cores but one

-- the marks of cores below k, but j's, have what an access stores too
pub record MarkedTo (old now : List Marked) (code : CodeView) (j k : ℕ) (access : Access) : Type 0 where
  pub many : length now ≡ length old
  pub own : marks_at now j ≡ marks_at old j
  pub done : (i : ℕ) → i < k → i ≢ j → MarksToo (marks_at old i) (marks_at now i) code.base access
  pub left : (i : ℕ) → k ≤ i → marks_at now i ≡ marks_at old i
  pub fit : AllFitImage now code

pub marked-next : (old now : List Marked) (code : CodeView) (j k : ℕ) (access : Access) (m : Marked) → MarkedTo old now code j k access → k < length old → k ≢ j
    → MarksToo (marks_at now k) m code.base access → FitsImage m code → MarkedTo old (set now k m) code j (k + 1) access
marked-next old now code j k access m t u ne too fits = record {
  many = length-set now k m ∙ t.many;
  own = marks_at-set_other now k j m (λ e. ne (sym e)) ∙ t.own;
  done = λ i v other. go i v other (cases_eq i k);
  left = λ i v. marks_at-set_other now k i m (λ e. absurd (omega arith)) ∙ t.left i (omega arith);
  fit = all-fit-set now k m code t.fit fits;
}
  where
    inside : k < length now
    inside = subst (λ n. k < n) (sym t.many) u

    go : (i : ℕ) → i < k + 1 → i ≢ j → (i ≡ k) ⊎ (i ≡ k → ⊥) → MarksToo (marks_at old i) (marks_at (set now k m) i) code.base access
    go i v other (inl same) =
        subst (λ x. MarksToo (marks_at old x) (marks_at (set now k m) x) code.base access) (sym same)
        (subst (λ (x : Marked). MarksToo (marks_at old k) x code.base access) (sym (marks_at-set_same now k m inside))
        (subst (λ (x : Marked). MarksToo x m code.base access) (t.left k (omega arith)) too))
    go i v other (inr apart) =
        subst (λ (x : Marked). MarksToo (marks_at old i) x code.base access) (sym (marks_at-set_other now k i m apart)) (t.done i (omega arith) other)

pub marked-past : (old now : List Marked) (code : CodeView) (j k : ℕ) (access : Access) → MarkedTo old now code j k access → k ≡ j → MarkedTo old now code j (k + 1) access
marked-past old now code j k access t same = record {
  many = t.many;
  own = t.own;
  done = λ i v other. t.done i (omega (arith, ne i other)) other;
  left = λ i v. t.left i (omega arith);
  fit = t.fit;
}
  where
    ne : (i : ℕ) → i ≢ j → i ≢ k
    ne i other e = other (e ∙ same)
