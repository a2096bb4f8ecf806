-- What is found overwritten is the lowest address that is.
use Rattle.std.proofs.Common.{◌≡◌, ◌≤◌, ℕ, Bool, true, false, cond, eqb, min, List, [], ◌∷◌, refl, sym, ap, ◌∙◌, subst, arith, filter, ◌⊎◌, inl, inr, Option, Some, None}
use Rattle.std.specs.List.{slice_get}
use Rattle.std.proofs.lemmas.Bool.{false≢true, eq-eqb, eqb-true, or_left, or_right, or_cases, cases_eq, false_from_ne_true}
use Rattle.std.proofs.lemmas.Option.{same_Some}
use Rattle.schedule_log.specs.declared.entry.Entry.{Entry}
use Rattle.schedule_log.specs.declared.entry.Entry.TheVariants.{Step, Waits, Idle, Held, Open, Lock, Spec, Commit, Back, Flush, Kern}
use Rattle.offload_calls.specs.State.{Setup, State}
use Rattle.offload_calls.specs.Stores.{is_listed}
use Rattle.offload_calls.specs.CoreActs.{outside}
use Rattle.flat_check.specs.Accepting.{IsOverwritten, OverwritesAreLowest}
use Rattle.flat_check.specs.Clean.{state_at}
use Rattle.flat_check.specs.Walks.{Watched, has_acts, lower, lowest, stored_of, ruling_by, Fine, Unsound, Overwritten}
use Rattle.flat_check.proofs.WalkFacts.{walk_at, flat_at, Knows, knows, listed-filter}
use Rattle.flat_check.proofs.ConverseFacts.{OnlyKnows, only}

-- ---- the lowest of a list

lowest_in : (xs : List ℕ) (a : ℕ) → lowest xs ≡ Some a → is_listed xs a ≡ true
lowest_in [] a h = absurd (let k : ◌≡◌ {A = Option ℕ} None (Some a) = h in cc)
lowest_in (n ∷ ns) a h = go (lowest ns) refl (lowest_in ns)
  where
    go : (x : Option ℕ) → lowest ns ≡ x → ((b : ℕ) → lowest ns ≡ Some b → is_listed ns b ≡ true) → is_listed (n ∷ ns) a ≡ true
    go None e rec = or_left _ _ (eq-eqb n a (same_Some n a (sym (ap (λ y. Some (lower n y)) e) ∙ h)))
    go (Some m) e rec =
        let is : min n m ≡ a = same_Some (min n m) a (sym (ap (λ y. Some (lower n y)) e) ∙ h) in
        pick m is (cases_eq n a) (rec m e)
      where
        pick : (m : ℕ) → min n m ≡ a → (n ≡ a) ⊎ (n ≡ a → ⊥) → is_listed ns m ≡ true → is_listed (n ∷ ns) a ≡ true
        pick m is (inl same) there = or_left _ _ (eq-eqb n a same)
        pick m is (inr other) there = let same : m ≡ a = omega arith in or_right _ _ (subst (λ b. is_listed ns b ≡ true) same there)

none_in : (ns : List ℕ) (b : ℕ) → lowest ns ≡ None → is_listed ns b ≡ false
none_in [] b h = refl
none_in (n ∷ ns) b h = absurd (let k : ◌≡◌ {A = Option ℕ} (Some (lower n (lowest ns))) None = h in cc)

lowest_least : (xs : List ℕ) (a b : ℕ) → lowest xs ≡ Some a → is_listed xs b ≡ true → a ≤ b
lowest_least [] a b h there = absurd (false≢true there)
lowest_least (n ∷ ns) a b h there = go (lowest ns) refl (or_cases (eqb n b) (is_listed ns b) there) (lowest_least ns)
  where
    go : (x : Option ℕ) → lowest ns ≡ x → (eqb n b ≡ true) ⊎ (is_listed ns b ≡ true) → ((m c : ℕ) → lowest ns ≡ Some m → is_listed ns c ≡ true → m ≤ c) → a ≤ b
    go None e (inl here) rec =
        let is : n ≡ a = same_Some n a (sym (ap (λ y. Some (lower n y)) e) ∙ h) in let same : n ≡ b = eqb-true n b here in omega arith
    go None e (inr later) rec = absurd (false≢true (sym (none_in ns b e) ∙ later))
    go (Some m) e (inl here) rec =
        let is : min n m ≡ a = same_Some (min n m) a (sym (ap (λ y. Some (lower n y)) e) ∙ h) in let same : n ≡ b = eqb-true n b here in omega arith
    go (Some m) e (inr later) rec =
        let is : min n m ≡ a = same_Some (min n m) a (sym (ap (λ y. Some (lower n y)) e) ∙ h) in let below : m ≤ b = rec m b e later in omega arith

-- what a filter keeps passes its test, and was there
filter_listed : (p : ℕ → Bool) (xs : List ℕ) (a : ℕ) → is_listed (filter p xs) a ≡ true → (p a ≡ true) × (is_listed xs a ≡ true)
filter_listed p [] a h = absurd (false≢true h)
filter_listed p (x ∷ xs) a h = go (p x) refl h (filter_listed p xs a)
  where
    go : (b : Bool) → p x ≡ b → is_listed (cond b (x ∷ filter p xs) (filter p xs)) a ≡ true → (is_listed (filter p xs) a ≡ true → (p a ≡ true) × (is_listed xs a ≡ true))
        → (p a ≡ true) × (is_listed (x ∷ xs) a ≡ true)
    go false e there rec = ((rec there).0, or_right _ _ (rec there).1)
    go true e there rec = kept (or_cases (eqb x a) (is_listed (filter p xs) a) there)
      where
        kept : (eqb x a ≡ true) ⊎ (is_listed (filter p xs) a ≡ true) → (p a ≡ true) × (is_listed (x ∷ xs) a ≡ true)
        kept (inl same) = (ap p (sym (eqb-true x a same)) ∙ e, or_left _ _ same)
        kept (inr later) = ((rec later).0, or_right _ _ (rec later).1)

-- ---- a ruling

ruling_acts : (b : Bool) (found : Option ℕ) (a : ℕ) → cond b (ruling_by found) Unsound ≡ Overwritten a → (b ≡ true) × (found ≡ Some a)
ruling_acts false found a h = absurd (let k : Unsound ≡ Overwritten a = h in cc)
ruling_acts true None a h = absurd (let k : Fine ≡ Overwritten a = h in cc)
ruling_acts true (Some b) a h = (refl, let k : Overwritten b ≡ Overwritten a = h in cc)

overwritten_at : (s : Setup) (order : List Entry) (t j n c a : ℕ) (x : Option Watched) (f : State) → slice_get order t ≡ Some (Commit j n c) → f ≡ state_at s order t
    → Knows s order j t x → OnlyKnows s order j t x → has_acts x n ≡ true → lowest (filter (is_listed (stored_of x)) (outside s f j n)) ≡ Some a → IsOverwritten s order t a
unfolding Knows OnlyKnows
overwritten_at s order t j n c a None f at flat k o has found = absurd (false≢true has)
overwritten_at s order t j n c a (Some w) f at flat k o has found = record {
  core = j;
  acts = n;
  cause = c;
  opening = k.0;
  commit = at;
  opened = k.1.opened;
  loaded = same a ∙ kept.1;
  stored = let p = o a kept.0 k.0 k.1.opened in record { place = p.0; after = p.1; before = p.2; stored = p.3 };
  lowest = λ b less load u lo hi.
      false_from_ne_true _ (λ there.
      let least : a ≤ b = lowest_least _ a b found (listed-filter (is_listed w.stored) (outside s f j n) b (k.1.has u lo hi b there) (sym (same b) ∙ load)) in
      absurd (omega arith));
}
  where
    kept : (is_listed w.stored a ≡ true) × (is_listed (outside s f j n) a ≡ true)
    kept = filter_listed (is_listed w.stored) (outside s f j n) a (lowest_in _ a found)

    same : (b : ℕ) → is_listed (outside s (state_at s order t) j n) b ≡ is_listed (outside s f j n) b
    same b = ap (λ (g : State). is_listed (outside s g j n) b) (sym flat)

never : (order : List Entry) (s : Setup) (t a : ℕ) → Fine ≡ Overwritten a → IsOverwritten s order t a
never order s t a h = absurd (cc)

pub overwrites_lowest : OverwritesAreLowest
overwrites_lowest s order t (Commit j n c) a at h =
    let r = ruling_acts (has_acts ((walk_at s order t).tries j) n) _ a h in
    overwritten_at s order t j n c a ((walk_at s order t).tries j) (walk_at s order t).flat at (flat_at s order t) (knows s order j t) (only s order j t) r.0 r.1
overwrites_lowest s order t (Back j n c) a at h = go (has_acts ((walk_at s order t).tries j) n) h
  where
    go : (b : Bool) → cond b Fine Unsound ≡ Overwritten a → IsOverwritten s order t a
    go true e = never order s t a e
    go false e = absurd (let k : Unsound ≡ Overwritten a = e in cc)
overwrites_lowest s order t (Step h) a at e = never order s t a e
overwrites_lowest s order t (Waits h) a at e = never order s t a e
overwrites_lowest s order t (Idle b) a at e = never order s t a e
overwrites_lowest s order t (Held b) a at e = never order s t a e
overwrites_lowest s order t (Open j) a at e = never order s t a e
overwrites_lowest s order t (Lock j) a at e = never order s t a e
overwrites_lowest s order t (Spec j) a at e = never order s t a e
overwrites_lowest s order t (Flush j) a at e = never order s t a e
overwrites_lowest s order t (Kern j) a at e = never order s t a e
