-- The laws of the two baselines.
use Rattle.std.proofs.Common.{◌≡◌, ◌<◌, ◌≤◌, ℕ, zero, suc, Bool, true, false, not, List, [], ◌∷◌, ◌++◌, take, length, eqb, refl, sym, ap, ◌∙◌, subst, arith, ltb, ◌||◌, Option, Some, None, ◌⊎◌, inl, inr}
use Rattle.std.specs.Prelude.{slice_get, is_some, option_map}
use Rattle.std.specs.List.{AllByRecursion}
use Rattle.std.proofs.lemmas.Bool.{false≢true, true≢false, cond_both, cond-true, cond-false, cases_eq, eq-eqb, eqb-true, ne_eqb, ltb-true, ltb-false}
use Rattle.std.proofs.lemmas.Option.{same_Some}
use Rattle.conda_base.specs.declared.actor.Actor.{Actor}
use Rattle.conda_base.specs.declared.actor.Actor.TheVariants as Actor_is
use Rattle.schedule_log.specs.declared.entry.Entry.{Entry}
use Rattle.schedule_log.specs.declared.entry.Entry.TheVariants.{Step, Waits, Idle, Held, Open, Lock, Spec, Commit, Back, Flush, Kern}
use Rattle.offload_calls.specs.State.{status_of}
use Rattle.offload_calls.specs.HartAct.{hart_runs, waits_next}
use Rattle.offload_calls.specs.CoreActs.{core_runs, core_acts}
use Rattle.run_report.specs.Runs.{executed}
use Rattle.chip_laws.specs.Design.{Design, IsActorOf, setup_of}
use Rattle.chip_laws.specs.Entries.{is_of, is_still, is_core}
use Rattle.baseline_laws.specs.Worlds.{World, Rules, took, happens, start_world, world_from, world, journal_from, journal}
use Rattle.baseline_laws.specs.Rules.{hart_entry, fine_next, fine_rules, is_anothers, coarse_next, coarse_begun, coarse_rules}
use Rattle.baseline_laws.specs.Laws.{IsPlainEntry, ArePlain, world_at, entry_at, IsBegunFrom, IsExclusive, AlwaysGrows, AlwaysFineLawful, AlwaysCoarseLawful}
use Rattle.baseline_laws.proofs.GrowthFacts.{grows, flat_is_run}

-- ---- no portions

hart-plain : (d : Design) (w : World) (h : ℕ) (held : Bool) → h < d.config.harts
    → IsPlainEntry d (hart_entry (setup_of d) w.flat h held)
hart-plain d w h held u =
    cond_both (not (hart_runs (w.flat.harts h).status)) _ _ (IsPlainEntry d) (λ _. u)
    (λ _. cond_both held _ _ (IsPlainEntry d) (λ _. u)
    (λ _. cond_both (waits_next d.image.code (status_of d.config.cores w.flat.cores) (w.flat.harts h).regs) _ _
    (IsPlainEntry d) (λ _. u) (λ _. u)))

fine-plain : (d : Design) (w : World) (a : Actor) → IsActorOf d a → IsPlainEntry d (fine_next d w a)
unfolding fine_next
fine-plain d w (Actor_is.Hart h) u = hart-plain d w h false u
fine-plain d w (Actor_is.Core j) u =
    cond_both (not (core_runs (w.flat.cores j).status)) _ _ (IsPlainEntry d) (λ _. u) (λ _. u)

coarse-plain : (d : Design) (w : World) (a : Actor) → IsActorOf d a → IsPlainEntry d (coarse_next d w a)
unfolding coarse_next
coarse-plain d w (Actor_is.Hart h) u = hart-plain d w h (is_some w.begun) u
coarse-plain d w (Actor_is.Core j) u =
    cond_both (not (core_runs (w.flat.cores j).status)) _ _ (IsPlainEntry d) (λ _. u)
    (λ _. cond_both (is_anothers w.begun j) _ _ (IsPlainEntry d) (λ _. u)
    (λ _. cond_both (is_some w.begun) _ _ (IsPlainEntry d) (λ _. u) (λ _. u)))

plain-from : (d : Design) (r : Rules) → ((w : World) (a : Actor) → IsActorOf d a → IsPlainEntry d (r.next w a))
    → (w : World) (events : List Actor) → AllByRecursion (IsActorOf d) events → ArePlain d (journal_from r w events)
unfolding journal_from
plain-from d r each w [] all = tt
plain-from d r each w (a ∷ events) all = (each w a all.0, plain-from d r each (happens r w a) events all.1)

-- ---- exclusion

-- what an entry may be while core j's kernel is begun
abbrev AllowedWhile : ℕ → Entry → Type 0
AllowedWhile j (Idle a) = Unit {0}
AllowedWhile j (Held a) = Unit {0}
AllowedWhile j (Kern k) = k ≡ j
AllowedWhile j other = ⊥

allowed-still : (j : ℕ) (e : Entry) → AllowedWhile j e → (is_of j e || is_still e) ≡ true
allowed-still j (Idle a) u = either (is_of j (Idle a))
  where
    either : (b : Bool) → (b || true) ≡ true
    either true = refl
    either false = refl
allowed-still j (Held a) u = either (is_of j (Held a))
  where
    either : (b : Bool) → (b || true) ≡ true
    either true = refl
    either false = refl
allowed-still j (Kern k) u = ap (λ b. b || false) (eq-eqb k j u)
allowed-still j (Step h) u = absurd u
allowed-still j (Waits h) u = absurd u
allowed-still j (Open k) u = absurd u
allowed-still j (Lock k) u = absurd u
allowed-still j (Spec k) u = absurd u
allowed-still j (Commit k n c) u = absurd u
allowed-still j (Back k n c) u = absurd u
allowed-still j (Flush k) u = absurd u

mine : (j k : ℕ) → is_anothers (Some j) k ≡ false → k ≡ j
mine j k h = go (eqb j k) refl h
  where
    go : (b : Bool) → eqb j k ≡ b → not b ≡ false → k ≡ j
    go true e h = sym (eqb-true j k e)
    go false e h = absurd (true≢false h)

while-begun : (d : Design) (w : World) (a : Actor) (j : ℕ) → w.begun ≡ Some j → AllowedWhile j (coarse_next d w a)
unfolding coarse_next
while-begun d w (Actor_is.Hart h) j is =
    cond_both (not (hart_runs (w.flat.harts h).status)) _ _ (AllowedWhile j) (λ _. tt)
    (λ _. cond_both (is_some w.begun) _ _ (AllowedWhile j) (λ _. tt)
    (λ free. absurd (true≢false (sym (ap is_some is) ∙ free))))
while-begun d w (Actor_is.Core k) j is =
    cond_both (not (core_runs (w.flat.cores k).status)) _ _ (AllowedWhile j) (λ _. tt)
    (λ _. cond_both (is_anothers w.begun k) _ _ (AllowedWhile j) (λ _. tt)
    (λ own. cond_both (is_some w.begun) _ _ (AllowedWhile j)
    (λ _. mine j k (sym (ap (λ x. is_anothers x k) is) ∙ own))
    (λ free. absurd (true≢false (sym (ap is_some is) ∙ free)))))

begun-kept : (d : Design) (w : World) (e : Entry) (j : ℕ) → w.begun ≡ Some j → AllowedWhile j e
    → core_runs ((executed (setup_of d) w.flat e).cores j).status ≡ true → coarse_begun d w e ≡ Some j
unfolding coarse_begun
begun-kept d w (Idle a) j is u runs = is
begun-kept d w (Held a) j is u runs = is
begun-kept d w (Kern k) j is u runs =
    cond-true (core_runs ((core_acts (setup_of d) w.flat k 1).cores k).status) w.begun None
    (ap (λ i. core_runs ((core_acts (setup_of d) w.flat k 1).cores i).status) u ∙ runs) ∙ is
begun-kept d w (Step h) j is u runs = absurd u
begun-kept d w (Waits h) j is u runs = absurd u
begun-kept d w (Open k) j is u runs = absurd u
begun-kept d w (Lock k) j is u runs = absurd u
begun-kept d w (Spec k) j is u runs = absurd u
begun-kept d w (Commit k n c) j is u runs = absurd u
begun-kept d w (Back k n c) j is u runs = absurd u
begun-kept d w (Flush k) j is u runs = absurd u

-- ---- places

take_next : {A : Type 0} (s : List A) (t : ℕ) (x : A) → slice_get s t ≡ Some x → take (suc t) s ≡ take t s ++ x ∷ []
take_next {A} [] t x at = absurd (let z : ◌≡◌ {A = Option A} None (Some x) = at in cc)
take_next (y ∷ s) zero x at = let same : y ≡ x = cc in rw (same, take_none s, take_none (x ∷ s)) refl
  where
    take_none : {A : Type 0} (s : List A) → take zero s ≡ []
    take_none [] = refl
    take_none (x ∷ xs) = refl
take_next (y ∷ s) (suc t) x at = ap (λ xs. y ∷ xs) (take_next s t x at)

take_end : {A : Type 0} (s : List A) (t : ℕ) → slice_get s t ≡ None → take (suc t) s ≡ take t s
take_end [] zero at = refl
take_end [] (suc t) at = refl
take_end {A} (y ∷ s) zero at = absurd (let z : ◌≡◌ {A = Option A} (Some y) None = at in cc)
take_end (y ∷ s) (suc t) at = ap (λ xs. y ∷ xs) (take_end s t at)

world-next : (r : Rules) (events : List Actor) (t : ℕ) (a : Actor) → slice_get events t ≡ Some a
    → world_at r events (suc t) ≡ happens r (world_at r events t) a
world-next r events t a at = ap (world r) (take_next events t a at) ∙ (grows r (take t events) a).world_after

happens-begun : (d : Design) (w : World) (a : Actor)
    → (happens (coarse_rules d) w a).begun ≡ coarse_begun d w (coarse_next d w a)
unfolding happens
happens-begun d w a = refl

happens-flat : (d : Design) (w : World) (a : Actor)
    → (happens (coarse_rules d) w a).flat ≡ executed (setup_of d) w.flat (coarse_next d w a)
unfolding happens
happens-flat d w a = refl

-- one place further
begun-next : (d : Design) (events : List Actor) (j t : ℕ) (x : Option Actor) → slice_get events t ≡ x
    → (world_at (coarse_rules d) events t).begun ≡ Some j
    → core_runs ((world_at (coarse_rules d) events (suc t)).flat.cores j).status ≡ true
    → (world_at (coarse_rules d) events (suc t)).begun ≡ Some j
begun-next d events j t None at is runs = ap (λ xs. (world (coarse_rules d) xs).begun) (take_end events t at) ∙ is
begun-next d events j t (Some a) at is runs =
    ap (λ (w : World). w.begun) (world-next (coarse_rules d) events t a at) ∙ happens-begun d w a
    ∙ begun-kept d w (coarse_next d w a) j is (while-begun d w a j is)
    (ap (λ f. core_runs (f.cores j).status) (sym (happens-flat d w a))
    ∙ ap (λ (v : World). core_runs (v.flat.cores j).status) (sym (world-next (coarse_rules d) events t a at)) ∙ runs)
  where
    w : World
    w = world_at (coarse_rules d) events t

begun-lock : (d : Design) (w : World) (e : Entry) (j : ℕ) → e ≡ Lock j → coarse_begun d w e ≡ Some j
unfolding coarse_begun
begun-lock d w e j is = rw is refl

-- after its Lock
begun-first : (d : Design) (events : List Actor) (j s : ℕ) (x : Option Actor) → slice_get events s ≡ x
    → entry_at (coarse_rules d) events s ≡ Some (Lock j)
    → (world_at (coarse_rules d) events (suc s)).begun ≡ Some j
begun-first d events j s None at lock =
    absurd (let z : ◌≡◌ {A = Option Entry} None (Some (Lock j)) = sym
    (ap (option_map (coarse_next d (world_at (coarse_rules d) events s))) at) ∙ lock in cc)
begun-first d events j s (Some a) at lock =
    let is : Some (coarse_next d (world_at (coarse_rules d) events s) a) ≡ Some (Lock j) =
    sym (ap (option_map (coarse_next d (world_at (coarse_rules d) events s))) at) ∙ lock in
    ap (λ (w : World). w.begun) (world-next (coarse_rules d) events s a at)
    ∙ happens-begun d (world_at (coarse_rules d) events s) a
    ∙ begun-lock d (world_at (coarse_rules d) events s) (coarse_next d (world_at (coarse_rules d) events s) a) j
    (same_Some _ _ is)

apart : (s u : ℕ) → s < suc u → ((u ≡ s) ⊎ (u ≡ s → ⊥)) → (u ≡ s) ⊎ (s < u)
apart s u h (inl e) = inl e
apart s u h (inr ne) = inr (go (ltb s u) refl)
  where
    go : (b : Bool) → ltb s u ≡ b → s < u
    go true e = ltb-true s u e
    go false e = absurd (ne (let x = ltb-false s u e in omega (arith, h, x)))

begun-at : (d : Design) (events : List Actor) (j s t : ℕ) → IsBegunFrom d events j s t → (u : ℕ) → s < u → u ≤ t
    → (world_at (coarse_rules d) events u).begun ≡ Some j
begun-at d events j s t from zero low high = absurd (omega (arith, low))
begun-at d events j s t from (suc u) low high =
    go (apart s u low (cases_eq u s))
    (λ after. begun-at d events j s t from u after (let h : suc u ≤ t = high in omega (arith, h)))
  where
    go : (u ≡ s) ⊎ (s < u) → (s < u → (world_at (coarse_rules d) events u).begun ≡ Some j)
        → (world_at (coarse_rules d) events (suc u)).begun ≡ Some j
    go (inl e) before = subst (λ k. (world_at (coarse_rules d) events (suc k)).begun ≡ Some j) (sym e)
        (begun-first d events j s (slice_get events s) refl from.lock)
    go (inr after) before = begun-next d events j u (slice_get events u) refl (before after)
        (from.runs (suc u) low high)

exclusive : (d : Design) (events : List Actor) → IsExclusive d events
exclusive d events j s t e from at = go (slice_get events t) refl
  where
    w : World
    w = world_at (coarse_rules d) events t

    go : (x : Option Actor) → slice_get events t ≡ x → (is_of j e || is_still e) ≡ true
    go None none = absurd (let z : ◌≡◌ {A = Option Entry} None (Some e) = sym (ap (option_map (coarse_next d w)) none)
        ∙ at in cc)
    go (Some a) some =
        let is : Some (coarse_next d w a) ≡ Some e = sym (ap (option_map (coarse_next d w)) some) ∙ at in
        subst (λ x. (is_of j x || is_still x) ≡ true) (same_Some _ _ is)
        (allowed-still j (coarse_next d w a)
        (while-begun d w a j (begun-at d events j s t from t from.before (omega arith))))

-- ---- together

pub always_grows : AlwaysGrows
always_grows r events a = grows r events a

pub fine_lawful : AlwaysFineLawful
fine_lawful d events actors = record {
  flat = flat_is_run (fine_rules d) events;
  plain = plain-from d (fine_rules d) (fine-plain d) (start_world (fine_rules d)) events actors;
}

pub coarse_lawful : AlwaysCoarseLawful
coarse_lawful d events actors = record {
  flat = flat_is_run (coarse_rules d) events;
  plain = plain-from d (coarse_rules d) (coarse-plain d) (start_world (coarse_rules d)) events actors;
  exclusive = exclusive d events;
}
