-- While a locked try is open, all others are Held or Idle, and its core has few events.
use Rattle.std.proofs.Common.{◌≡◌, ◌+◌, ◌<◌, ◌≤◌, ℕ, Bool, true, false, List, [], ◌∷◌, ◌++◌, refl, sym, ap, ◌∙◌, subst, arith, ◌||◌, cond, eqb, not, ◌⊎◌, inl, inr, Option, Some, None}
use Rattle.std.specs.List.{AllByRecursion, count_by}
use Rattle.std.proofs.lemmas.List.Sums.{sum_by-cons}
use Rattle.std.proofs.lemmas.Bool.{false≢true, cond_both, cond-true, eq-eqb, ne_eqb, cases_eq}
use Rattle.conda_base.specs.declared.actor.Actor.{Actor}
use Rattle.conda_base.specs.declared.actor.Actor.TheVariants as The
use Rattle.schedule_log.specs.declared.entry.Entry.{Entry}
use Rattle.schedule_log.specs.declared.entry.Entry.TheVariants.{Idle, Held, Lock, Spec, Commit, Back}
use Rattle.offload_calls.specs.declared.status.CoreStatus.TheVariants as Core_is
use Rattle.offload_calls.specs.HartAct.{hart_runs}
use Rattle.offload_calls.specs.CoreActs.{core_runs}
use Rattle.chip_laws.specs.Design.{Design, IsDesign, IsActorOf}
use Rattle.chip_laws.specs.Rules.{World, Seat, Opening, try_of, opening_end, is_conflict, is_locked, is_locked_below, ruling, core_entry, next}
use Rattle.chip_laws.specs.Worlds.{seat_opened, one_more, took, happens, start_world, journal_from, journal}
use Rattle.chip_laws.specs.Entries.{is_commit, is_of, is_still}
use Rattle.chip_laws.specs.Bounded.{NoneIs, QuietLocks, IsQuiet}
use Rattle.bloom_sig.proofs.HitLemmas.{meeting-none}
use Rattle.chip_laws.proofs.LockFacts.{not_locked, none_locked, start-sound}
use Rattle.chip_laws.proofs.BoundedFacts.{sound_happens}
use Rattle.bloom_sig.specs.Images.{is_meeting}
use Rattle.chip_laws.specs.Sound.{FitsAt, KeepsBounds, SoundAt, OthersFree}

abbrev NotCommit : ℕ → Entry → Type 0
NotCommit j e = is_commit j e ≡ false

abbrev LockedAt : Option Opening → Type 0
LockedAt None = ⊥
LockedAt (Some o) = o.locked ≡ true

abbrev acts_of : Option Opening → ℕ
acts_of None = 0
acts_of (Some o) = o.acts

locked_is : (x : Option Opening) → LockedAt x → is_locked x ≡ true
locked_is None h = absurd h
locked_is (Some o) h = h

-- what one entry other than its commit does to a locked try
record Stays (p : Design) (w : World) (j : ℕ) (e : Entry) : Type 0 where
  still : (is_of j e || is_still e) ≡ true
  locked : LockedAt ((took p w e).seats j).opening
  more : cond (is_of j e) 1 0 + acts_of (w.seats j).opening ≤ acts_of ((took p w e).seats j).opening

stood : (p : Design) (w : World) (j : ℕ) → LockedAt (w.seats j).opening → (a : Actor) → is_of j (Idle a) ≡ false → Stays p w j (Idle a)
stood p w j h a ne =
    record {
      still = ap (λ b. b || true) ne;
      locked = h;
      more = subst (λ b. cond b 1 0 + acts_of (w.seats j).opening ≤ acts_of (w.seats j).opening) (sym ne) (omega arith);
    }

held : (p : Design) (w : World) (j : ℕ) → LockedAt (w.seats j).opening → (a : Actor) → is_of j (Held a) ≡ false → Stays p w j (Held a)
held p w j h a ne =
    record {
      still = ap (λ b. b || true) ne;
      locked = h;
      more = subst (λ b. cond b 1 0 + acts_of (w.seats j).opening ≤ acts_of (w.seats j).opening) (sym ne) (omega arith);
    }

-- a locked try holds all others
holds_others : (w : World) (j n : ℕ) (skip : ℕ → Bool) → j < n → skip j ≡ false → LockedAt (w.seats j).opening → is_locked_below w skip n ≡ false → ⊥
holds_others w j n skip u s h e = false≢true (sym (not_locked w skip n j e u s) ∙ locked_is (w.seats j).opening h)

spec_stays : (p : Design) (w : World) (j : ℕ) → LockedAt (w.seats j).opening → Stays p w j (Spec j)
spec_stays p w j h =
    record {
      still = ap (λ b. b || false) (eq-eqb j j refl);
      locked = subst (λ (s : Seat). LockedAt s.opening) (sym at) (locked_more (w.seats j).opening h);
      more = subst (λ b. cond b 1 0 + acts_of (w.seats j).opening ≤ acts_of ((took p w (Spec j)).seats j).opening) (sym (eq-eqb j j refl))
          (subst (λ (s : Seat). 1 + acts_of (w.seats j).opening ≤ acts_of s.opening) (sym at) (acts_more (w.seats j).opening h));
    }
  where
    at : (took p w (Spec j)).seats j ≡ record (w.seats j) { opening = one_more p w (w.seats j).opening }
    at = cond-true (eqb j j) (record (w.seats j) { opening = one_more p w (w.seats j).opening }) (w.seats j) (eq-eqb j j refl)

    locked_more : (x : Option Opening) → LockedAt x → LockedAt (one_more p w x)
    locked_more None h = h
    locked_more (Some o) h = h

    acts_more : (x : Option Opening) → LockedAt x → 1 + acts_of x ≤ acts_of (one_more p w x)
    acts_more None h = absurd h
    acts_more (Some o) h = omega arith

own_stays : (p : Design) (w : World) (j : ℕ) → LockedAt (w.seats j).opening → (x : Option Opening) → LockedAt x → SoundAt p w j x
    → NotCommit j (core_entry p w j x) → Stays p w j (core_entry p w j x)
own_stays p w j h None k s n = absurd k
own_stays p w j h (Some o) k s n = go (opening_end p o) n
  where
    apart : is_conflict p o ≡ false
    apart = ap (is_meeting p.config.sig_bits (try_of p o).reads) (s.alone k).0 ∙ meeting-none p.config.sig_bits (try_of p o).reads

    go : (c : Option ℕ) → NotCommit j (ruling p j o c) → Stays p w j (ruling p j o c)
    go None n = spec_stays p w j h
    go (Some c) n =
        subst (λ b. NotCommit j (cond b (Back j o.acts c) (Commit j o.acts c)) → Stays p w j (cond b (Back j o.acts c) (Commit j o.acts c))) (sym apart)
        (λ (m : eqb j j ≡ false). absurd (false≢true (sym m ∙ eq-eqb j j refl))) n

in_range : (p : Design) (w : World) (j : ℕ) (x : Option Opening) → LockedAt x → SoundAt p w j x → j < p.config.cores
in_range p w j None h s = absurd h
in_range p w j (Some o) h s = s.range

runs_at : (p : Design) (w : World) (j : ℕ) (x : Option Opening) → LockedAt x → FitsAt p w j x → (w.flat.cores j).status ≡ Core_is.Run
runs_at p w j None h f = absurd h
runs_at p w j (Some o) h f = f.runs

alone_at : (p : Design) (w : World) (j : ℕ) (x : Option Opening) → LockedAt x → SoundAt p w j x → OthersFree p w j
alone_at p w j None h s = absurd h
alone_at p w j (Some o) h s = (s.alone h).1

one_stays : (p : Design) (w : World) (j : ℕ) → KeepsBounds p w → LockedAt (w.seats j).opening → (a : Actor) → NotCommit j (next p w a) → Stays p w j (next p w a)
unfolding next
one_stays p w j s h (The.Hart i) n =
    cond_both (not (hart_runs (w.flat.harts i).status)) _ _ (Stays p w j) (λ _. stood p w j h (The.Hart i) refl)
    (λ _. cond_both (is_locked_below w (λ k. false) p.config.cores) _ _ (Stays p w j) (λ _. held p w j h (The.Hart i) refl)
    (λ d. absurd (holds_others w j p.config.cores (λ k. false) (in_range p w j (w.seats j).opening h (s.opens j)) refl h d)))
one_stays p w j s h (The.Core k) n = go (cases_eq k j) n
  where
    go : ((k ≡ j) ⊎ (k ≡ j → ⊥))
        → NotCommit j (cond (not (core_runs (w.flat.cores k).status)) (Idle (The.Core k)) (cond (is_locked_below w (λ i. eqb i k) p.config.cores) (Held (The.Core k)) (core_entry p w k (w.seats k).opening)))
        → Stays p w j (cond (not (core_runs (w.flat.cores k).status)) (Idle (The.Core k)) (cond (is_locked_below w (λ i. eqb i k) p.config.cores) (Held (The.Core k)) (core_entry p w k (w.seats k).opening)))
    go (inr ne) n =
        cond_both (not (core_runs (w.flat.cores k).status)) _ _ (Stays p w j) (λ _. stood p w j h (The.Core k) (ne_eqb k j ne))
        (λ _. cond_both (is_locked_below w (λ i. eqb i k) p.config.cores) _ _ (Stays p w j) (λ _. held p w j h (The.Core k) (ne_eqb k j ne))
        (λ d. absurd (holds_others w j p.config.cores (λ i. eqb i k) (in_range p w j (w.seats j).opening h (s.opens j)) (ne_eqb j k (λ e. ne (sym e))) h d)))
    go (inl e) n =
        subst (λ v. NotCommit j (cond (not (core_runs (w.flat.cores v).status)) (Idle (The.Core v)) (cond (is_locked_below w (λ i. eqb i v) p.config.cores) (Held (The.Core v)) (core_entry p w v (w.seats v).opening)))
        → Stays p w j (cond (not (core_runs (w.flat.cores v).status)) (Idle (The.Core v)) (cond (is_locked_below w (λ i. eqb i v) p.config.cores) (Held (The.Core v)) (core_entry p w v (w.seats v).opening)))) (sym e)
        (subst (λ b. NotCommit j (cond b (Idle (The.Core j)) (cond (is_locked_below w (λ i. eqb i j) p.config.cores) (Held (The.Core j)) (core_entry p w j (w.seats j).opening)))
        → Stays p w j (cond b (Idle (The.Core j)) (cond (is_locked_below w (λ i. eqb i j) p.config.cores) (Held (The.Core j)) (core_entry p w j (w.seats j).opening)))) (sym running)
        (subst (λ b. NotCommit j (cond b (Held (The.Core j)) (core_entry p w j (w.seats j).opening)) → Stays p w j (cond b (Held (The.Core j)) (core_entry p w j (w.seats j).opening))) (sym free)
        (own_stays p w j h (w.seats j).opening h (s.opens j)))) n
      where
        running : not (core_runs (w.flat.cores j).status) ≡ false
        running = ap (λ x. not (core_runs x)) (runs_at p w j (w.seats j).opening h (s.fresh.opens j))

        free : is_locked_below w (λ i. eqb i j) p.config.cores ≡ false
        free = none_locked w (λ i. eqb i j) p.config.cores (alone_at p w j (w.seats j).opening h (s.opens j))

acts_few : (p : Design) (w : World) (j : ℕ) (x : Option Opening) → SoundAt p w j x → acts_of x ≤ p.config.portion_max
acts_few p w j None s = omega arith
acts_few p w j (Some o) s = s.few

record IsStill (p : Design) (j n : ℕ) (stretch : List Entry) : Type 0 where
  few : count_by (is_of j) stretch + n ≤ p.config.portion_max
  still : AllByRecursion (λ e. (is_of j e || is_still e) ≡ true) stretch

quiet_now : (p : Design) (j : ℕ) (w : World) (s : List Actor) (stretch rest : List Entry) → KeepsBounds p w → LockedAt (w.seats j).opening → AllByRecursion (IsActorOf p) s
    → journal_from p w s ≡ stretch ++ rest → NoneIs (is_commit j) stretch → IsStill p j (acts_of (w.seats j).opening) stretch
unfolding journal_from happens
quiet_now p j w s [] rest so h u e n = record { few = let few : acts_of (w.seats j).opening ≤ p.config.portion_max = acts_few p w j (w.seats j).opening (so.opens j) in omega arith; still = tt }
quiet_now p j w [] (x ∷ stretch) rest so h u e n = absurd (let k : [] ≡ x ∷ (stretch ++ rest) = e in cc)
quiet_now p j w (a ∷ s) (x ∷ stretch) rest so h u e n =
    let same : next p w a ≡ x = cc in
    let tail : journal_from p (happens p w a) s ≡ stretch ++ rest = cc in
    let one : Stays p w j (next p w a) = one_stays p w j so h a (subst (NotCommit j) (sym same) n.0) in
    let later : IsStill p j (acts_of ((happens p w a).seats j).opening) stretch =
    quiet_now p j (happens p w a) s stretch rest (sound_happens p w a u.0 so) one.locked u.1 tail n.1 in
    let counted : count_by (is_of j) (x ∷ stretch) ≡ cond (is_of j x) 1 0 + count_by (is_of j) stretch = sum_by-cons (λ y. cond (is_of j y) 1 0) x stretch in
    let more : cond (is_of j x) 1 0 + acts_of (w.seats j).opening ≤ acts_of ((happens p w a).seats j).opening =
    subst (λ y. cond (is_of j y) 1 0 + acts_of (w.seats j).opening ≤ acts_of ((happens p w a).seats j).opening) same one.more in
    let few : count_by (is_of j) stretch + acts_of ((happens p w a).seats j).opening ≤ p.config.portion_max = later.few in
    record {
      few = omega arith;
      still = (subst (λ y. (is_of j y || is_still y) ≡ true) same one.still, later.still);
    }

quiet_later : (p : Design) (j : ℕ) (w : World) (s : List Actor) (before stretch rest : List Entry) → KeepsBounds p w → AllByRecursion (IsActorOf p) s
    → journal_from p w s ≡ before ++ Lock j ∷ (stretch ++ rest) → NoneIs (is_commit j) stretch → IsQuiet p j stretch
unfolding journal_from happens
quiet_later p j w [] [] stretch rest so u e n = absurd (let k : [] ≡ Lock j ∷ (stretch ++ rest) = e in cc)
quiet_later p j w [] (x ∷ before) stretch rest so u e n = absurd (let k : [] ≡ x ∷ (before ++ Lock j ∷ (stretch ++ rest)) = e in cc)
quiet_later p j w (a ∷ s) [] stretch rest so u e n =
    let same : next p w a ≡ Lock j = cc in
    let tail : journal_from p (happens p w a) s ≡ stretch ++ rest = cc in
    let at : (took p w (Lock j)).seats j ≡ seat_opened w j true [] = cond-true (eqb j j) (seat_opened w j true []) (w.seats j) (eq-eqb j j refl) in
    let locked : LockedAt ((happens p w a).seats j).opening =
    subst (λ f. LockedAt ((took p w f).seats j).opening) (sym same) (subst (λ (t : Seat). LockedAt t.opening) (sym at) refl) in
    let q : IsStill p j (acts_of ((happens p w a).seats j).opening) stretch = quiet_now p j (happens p w a) s stretch rest (sound_happens p w a u.0 so) locked u.1 tail n in
    record { few = let f : count_by (is_of j) stretch + acts_of ((happens p w a).seats j).opening ≤ p.config.portion_max = q.few in omega arith; still = q.still }
quiet_later p j w (a ∷ s) (x ∷ before) stretch rest so u e n =
    let tail : journal_from p (happens p w a) s ≡ before ++ Lock j ∷ (stretch ++ rest) = cc in
    quiet_later p j (happens p w a) s before stretch rest (sound_happens p w a u.0 so) u.1 tail n

pub quiet_locks : (p : Design) (s : List Actor) → IsDesign p → AllByRecursion (IsActorOf p) s → QuietLocks p (journal p s)
quiet_locks p s is u j before stretch rest e n = quiet_later p j (start_world p) s before stretch rest (start-sound p is) u e n
