-- What the rules keep: rollbacks are bounded, a locked try is alone, and a core with rollbacks or flushes due is Run.
use Rattle.std.proofs.Common.{◌≡◌, ◌≢◌, ◌+◌, ◌-◌, ◌<◌, ◌≤◌, ℕ, suc, Bool, true, false, List, [], refl, sym, ap, ◌∙◌, subst, arith, ◌&&◌, cond, eqb, not, ◌⊎◌, inl, inr, Option, Some, None}
use Rattle.std.proofs.lemmas.Bool.{false≢true, cond_both, cond-true, cond-false, eqb-true, eqb-false, eq-eqb, false_from_ne_true}
use Rattle.conda_base.specs.declared.Line.{Line}
use Rattle.conda_base.specs.declared.actor.Actor.{Actor}
use Rattle.conda_base.specs.declared.actor.Actor.TheVariants as The
use Rattle.schedule_log.specs.declared.entry.Entry.{Entry}
use Rattle.schedule_log.specs.declared.entry.Entry.TheVariants.{Step, Waits, Idle, Held, Open, Lock, Spec, Commit, Back, Flush, Kern}
use Rattle.offload_calls.specs.declared.status.Core.{Core}
use Rattle.offload_calls.specs.declared.status.CoreStatus.TheVariants as Core_is
use Rattle.offload_calls.specs.State.{State}
use Rattle.offload_calls.specs.HartAct.{hart_runs}
use Rattle.offload_calls.specs.CoreActs.{core_runs}
use Rattle.try_runs.specs.Tries.{Try}
use Rattle.try_runs.specs.Ends.{end_of, is_done, is_trapped}
use Rattle.chip_laws.specs.Design.{Design, IsDesign, IsActorOf}
use Rattle.chip_laws.specs.Rules.{World, Seat, Opening, try_of, opening_end, is_conflict, is_locked, is_locked_below, dirty_of, is_flushing, ruling, core_entry, next}
use Rattle.chip_laws.specs.Worlds.{flat_after, changed, told, seat_opened, seat_committed, seat_back, is_launched, one_more, seat_after, took, start_world}
use Rattle.bloom_sig.specs.Images.{is_meeting}
use Rattle.bloom_sig.proofs.HitLemmas.{meeting-none}
use Rattle.chip_laws.proofs.FreshFacts.{took-good, start-good}
use Rattle.chip_laws.specs.Sound.{FitsAt, OthersFree, SoundAt, KeepsBounds}
use Rattle.line_memory.proofs.BelowLemmas.{none_at, none_found}
use Rattle.chip_laws.proofs.WorldFacts.{Allowed, CommitsAt, waits_in, core_kept}

-- nobody but those that skip holds of is locked
pub not_locked : (w : World) (skip : ℕ → Bool) (n k : ℕ) → is_locked_below w skip n ≡ false → k < n → skip k ≡ false → is_locked (w.seats k).opening ≡ false
not_locked w skip n k none below apart =
    subst (λ b. (not b && is_locked (w.seats k).opening) ≡ false) apart
    (none_at n k (λ i. not (skip i) && is_locked (w.seats i).opening) none below)

-- and the other way round
pub none_locked : (w : World) (skip : ℕ → Bool) (n : ℕ) → ((k : ℕ) → k < n → skip k ≡ false → is_locked (w.seats k).opening ≡ false) → is_locked_below w skip n ≡ false
none_locked w skip n free = none_found n (λ i. not (skip i) && is_locked (w.seats i).opening) (λ k below. go k below (skip k) refl)
  where
    go : (k : ℕ) → k < n → (b : Bool) → skip k ≡ b → (not b && is_locked (w.seats k).opening) ≡ false
    go k below true e = refl
    go k below false e = free k below e

abbrev pub SpecAt : Design → Option Opening → Type 0
SpecAt p None = ⊥
SpecAt p (Some o) = opening_end p o ≡ None

abbrev pub BackAt : Design → Option Opening → Type 0
BackAt p None = ⊥
BackAt p (Some o) = is_conflict p o ≡ true

abbrev pub Ruled : Design → World → Entry → Type 0
Ruled p w (Step h) = (k : ℕ) → k < p.config.cores → is_locked (w.seats k).opening ≡ false
Ruled p w (Open j) = OthersFree p w j × ((w.seats j).backs ≢ p.config.retries) × (j < p.config.cores)
Ruled p w (Lock j) = OthersFree p w j × ((w.seats j).backs ≡ p.config.retries) × (j < p.config.cores)
Ruled p w (Spec j) = OthersFree p w j × SpecAt p (w.seats j).opening
Ruled p w (Commit j n e) = OthersFree p w j
Ruled p w (Back j n e) = OthersFree p w j × BackAt p (w.seats j).opening
Ruled p w (Flush j) = OthersFree p w j × ((w.seats j).opening ≡ None)
Ruled p w (Waits h) = Unit {0}
Ruled p w (Idle a) = Unit {0}
Ruled p w (Held a) = Unit {0}
Ruled p w (Kern j) = ⊥

core_entry-ruled : (p : Design) (w : World) (j : ℕ) → j < p.config.cores → OthersFree p w j → (x : Option Opening) → (w.seats j).opening ≡ x
    → Ruled p w (core_entry p w j x)
core_entry-ruled p w j u free None e =
    cond_both (is_flushing p w j) (Flush j) (cond (eqb (w.seats j).backs p.config.retries) (Lock j) (Open j)) (Ruled p w)
    (λ _. (free, e))
    (λ _. cond_both (eqb (w.seats j).backs p.config.retries) (Lock j) (Open j) (Ruled p w)
    (λ d. (free, eqb-true _ _ d, u)) (λ d. (free, eqb-false _ _ d, u)))
core_entry-ruled p w j u free (Some o) e = go (opening_end p o) refl
  where
    go : (cause : Option ℕ) → opening_end p o ≡ cause → Ruled p w (ruling p j o cause)
    go None d = (free, subst (SpecAt p) (sym e) d)
    go (Some cause) d =
        cond_both (is_conflict p o) (Back j o.acts cause) (Commit j o.acts cause) (Ruled p w)
        (λ h. (free, subst (BackAt p) (sym e) h)) (λ _. free)

pub next-ruled : (p : Design) (w : World) (a : Actor) → IsActorOf p a → Ruled p w (next p w a)
unfolding next
next-ruled p w (The.Hart h) u =
    cond_both (not (hart_runs (w.flat.harts h).status)) _ _ (Ruled p w) (λ _. tt)
    (λ _. cond_both (is_locked_below w (λ k. false) p.config.cores) _ _ (Ruled p w) (λ _. tt)
    (λ free. cond_both (waits_in p w h) _ _ (Ruled p w) (λ _. tt)
    (λ _. λ k v. not_locked w (λ k. false) p.config.cores k free v refl)))
next-ruled p w (The.Core j) u =
    cond_both (not (core_runs (w.flat.cores j).status)) _ _ (Ruled p w) (λ _. tt)
    (λ n. cond_both (is_locked_below w (λ k. eqb k j) p.config.cores) _ _ (Ruled p w) (λ _. tt)
    (λ free. core_entry-ruled p w j u (λ k v ne. not_locked w (λ k. eqb k j) p.config.cores k free v ne) (w.seats j).opening refl))

-- ---- what every list of events keeps of locks and rollbacks

-- a core's counts that didn't grow
pub record IsFewer (old new : Seat) : Type 0 where
  pub backs : new.backs ≤ old.backs
  pub due : new.due ≤ old.due

none_left : {a b : ℕ} → a ≤ b → b ≡ 0 → a ≡ 0
none_left h e = omega arith

lt_of : {a b n : ℕ} → a ≤ b → b < n → a < n
lt_of h k = omega arith

-- a try that is not locked, or that no entry tells anything, stays sound
free_same : (p : Design) (w v : World) (j : ℕ) (x : Option Opening) (ls : List Line) → is_locked x ≡ false → IsFewer (w.seats j) (v.seats j)
    → SoundAt p w j x → SoundAt p v j (told ls x)
free_same p w v j None ls h b s = tt
free_same p w v j (Some o) ls h b s =
    record {
      few = s.few;
      range = s.range;
      settled = none_left b.due s.settled;
      free = λ e. lt_of b.backs (s.free e);
      alone = λ e. absurd (false≢true (sym h ∙ e));
    }

still_same : (p : Design) (w v : World) (j : ℕ) (x : Option Opening) → IsFewer (w.seats j) (v.seats j) → (OthersFree p w j → OthersFree p v j)
    → SoundAt p w j x → SoundAt p v j x
still_same p w v j None b f s = tt
still_same p w v j (Some o) b f s =
    record {
      few = s.few;
      range = s.range;
      settled = none_left b.due s.settled;
      free = λ e. lt_of b.backs (s.free e);
      alone = λ e. ((s.alone e).0, f (s.alone e).1);
    }

-- an unlocked try's own act
spec_same : (p : Design) (w v : World) (j : ℕ) (x : Option Opening) → IsFewer (w.seats j) (v.seats j) → (OthersFree p w j → OthersFree p v j)
    → SpecAt p x → SoundAt p w j x → SoundAt p v j (one_more p w x)
unfolding end_of
spec_same p w v j None b f e s = tt
spec_same p w v j (Some o) b f e s =
    record {
      few = more;
      range = s.range;
      settled = none_left b.due s.settled;
      free = λ e. lt_of b.backs (s.free e);
      alone = λ e. ((s.alone e).0, f (s.alone e).1);
    }
  where
    t : Try
    t = try_of p o

    third : (a b d : Bool) (r : Option ℕ) → cond a (Some 1) (cond b (Some 2) (cond d (Some 3) r)) ≡ None → d ≡ false
    third true b d r e = absurd (let k : Some 1 ≡ None = e in cc)
    third false true d r e = absurd (let k : Some 2 ≡ None = e in cc)
    third false false true r e = absurd (let k : Some 3 ≡ None = e in cc)
    third false false false r e = refl

    more : suc o.acts ≤ p.config.portion_max
    more =
        let few : o.acts ≤ p.config.portion_max = s.few in
        let ne : o.acts ≡ p.config.portion_max → ⊥ = eqb-false o.acts p.config.portion_max (third (is_done t.core.status) (is_trapped t.core.status) (eqb o.acts p.config.portion_max) _ e) in
        omega arith

unlocked_same : (p : Design) (w v : World) (j : ℕ) (x : Option Opening) → is_locked x ≡ false → IsFewer (w.seats j) (v.seats j)
    → SoundAt p w j x → SoundAt p v j x
unlocked_same p w v j None h b s = tt
unlocked_same p w v j (Some o) h b s =
    record { few = s.few; range = s.range; settled = none_left b.due s.settled; free = λ e. lt_of b.backs (s.free e); alone = λ e. absurd (false≢true (sym h ∙ e)) }

-- an open try's core is in range
unlocked_there : (p : Design) (w : World) (k : ℕ) (x : Option Opening) → SoundAt p w k x → (k < p.config.cores → is_locked x ≡ false) → is_locked x ≡ false
unlocked_there p w k None s h = refl
unlocked_there p w k (Some o) s h = h s.range

abbrev pub NotBackOf : ℕ → Entry → Type 0
NotBackOf j (Back k n e) = eqb j k ≡ false
NotBackOf j (Step h) = Unit {0}
NotBackOf j (Waits h) = Unit {0}
NotBackOf j (Idle a) = Unit {0}
NotBackOf j (Held a) = Unit {0}
NotBackOf j (Open k) = Unit {0}
NotBackOf j (Lock k) = Unit {0}
NotBackOf j (Spec k) = Unit {0}
NotBackOf j (Commit k n e) = Unit {0}
NotBackOf j (Flush k) = Unit {0}
NotBackOf j (Kern k) = Unit {0}

le_both : {a b n : ℕ} → a ≤ b → b ≤ n → a ≤ n
le_both h k = omega arith

lt_le : {a b : ℕ} → 0 < a → a ≤ b → 0 < b
lt_le h k = omega arith

le_self : (n : ℕ) → n ≤ n
le_self n = omega arith

-- only a rollback makes the count grow
pub backs_le : (p : Design) (w : World) (f : State) (e : Entry) (j : ℕ) → NotBackOf j e → (seat_after p w f e j).backs ≤ (w.seats j).backs
backs_le p w f (Step h) j n =
    cond_both (is_launched w f j) 0 (w.seats j).backs (λ b. b ≤ (w.seats j).backs) (λ _. omega arith) (λ _. le_self (w.seats j).backs)
backs_le p w f (Open k) j n = cond_both (eqb j k) _ _ (λ (s : Seat). s.backs ≤ (w.seats j).backs) (λ e. subst (λ i. (w.seats k).backs ≤ (w.seats i).backs) (sym (eqb-true j k e)) (le_self _)) (λ _. le_self _)
backs_le p w f (Lock k) j n = cond_both (eqb j k) _ _ (λ (s : Seat). s.backs ≤ (w.seats j).backs) (λ e. subst (λ i. (w.seats k).backs ≤ (w.seats i).backs) (sym (eqb-true j k e)) (le_self _)) (λ _. le_self _)
backs_le p w f (Spec k) j n = cond_both (eqb j k) _ _ (λ (s : Seat). s.backs ≤ (w.seats j).backs) (λ e. subst (λ i. (w.seats k).backs ≤ (w.seats i).backs) (sym (eqb-true j k e)) (le_self _)) (λ _. le_self _)
backs_le p w f (Flush k) j n = cond_both (eqb j k) _ _ (λ (s : Seat). s.backs ≤ (w.seats j).backs) (λ e. subst (λ i. (w.seats k).backs ≤ (w.seats i).backs) (sym (eqb-true j k e)) (le_self _)) (λ _. le_self _)
backs_le p w f (Commit k m c) j n = cond_both (eqb j k) _ _ (λ (s : Seat). s.backs ≤ (w.seats j).backs) (λ e. omega arith) (λ _. le_self _)
backs_le p w f (Back k m c) j n =
    subst (λ (t : Seat). t.backs ≤ (w.seats j).backs) (sym (cond-false (eqb j k) _ (w.seats j) n)) (le_self (w.seats j).backs)
backs_le p w f (Waits h) j n = le_self _
backs_le p w f (Idle a) j n = le_self _
backs_le p w f (Held a) j n = le_self _
backs_le p w f (Kern k) j n = le_self _

-- nor does the number of flushes that are due
pub due_le : (p : Design) (w : World) (f : State) (e : Entry) (j : ℕ) → NotBackOf j e → (seat_after p w f e j).due ≤ (w.seats j).due
due_le p w f (Step h) j n = le_self _
due_le p w f (Open k) j n = cond_both (eqb j k) _ _ (λ (s : Seat). s.due ≤ (w.seats j).due) (λ _. omega arith) (λ _. le_self _)
due_le p w f (Lock k) j n = cond_both (eqb j k) _ _ (λ (s : Seat). s.due ≤ (w.seats j).due) (λ _. omega arith) (λ _. le_self _)
due_le p w f (Spec k) j n = cond_both (eqb j k) _ _ (λ (s : Seat). s.due ≤ (w.seats j).due) (λ e. subst (λ i. (w.seats k).due ≤ (w.seats i).due) (sym (eqb-true j k e)) (le_self _)) (λ _. le_self _)
due_le p w f (Flush k) j n =
    cond_both (eqb j k) _ _ (λ (s : Seat). s.due ≤ (w.seats j).due)
    (λ e. subst (λ i. (w.seats k).due - 1 ≤ (w.seats i).due) (sym (eqb-true j k e)) (omega arith)) (λ _. le_self _)
due_le p w f (Commit k m c) j n = cond_both (eqb j k) _ _ (λ (s : Seat). s.due ≤ (w.seats j).due) (λ e. subst (λ i. (w.seats k).due ≤ (w.seats i).due) (sym (eqb-true j k e)) (le_self _)) (λ _. le_self _)
due_le p w f (Back k m c) j n =
    subst (λ (t : Seat). t.due ≤ (w.seats j).due) (sym (cond-false (eqb j k) _ (w.seats j) n)) (le_self (w.seats j).due)
due_le p w f (Waits h) j n = le_self _
due_le p w f (Idle a) j n = le_self _
due_le p w f (Held a) j n = le_self _
due_le p w f (Kern k) j n = le_self _

fewer : (p : Design) (w : World) (f : State) (e : Entry) (j : ℕ) → NotBackOf j e → IsFewer (w.seats j) (seat_after p w f e j)
fewer p w f e j n = record { backs = backs_le p w f e j n; due = due_le p w f e j n }

as_few : (s : Seat) → IsFewer s s
as_few s = record { backs = le_self s.backs; due = le_self s.due }

opens_sound : (p : Design) (w : World) → KeepsBounds p w → (e : Entry) → Ruled p w e → (k : ℕ)
    → SoundAt p (took p w e) k (seat_after p w (flat_after p w.flat e) e k).opening
opens_sound p w s (Step h) r k =
    free_same p w (took p w (Step h)) k (w.seats k).opening (changed p w (Step h))
    (unlocked_there p w k (w.seats k).opening (s.opens k) (r k)) (fewer p w (flat_after p w.flat (Step h)) (Step h) k tt) (s.opens k)
opens_sound p w s (Waits h) r k = still_same p w (took p w (Waits h)) k (w.seats k).opening (as_few (w.seats k)) (λ f. f) (s.opens k)
opens_sound p w s (Idle a) r k = still_same p w (took p w (Idle a)) k (w.seats k).opening (as_few (w.seats k)) (λ f. f) (s.opens k)
opens_sound p w s (Held a) r k = still_same p w (took p w (Held a)) k (w.seats k).opening (as_few (w.seats k)) (λ f. f) (s.opens k)
opens_sound p w s (Kern j) r k = absurd r
opens_sound p w s (Open j) r k =
    cond_both (eqb k j) _ _ (λ (t : Seat). SoundAt p (took p w (Open j)) k t.opening)
    (λ e. subst (λ i. SoundAt p (took p w (Open j)) i (seat_opened w j false (dirty_of p w)).opening) (sym (eqb-true k j e))
    (record { few = omega arith; range = r.2; settled = ap (λ (t : Seat). t.due) (cond-true (eqb j j) (seat_opened w j false (dirty_of p w)) (w.seats j) (eq-eqb j j refl)); free = λ _. strict (backs_le p w w.flat (Open j) j tt) (s.backs j) r.1; alone = λ h. absurd (false≢true h) }))
    (λ ne. unlocked_same p w (took p w (Open j)) k (w.seats k).opening (unlocked_there p w k (w.seats k).opening (s.opens k) (λ u. r.0 k u ne)) (fewer p w w.flat (Open j) k tt) (s.opens k))
  where
    strict : {a b n : ℕ} → a ≤ b → b ≤ n → b ≢ n → a < n
    strict h k ne = omega arith
opens_sound p w s (Lock j) r k =
    cond_both (eqb k j) _ _ (λ (t : Seat). SoundAt p (took p w (Lock j)) k t.opening)
    (λ e. subst (λ i. SoundAt p (took p w (Lock j)) i (seat_opened w j true []).opening) (sym (eqb-true k j e))
    (record {
      few = omega arith;
      range = r.2;
      settled = ap (λ (t : Seat). t.due) (cond-true (eqb j j) (seat_opened w j true []) (w.seats j) (eq-eqb j j refl));
      free = λ h. absurd (false≢true (sym h));
      alone = λ _. (refl, λ i u ne. ap (λ b. is_locked (cond b (seat_opened w j true []) (w.seats i)).opening) ne ∙ r.0 i u ne);
    }))
    (λ ne. unlocked_same p w (took p w (Lock j)) k (w.seats k).opening (unlocked_there p w k (w.seats k).opening (s.opens k) (λ u. r.0 k u ne)) (fewer p w w.flat (Lock j) k tt) (s.opens k))
opens_sound p w s (Spec j) r k =
    cond_both (eqb k j) (record (w.seats j) { opening = one_more p w (w.seats j).opening }) (w.seats k) (λ (t : Seat). SoundAt p (took p w (Spec j)) k t.opening)
    (λ e. subst (λ i. SoundAt p (took p w (Spec j)) i (one_more p w (w.seats j).opening)) (sym (eqb-true k j e))
    (spec_same p w (took p w (Spec j)) j (w.seats j).opening (fewer p w w.flat (Spec j) j tt)
    (λ f i u ne. ap (λ b. is_locked (cond b (record (w.seats j) { opening = one_more p w (w.seats j).opening }) (w.seats i)).opening) ne ∙ f i u ne) r.1 (s.opens j)))
    (λ ne. unlocked_same p w (took p w (Spec j)) k (w.seats k).opening (unlocked_there p w k (w.seats k).opening (s.opens k) (λ u. r.0 k u ne)) (fewer p w w.flat (Spec j) k tt) (s.opens k))
opens_sound p w s (Commit j n c) r k =
    cond_both (eqb k j) (seat_committed w j) (record (w.seats k) { opening = told (changed p w (Commit j n c)) (w.seats k).opening })
    (λ (t : Seat). SoundAt p (took p w (Commit j n c)) k t.opening) (λ _. tt)
    (λ ne. free_same p w (took p w (Commit j n c)) k (w.seats k).opening (changed p w (Commit j n c))
    (unlocked_there p w k (w.seats k).opening (s.opens k) (λ u. r k u ne)) (fewer p w (flat_after p w.flat (Commit j n c)) (Commit j n c) k tt) (s.opens k))
opens_sound p w s (Back j n c) r k =
    cond_both (eqb k j) _ (w.seats k) (λ (t : Seat). SoundAt p (took p w (Back j n c)) k t.opening) (λ _. tt)
    (λ ne. unlocked_same p w (took p w (Back j n c)) k (w.seats k).opening (unlocked_there p w k (w.seats k).opening (s.opens k) (λ u. r.0 k u ne))
    (fewer p w w.flat (Back j n c) k ne) (s.opens k))
opens_sound p w s (Flush j) r k =
    cond_both (eqb k j) (record (w.seats j) { due = (w.seats j).due - 1 }) (w.seats k) (λ (t : Seat). SoundAt p (took p w (Flush j)) k t.opening)
    (λ e. subst (SoundAt p (took p w (Flush j)) k) (sym r.1) tt)
    (λ ne. unlocked_same p w (took p w (Flush j)) k (w.seats k).opening (unlocked_there p w k (w.seats k).opening (s.opens k) (λ u. r.0 k u ne)) (fewer p w w.flat (Flush j) k tt) (s.opens k))

-- a try that rolls back is not locked, and its core is Run
back_facts : (p : Design) (w : World) (j : ℕ) (x : Option Opening) → FitsAt p w j x → SoundAt p w j x → BackAt p x
    → ((w.flat.cores j).status ≡ Core_is.Run) × ((w.seats j).backs < p.config.retries)
back_facts p w j None f s b = absurd b
back_facts p w j (Some o) f s b = (
  f.runs,
  s.free (false_from_ne_true o.locked (λ h.
      false≢true (sym (meeting-none p.config.sig_bits (try_of p o).reads) ∙ subst (λ ls. is_meeting p.config.sig_bits (try_of p o).reads ls ≡ true) (s.alone h).0 b))),
)

-- the count stays within retries
backs_few : (p : Design) (w : World) → KeepsBounds p w → (e : Entry) → Ruled p w e → (f : State) (k : ℕ) → (seat_after p w f e k).backs ≤ p.config.retries
backs_few p w s (Back j n c) r f k =
    cond_both (eqb k j) _ (w.seats k) (λ (t : Seat). t.backs ≤ p.config.retries)
    (λ e. up (back_facts p w j (w.seats j).opening (s.fresh.opens j) (s.opens j) r.1).1) (λ _. s.backs k)
  where
    up : {a n : ℕ} → a < n → a + 1 ≤ n
    up h = omega arith
backs_few p w s (Step h) r f k = le_both (backs_le p w f (Step h) k tt) (s.backs k)
backs_few p w s (Waits h) r f k = s.backs k
backs_few p w s (Idle a) r f k = s.backs k
backs_few p w s (Held a) r f k = s.backs k
backs_few p w s (Kern j) r f k = absurd r
backs_few p w s (Open j) r f k = le_both (backs_le p w f (Open j) k tt) (s.backs k)
backs_few p w s (Lock j) r f k = le_both (backs_le p w f (Lock j) k tt) (s.backs k)
backs_few p w s (Spec j) r f k = le_both (backs_le p w f (Spec j) k tt) (s.backs k)
backs_few p w s (Commit j n c) r f k = le_both (backs_le p w f (Commit j n c) k tt) (s.backs k)
backs_few p w s (Flush j) r f k = le_both (backs_le p w f (Flush j) k tt) (s.backs k)

-- rollbacks are counted of the core, or flushes are due to it
abbrev IsOwing : Seat → Type 0
IsOwing s = (0 < s.backs) ⊎ (0 < s.due)

owing_before : (old new : Seat) → IsFewer old new → IsOwing new → IsOwing old
owing_before old new few (inl h) = inl (lt_le h few.backs)
owing_before old new few (inr h) = inr (lt_le h few.due)

owing_runs : (p : Design) (w : World) → KeepsBounds p w → (k : ℕ) → IsOwing (w.seats k) → (w.flat.cores k).status ≡ Core_is.Run
owing_runs p w s k (inl h) = s.run k h
owing_runs p w s k (inr h) = s.due k h

-- no flushes are due to a core whose try commits
none_due : (p : Design) (w : World) (j n : ℕ) (x : Option Opening) → SoundAt p w j x → CommitsAt p n x → (w.seats j).due ≡ 0
none_due p w j n None s a = absurd a
none_due p w j n (Some o) s a = s.settled

-- a core with rollbacks or with flushes due is Run
run_kept : (p : Design) (w : World) → KeepsBounds p w → (e : Entry) → Allowed p w e → Ruled p w e → (k : ℕ)
    → IsOwing (seat_after p w (flat_after p w.flat e) e k) → ((flat_after p w.flat e).cores k).status ≡ Core_is.Run
run_kept p w s (Back j n c) a r k h =
    go (eqb k j) refl h
  where
    back_run : (w.flat.cores j).status ≡ Core_is.Run
    back_run = (back_facts p w j (w.seats j).opening (s.fresh.opens j) (s.opens j) r.1).0

    go : (b : Bool) → eqb k j ≡ b → IsOwing (cond b (seat_back p w j) (w.seats k)) → (w.flat.cores k).status ≡ Core_is.Run
    go true e h = subst (λ i. (w.flat.cores i).status ≡ Core_is.Run) (sym (eqb-true k j e)) back_run
    go false e h = owing_runs p w s k h
run_kept p w s (Commit j n c) a r k h = go (eqb k j) refl h
  where
    go : (b : Bool) → eqb k j ≡ b
        → IsOwing (cond b (seat_committed w j) (record (w.seats k) { opening = told (changed p w (Commit j n c)) (w.seats k).opening }))
        → ((flat_after p w.flat (Commit j n c)).cores k).status ≡ Core_is.Run
    go true e (inl h) = absurd (omega arith)
    go true e (inr h) = let none : (w.seats j).due ≡ 0 = none_due p w j n (w.seats j).opening (s.opens j) a in absurd (omega arith)
    go false e (inl h) = ap (λ (x : Core). x.status) (core_kept p w s.fresh (Commit j n c) a k e (s.run k h)) ∙ s.run k h
    go false e (inr h) = ap (λ (x : Core). x.status) (core_kept p w s.fresh (Commit j n c) a k e (s.due k h)) ∙ s.due k h
run_kept p w s (Step i) a r k h =
    let run : (w.flat.cores k).status ≡ Core_is.Run = owing_runs p w s k (owing_before _ _ (fewer p w (flat_after p w.flat (Step i)) (Step i) k tt) h) in
    ap (λ (x : Core). x.status) (core_kept p w s.fresh (Step i) a k tt run) ∙ run
run_kept p w s (Waits i) a r k h = owing_runs p w s k h
run_kept p w s (Idle b) a r k h = owing_runs p w s k h
run_kept p w s (Held b) a r k h = owing_runs p w s k h
run_kept p w s (Kern j) a r k h = absurd r
run_kept p w s (Open j) a r k h = owing_runs p w s k (owing_before _ _ (fewer p w w.flat (Open j) k tt) h)
run_kept p w s (Lock j) a r k h = owing_runs p w s k (owing_before _ _ (fewer p w w.flat (Lock j) k tt) h)
run_kept p w s (Spec j) a r k h = owing_runs p w s k (owing_before _ _ (fewer p w w.flat (Spec j) k tt) h)
run_kept p w s (Flush j) a r k h = owing_runs p w s k (owing_before _ _ (fewer p w w.flat (Flush j) k tt) h)

pub sound-took : (p : Design) (w : World) → KeepsBounds p w → (e : Entry) → Allowed p w e → Ruled p w e → KeepsBounds p (took p w e)
sound-took p w s e a r =
    record {
      fresh = took-good p w s.fresh e a;
      backs = backs_few p w s e r (flat_after p w.flat e);
      run = λ j h. run_kept p w s e a r j (inl h);
      due = λ j h. run_kept p w s e a r j (inr h);
      opens = opens_sound p w s e r;
    }

pub start-sound : (p : Design) → IsDesign p → KeepsBounds p (start_world p)
start-sound p is = record { fresh = start-good p is; backs = λ j. omega arith; run = λ j h. absurd (omega arith); due = λ j h. absurd (omega arith); opens = λ j. tt }
