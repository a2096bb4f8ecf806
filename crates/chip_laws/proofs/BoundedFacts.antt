-- No more rollbacks than retries come without a commit.
use Rattle.std.proofs.Common.{◌≡◌, ◌+◌, ◌-◌, ◌<◌, ◌≤◌, ℕ, Bool, true, false, List, [], ◌∷◌, ◌++◌, refl, sym, ap, ◌∙◌, subst, arith, cond, eqb, ◌⊎◌, inl, inr, Some}
use Rattle.std.specs.List.{AllByRecursion, count_by}
use Rattle.std.proofs.lemmas.List.Sums.{sum_by-cons}
use Rattle.std.proofs.lemmas.Bool.{false≢true, true≢false, cond_both, eqb-true, eqb-false, eq-eqb, ne_eqb, and_parts, cases_lt}
use Rattle.conda_base.specs.declared.actor.Actor.{Actor}
use Rattle.schedule_log.specs.declared.entry.Entry.{Entry}
use Rattle.schedule_log.specs.declared.entry.Entry.TheVariants.{Step, Waits, Idle, Held, Open, Lock, Spec, Commit, Back, Flush, Kern}
use Rattle.offload_calls.specs.declared.status.CoreStatus.{CoreStatus}
use Rattle.offload_calls.specs.declared.status.CoreStatus.TheVariants as Core_is
use Rattle.offload_calls.specs.State.{State}
use Rattle.offload_calls.specs.Calls.{is_idle}
use Rattle.chip_laws.specs.Design.{Design, IsDesign, IsActorOf}
use Rattle.chip_laws.specs.Rules.{World, Seat, dirty_of, next}
use Rattle.chip_laws.specs.Worlds.{flat_after, changed, told, seat_opened, seat_back, is_launched, one_more, seat_after, happens, start_world, world_from, journal_from, journal}
use Rattle.chip_laws.specs.Entries.{is_back, is_commit}
use Rattle.chip_laws.specs.Bounded.{NoneIs, FewBacks}
use Rattle.chip_laws.proofs.WorldFacts.{next-allowed}
use Rattle.chip_laws.proofs.LockFacts.{sound-took, start-sound, next-ruled}
use Rattle.chip_laws.specs.Sound.{KeepsBounds}

pub sound_happens : (p : Design) (w : World) (a : Actor) → IsActorOf p a → KeepsBounds p w → KeepsBounds p (happens p w a)
unfolding happens
sound_happens p w a u s = sound-took p w s (next p w a) (next-allowed p w a) (next-ruled p w a u)

pub world-bounds : (p : Design) (w : World) (s : List Actor) → KeepsBounds p w → AllByRecursion (IsActorOf p) s → KeepsBounds p (world_from p w s)
unfolding world_from
world-bounds p w [] so u = so
world-bounds p w (a ∷ s) so u = world-bounds p (happens p w a) s (sound_happens p w a u.0 so) u.1

same_backs : (p : Design) (w : World) (j k : ℕ) (t : Seat) → t.backs ≡ (w.seats k).backs → 0 + (w.seats j).backs ≤ (cond (eqb j k) t (w.seats j)).backs
same_backs p w j k t h =
    cond_both (eqb j k) t (w.seats j) (λ (x : Seat). 0 + (w.seats j).backs ≤ x.backs)
    (λ e. subst (λ i. 0 + (w.seats i).backs ≤ t.backs) (sym (eqb-true j k e)) (omega arith)) (λ _. omega arith)

-- the count of a core grows by each of its rollbacks, and falls by its commits alone
pub grows : (p : Design) (w : World) → KeepsBounds p w → (f : State) (j : ℕ) (e : Entry) → is_commit j e ≡ false
    → cond (is_back j e) 1 0 + (w.seats j).backs ≤ (seat_after p w f e j).backs
grows p w s f j (Step h) n =
    cond_both (is_launched w f j) 0 (w.seats j).backs (λ b. 0 + (w.seats j).backs ≤ b)
    (λ d. idle (cases_lt 0 (w.seats j).backs) (and_parts _ _ d).0) (λ _. omega arith)
  where
    not_idle : (x : CoreStatus) → x ≡ Core_is.Run → is_idle (Some x) ≡ true → ⊥
    not_idle x e h = true≢false (sym h ∙ ap (λ y. is_idle (Some y)) e)

    idle : (0 < (w.seats j).backs) ⊎ ((w.seats j).backs ≤ 0) → is_idle (Some (w.flat.cores j).status) ≡ true → 0 + (w.seats j).backs ≤ 0
    idle (inl u) h = absurd (not_idle (w.flat.cores j).status (s.run j u) h)
    idle (inr u) h = omega arith
grows p w s f j (Open k) n = same_backs p w j k (seat_opened w k false (dirty_of p w)) refl
grows p w s f j (Lock k) n = same_backs p w j k (seat_opened w k true []) refl
grows p w s f j (Spec k) n = same_backs p w j k (record (w.seats k) { opening = one_more p w (w.seats k).opening }) refl
grows p w s f j (Flush k) n = same_backs p w j k (record (w.seats k) { due = (w.seats k).due - 1 }) refl
grows p w s f j (Commit k m c) n =
    cond_both (eqb j k) _ (record (w.seats j) { opening = told (changed p w (Commit k m c)) (w.seats j).opening }) (λ (t : Seat). 0 + (w.seats j).backs ≤ t.backs)
    (λ e. absurd (false≢true (sym n ∙ eq-eqb k j (sym (eqb-true j k e))))) (λ _. omega arith)
grows p w s f j (Back k m c) n = go (eqb k j) refl
  where
    back : Seat
    back = seat_back p w k

    go : (b : Bool) → eqb k j ≡ b → cond b 1 0 + (w.seats j).backs ≤ (cond (eqb j k) back (w.seats j)).backs
    go true e =
        let same : k ≡ j = eqb-true k j e in
        subst (λ b. 1 + (w.seats j).backs ≤ (cond b back (w.seats j)).backs) (sym (eq-eqb j k (sym same)))
        (subst (λ i. 1 + (w.seats i).backs ≤ (w.seats k).backs + 1) same (omega arith))
    go false e =
        subst (λ b. 0 + (w.seats j).backs ≤ (cond b back (w.seats j)).backs) (sym (ne_eqb j k (λ d. eqb-false k j e (sym d)))) (omega arith)
grows p w s f j (Waits h) n = omega arith
grows p w s f j (Idle a) n = omega arith
grows p w s f j (Held a) n = omega arith
grows p w s f j (Kern k) n = omega arith

few_now : (p : Design) (j : ℕ) (w : World) (s : List Actor) (stretch rest : List Entry) → KeepsBounds p w → AllByRecursion (IsActorOf p) s
    → journal_from p w s ≡ stretch ++ rest → NoneIs (is_commit j) stretch → count_by (is_back j) stretch + (w.seats j).backs ≤ p.config.retries
unfolding journal_from happens
few_now p j w s [] rest so u e n = let few : (w.seats j).backs ≤ p.config.retries = so.backs j in omega arith
few_now p j w [] (x ∷ stretch) rest so u e n = cc
few_now p j w (a ∷ s) (x ∷ stretch) rest so u e n =
    let same : next p w a ≡ x = cc in
    let tail : journal_from p (happens p w a) s ≡ stretch ++ rest = cc in
    let here : cond (is_back j x) 1 0 + (w.seats j).backs ≤ ((happens p w a).seats j).backs =
    subst (λ y. cond (is_back j y) 1 0 + (w.seats j).backs ≤ ((happens p w a).seats j).backs) same
    (grows p w so (flat_after p w.flat (next p w a)) j (next p w a) (subst (λ y. is_commit j y ≡ false) (sym same) n.0)) in
    let later : count_by (is_back j) stretch + ((happens p w a).seats j).backs ≤ p.config.retries =
    few_now p j (happens p w a) s stretch rest (sound_happens p w a u.0 so) u.1 tail n.1 in
    let counted : count_by (is_back j) (x ∷ stretch) ≡ cond (is_back j x) 1 0 + count_by (is_back j) stretch = sum_by-cons (λ y. cond (is_back j y) 1 0) x stretch in
    omega arith

few_later : (p : Design) (j : ℕ) (w : World) (s : List Actor) (before stretch rest : List Entry) → KeepsBounds p w → AllByRecursion (IsActorOf p) s
    → journal_from p w s ≡ before ++ (stretch ++ rest) → NoneIs (is_commit j) stretch → count_by (is_back j) stretch ≤ p.config.retries
unfolding journal_from
few_later p j w s [] stretch rest so u e n = let h : count_by (is_back j) stretch + (w.seats j).backs ≤ p.config.retries = few_now p j w s stretch rest so u e n in omega arith
few_later p j w [] (x ∷ before) stretch rest so u e n = cc
few_later p j w (a ∷ s) (x ∷ before) stretch rest so u e n =
    let tail : journal_from p (happens p w a) s ≡ before ++ (stretch ++ rest) = cc in
    few_later p j (happens p w a) s before stretch rest (sound_happens p w a u.0 so) u.1 tail n

pub few_backs : (p : Design) (s : List Actor) → IsDesign p → AllByRecursion (IsActorOf p) s → FewBacks p (journal p s)
few_backs p s is u j before stretch rest e n = few_later p j (start_world p) s before stretch rest (start-sound p is) u e n
