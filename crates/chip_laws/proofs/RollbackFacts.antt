-- A core with no open try has rollbacks counted exactly where its last try was rolled back.
use Rattle.std.proofs.Common.{◌≡◌, ◌+◌, ◌<◌, ◌≤◌, ℕ, zero, suc, Bool, true, false, List, [], ◌∷◌, refl, sym, ap, ◌∙◌, subst, arith, ◌||◌, cond, eqb, ◌⊎◌, inl, inr, Option, Some, None, take}
use Rattle.std.specs.List.{AllByRecursion, slice_get}
use Rattle.std.proofs.lemmas.Bool.{false≢true, true≢false, cond-true, or_right}
use Rattle.conda_base.specs.declared.actor.Actor.{Actor}
use Rattle.schedule_log.specs.declared.entry.Entry.{Entry}
use Rattle.schedule_log.specs.declared.entry.Entry.TheVariants.{Step, Waits, Idle, Held, Open, Lock, Spec, Commit, Back, Flush, Kern}
use Rattle.chip_laws.specs.Design.{Design, IsDesign, IsActorOf}
use Rattle.chip_laws.specs.Rules.{World, Seat, Opening, next}
use Rattle.chip_laws.specs.Worlds.{flat_after, seat_committed, seat_back, seat_after, happens, start_world}
use Rattle.chip_laws.specs.Entries.{is_back, is_commit, is_opening, is_ending, is_boundary}
use Rattle.chip_laws.specs.Places.{world_at, is_at, IsLastAt}
use Rattle.chip_laws.specs.Rollbacks.{IsRolledBack, AlwaysRollbacks}
use Rattle.chip_laws.specs.Sound.{KeepsBounds}
use Rattle.chip_laws.proofs.LockFacts.{NotBackOf, backs_le, start-sound}
use Rattle.chip_laws.proofs.BoundedFacts.{grows, world-bounds}
use Rattle.chip_laws.proofs.PlaceFacts.{passes, IsNew, GoesOn, swapped, other_way, opens_at, goes_at, boundary_parts, after_option, world_next, world_first, last_longer, last_cases, last_here}

-- ---- one entry

neither : (j : ℕ) (e : Entry) → is_boundary j e ≡ false → NotBackOf j e × (is_commit j e ≡ false) × (is_back j e ≡ false)
neither j (Step h) n = (tt, refl, refl)
neither j (Waits h) n = (tt, refl, refl)
neither j (Idle a) n = (tt, refl, refl)
neither j (Held a) n = (tt, refl, refl)
neither j (Kern k) n = (tt, refl, refl)
neither j (Open k) n = (tt, refl, refl)
neither j (Lock k) n = (tt, refl, refl)
neither j (Spec k) n = (tt, refl, refl)
neither j (Flush k) n = (tt, refl, refl)
neither j (Commit k m c) n = (tt, n, refl)
neither j (Back k m c) n = (other_way j k n, refl, n)

not_both : (j : ℕ) (e : Entry) → is_back j e ≡ true → is_ending j e ≡ true
not_both j (Back k n c) h = h
not_both j (Step i) h = absurd (false≢true h)
not_both j (Waits i) h = absurd (false≢true h)
not_both j (Idle a) h = absurd (false≢true h)
not_both j (Held a) h = absurd (false≢true h)
not_both j (Kern k) h = absurd (false≢true h)
not_both j (Open k) h = absurd (false≢true h)
not_both j (Lock k) h = absurd (false≢true h)
not_both j (Spec k) h = absurd (false≢true h)
not_both j (Commit k n c) h = absurd (false≢true h)
not_both j (Flush k) h = absurd (false≢true h)

-- a rollback counts one more, and a commit none
counted : (d : Design) (w : World) (e : Entry) (j : ℕ) → is_ending j e ≡ true
    → ((is_back j e ≡ true) × (0 < (seat_after d w (flat_after d w.flat e) e j).backs))
    ⊎ ((is_back j e ≡ false) × ((seat_after d w (flat_after d w.flat e) e j).backs ≡ 0))
counted d w (Back k n c) j h = inl (
  h,
  subst (λ (s : Seat). 0 < s.backs) (sym (cond-true (eqb j k) (seat_back d w k) (w.seats j) (swapped j k h))) (above (w.seats k).backs),
)
  where
    above : (n : ℕ) → 0 < n + 1
    above n = omega arith
counted d w (Commit k n c) j h = inr (refl, ap (λ (s : Seat). s.backs) (cond-true (eqb j k) (seat_committed w k) _ (swapped j k h)))
counted d w (Step i) j h = absurd (false≢true h)
counted d w (Waits i) j h = absurd (false≢true h)
counted d w (Idle a) j h = absurd (false≢true h)
counted d w (Held a) j h = absurd (false≢true h)
counted d w (Kern k) j h = absurd (false≢true h)
counted d w (Open k) j h = absurd (false≢true h)
counted d w (Lock k) j h = absurd (false≢true h)
counted d w (Spec k) j h = absurd (false≢true h)
counted d w (Flush k) j h = absurd (false≢true h)

-- ---- one place

abbrev IsThere : Design → Option Actor → Type 0
IsThere d None = Unit {0}
IsThere d (Some a) = IsActorOf d a

counted_at : (d : Design) (w : World) (x : Option Actor) (j : ℕ) → passes (is_ending j) d w x ≡ true
    → ((passes (is_back j) d w x ≡ true) × (0 < ((after_option d w x).seats j).backs))
    ⊎ ((passes (is_back j) d w x ≡ false) × (((after_option d w x).seats j).backs ≡ 0))
unfolding happens after_option
counted_at d w None j h = absurd (false≢true h)
counted_at d w (Some a) j h = counted d w (next d w a) j h

-- where no try is ended or opened, the count stays above 0 or at 0
stays_at : (d : Design) (w : World) (x : Option Actor) (j : ℕ) → KeepsBounds d w → IsThere d x → passes (is_boundary j) d w x ≡ false
    → (0 < (w.seats j).backs → 0 < ((after_option d w x).seats j).backs)
    × (0 < ((after_option d w x).seats j).backs → 0 < (w.seats j).backs)
    × (passes (is_back j) d w x ≡ false)
unfolding happens after_option
stays_at d w None j s there n = (λ h. h, λ h. h, refl)
stays_at d w (Some a) j s there n = (
  λ h. up (cond (is_back j (next d w a)) 1 0) (grows d w s (flat_after d w.flat (next d w a)) j (next d w a) no.1) h,
  λ h. down (backs_le d w (flat_after d w.flat (next d w a)) (next d w a) j no.0) h,
  no.2,
)
  where
    no : NotBackOf j (next d w a) × (is_commit j (next d w a) ≡ false) × (is_back j (next d w a) ≡ false)
    no = neither j (next d w a) n

    up : {a b : ℕ} → (c : ℕ) → c + a ≤ b → 0 < a → 0 < b
    up c h k = omega arith

    down : {a b : ℕ} → a ≤ b → 0 < a → 0 < b
    down h k = omega arith

there_at : (d : Design) (events : List Actor) (t : ℕ) → AllByRecursion (IsActorOf d) events → IsThere d (slice_get events t)
there_at d [] t u = tt
there_at d (a ∷ events) zero u = u.0
there_at d (a ∷ events) (suc t) u = there_at d events t u.1

there_take : (d : Design) (events : List Actor) (t : ℕ) → AllByRecursion (IsActorOf d) events → AllByRecursion (IsActorOf d) (take t events)
there_take d [] zero u = tt
there_take d [] (suc t) u = tt
there_take d (a ∷ events) zero u = tt
there_take d (a ∷ events) (suc t) u = (u.0, there_take d events t u.1)

pub bounds_at : (d : Design) (events : List Actor) (t : ℕ) → IsDesign d → AllByRecursion (IsActorOf d) events → KeepsBounds d (world_at d events t)
bounds_at d events t is u = world-bounds d (start_world d) (take t events) (start-sound d is) (there_take d events t u)

-- ---- all places

module _ (d : Design) (events : List Actor) (j : ℕ) (is : IsDesign d) (u : AllByRecursion (IsActorOf d) events) where
  -- the count is above 0 exactly where the last try was rolled back
  abbrev Agrees : ℕ → ℕ → Type 0
  Agrees t backs = (0 < backs → IsRolledBack d events j t) × (IsRolledBack d events j t → 0 < backs)

  ended : (t backs : ℕ) → is_at (is_boundary j) d events t ≡ true
      → ((is_at (is_back j) d events t ≡ true) × (0 < backs)) ⊎ ((is_at (is_back j) d events t ≡ false) × (backs ≡ 0))
      → Agrees (suc t) backs
  ended t backs on (inl back) = (λ _. (t, last_here d events j (is_back j) t back.0), λ _. back.1)
  ended t backs on (inr none) = (λ h. absurd (omega (arith, none.1, h)), λ last. absurd (go last.0 (last_cases d events j (is_back j) last.0 t last.1)))
    where
      go : (s : ℕ) → (is_at (is_back j) d events t ≡ true) ⊎ ((is_at (is_boundary j) d events t ≡ false) × IsLastAt (is_back j) d events j s t) → ⊥
      go s (inl h) = false≢true (sym none.0 ∙ h)
      go s (inr h) = true≢false (sym on ∙ h.0)

  later : (t old new : ℕ) → is_at (is_boundary j) d events t ≡ false → is_at (is_back j) d events t ≡ false
      → (0 < old → 0 < new) → (0 < new → 0 < old) → Agrees t old → Agrees (suc t) new
  later t old new off none up down before = (
    λ h. let last = before.0 (down h) in (last.0, last_longer d events j (is_back j) last.0 t off last.1),
    λ last. go last.0 (last_cases d events j (is_back j) last.0 t last.1),
  )
    where
      go : (s : ℕ) → (is_at (is_back j) d events t ≡ true) ⊎ ((is_at (is_boundary j) d events t ≡ false) × IsLastAt (is_back j) d events j s t) → 0 < new
      go s (inl h) = absurd (false≢true (sym none ∙ h))
      go s (inr h) = up (before.1 (s, h.1))

  shut_before : (more : Bool) (x y : Option Opening) → GoesOn more x y → y ≡ None → x ≡ None
  shut_before more None y on e = refl
  shut_before more (Some o) None on e = absurd on
  shut_before more (Some o) (Some q) on e = absurd (let k : Some q ≡ None = e in cc)

  open_after : (w : World) (locked : Bool) (y : Option Opening) → IsNew w j locked y → y ≡ None → ⊥
  open_after w locked None new e = new
  open_after w locked (Some o) new e = absurd (let k : Some o ≡ None = e in cc)

  agrees_next : (t : ℕ) → (((world_at d events t).seats j).opening ≡ None → Agrees t ((world_at d events t).seats j).backs)
      → (opened ended_here : Bool) → is_at (is_opening j) d events t ≡ opened → is_at (is_ending j) d events t ≡ ended_here
      → ((after_option d (world_at d events t) (slice_get events t)).seats j).opening ≡ None
      → Agrees (suc t) ((after_option d (world_at d events t) (slice_get events t)).seats j).backs
  agrees_next t before true b h k shut = absurd (open_after (world_at d events t) _ _ (opens_at d (world_at d events t) (slice_get events t) j h) shut)
  agrees_next t before false true h k shut =
      ended t _ (boundary_parts d (world_at d events t) (slice_get events t) j ∙ or_right _ _ k)
      (counted_at d (world_at d events t) (slice_get events t) j k)
  agrees_next t before false false h k shut =
      later t _ _ off stays.2 stays.0 stays.1 (before (shut_before _ _ _ (goes_at d w x j off) shut))
    where
      w : World
      w = world_at d events t

      x : Option Actor
      x = slice_get events t

      off : is_at (is_boundary j) d events t ≡ false
      off = boundary_parts d w x j ∙ ap (λ b. b || is_at (is_ending j) d events t) h ∙ k

      stays : (0 < (w.seats j).backs → 0 < ((after_option d w x).seats j).backs)
          × (0 < ((after_option d w x).seats j).backs → 0 < (w.seats j).backs)
          × (passes (is_back j) d w x ≡ false)
      stays = stays_at d w x j (bounds_at d events t is u) (there_at d events t u) off

  agrees : (t : ℕ) → ((world_at d events t).seats j).opening ≡ None → Agrees t ((world_at d events t).seats j).backs
  agrees zero =
      subst (λ (w : World). (w.seats j).opening ≡ None → Agrees 0 (w.seats j).backs) (sym (world_first d events))
      (λ _. (λ h. absurd (omega (arith, h)), λ last. absurd (omega (arith, last.1.before))))
  agrees (suc t) =
      subst (λ (w : World). (w.seats j).opening ≡ None → Agrees (suc t) (w.seats j).backs) (sym (world_next d events t))
      (agrees_next t (agrees t) (is_at (is_opening j) d events t) (is_at (is_ending j) d events t) refl refl)

pub rollbacks : AlwaysRollbacks
rollbacks d events j t is u shut = agrees d events j is u t shut
