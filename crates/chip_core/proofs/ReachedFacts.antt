-- What holds of every world that a list of events leads to.
use Rattle.std.proofs.Common.{◌≡◌, ◌-◌, ◌<◌, ℕ, true, false, List, [], ◌∷◌, refl, sym, ap, ◌∙◌, subst, arith, eqb, Some, None}
use Rattle.std.specs.List.{AllByRecursion}
use Rattle.std.proofs.lemmas.Bool.{true≢false, cond_both, and_parts}
use Rattle.conda_base.specs.declared.Line.{Line}
use Rattle.conda_base.specs.declared.actor.Actor.{Actor}
use Rattle.schedule_log.specs.declared.entry.Entry.{Entry}
use Rattle.schedule_log.specs.declared.entry.Entry.TheVariants.{Step, Waits, Idle, Held, Open, Lock, Spec, Commit, Back, Flush, Kern}
use Rattle.offload_calls.specs.declared.status.CoreStatus.{CoreStatus}
use Rattle.offload_calls.specs.declared.status.CoreStatus.TheVariants as Core_is
use Rattle.offload_calls.specs.State.{State}
use Rattle.offload_calls.specs.Calls.{is_idle}
use Rattle.chip_laws.specs.Design.{Design, IsActorOf}
use Rattle.chip_laws.specs.Rules.{World, Seat, dirty_of, next}
use Rattle.chip_laws.specs.Worlds.{changed, told, flat_after, seat_opened, seat_committed, seat_back, one_more, is_launched, seat_after, happens, start_world, world_from}
use Rattle.chip_laws.proofs.WorldFacts.{Allowed, CommitsAt, next-allowed}
use Rattle.chip_laws.proofs.LockFacts.{start-sound}
use Rattle.chip_laws.proofs.BoundedFacts.{sound_happens}
use Rattle.chip_core.specs.Turns.{IsReached}
use Rattle.chip_laws.specs.Sound.{KeepsBounds}

-- ---- KeepsBounds

sound-from : (d : Design) (w : World) (s : List Actor) → KeepsBounds d w → AllByRecursion (IsActorOf d) s → KeepsBounds d (world_from d w s)
unfolding world_from
sound-from d w [] is of = is
sound-from d w (a ∷ s) is of = sound-from d (happens d w a) s (sound_happens d w a of.0 is) of.1

pub reached-sound : (d : Design) (w : World) → IsReached d w → KeepsBounds d w
reached-sound d w r = subst (KeepsBounds d) (sym r.leads) (sound-from d (start_world d) r.events (start-sound d r.is_design) r.actors)

-- ---- flushes are due only after a rollback

-- flushes are due to a core only after a rollback, before its next opening
pub record DueAfterBack (seat : Seat) : Type 0 where
  pub closed : 0 < seat.due → seat.opening ≡ None
  pub taken : 0 < seat.due → 0 < seat.backs

abbrev pub Due : World → Type 0
Due w = (j : ℕ) → DueAfterBack (w.seats j)

none-due : (seat : Seat) → seat.due ≡ 0 → DueAfterBack seat
none-due seat e = record { closed = λ u. absurd (omega (arith, e, u)); taken = λ u. absurd (omega (arith, e, u)) }

launched-idle : (d : Design) (w : World) (f : State) (k : ℕ) → KeepsBounds d w → is_launched w f k ≡ true → 0 < (w.seats k).backs → ⊥
launched-idle d w f k so l u = go (w.flat.cores k).status (so.run k u) (and_parts _ _ l).0
  where
    go : (s : CoreStatus) → s ≡ Core_is.Run → is_idle (Some s) ≡ true → ⊥
    go s e h = true≢false (sym h ∙ ap (λ y. is_idle (Some y)) e)

due-step : (d : Design) (w : World) (f : State) (h k : ℕ) → KeepsBounds d w → Due w → DueAfterBack (seat_after d w f (Step h) k)
due-step d w f h k so is = record {
  closed = λ u. ap (told (changed d w (Step h))) ((is k).closed u);
  taken = λ u. cond_both (is_launched w f k) 0 (w.seats k).backs (λ b. 0 < b)
      (λ l. absurd (launched-idle d w f k so l ((is k).taken u))) (λ _. (is k).taken u);
}

due-more : (d : Design) (w : World) (j : ℕ) → Due w → DueAfterBack (record (w.seats j) { opening = one_more d w (w.seats j).opening })
due-more d w j is = record {
  closed = λ u. ap (one_more d w) ((is j).closed u);
  taken = (is j).taken;
}

due-flushed : (w : World) (j : ℕ) → Due w → DueAfterBack (record (w.seats j) { due = (w.seats j).due - 1 })
due-flushed w j is = record {
  closed = λ u. (is j).closed (omega (arith, u));
  taken = λ u. (is j).taken (omega (arith, u));
}

-- a commit ends an open try, to which no flush is due
due-committed : (d : Design) (w : World) (j n : ℕ) → Due w → CommitsAt d n (w.seats j).opening → DueAfterBack (seat_committed w j)
due-committed d w j n is at = record {
  closed = λ u. refl;
  taken = λ u. absurd (subst (CommitsAt d n) ((is j).closed u) at);
}

due-told : (lines : List Line) (seat : Seat) → DueAfterBack seat → DueAfterBack (record seat { opening = told lines seat.opening })
due-told lines seat is = record { closed = λ u. ap (told lines) (is.closed u); taken = is.taken }

due-back : (d : Design) (w : World) (j : ℕ) → DueAfterBack (seat_back d w j)
due-back d w j = record { closed = λ u. refl; taken = λ u. omega arith }

due-after : (d : Design) (w : World) (f : State) (e : Entry) → KeepsBounds d w → Due w → Allowed d w e → (k : ℕ) → DueAfterBack (seat_after d w f e k)
due-after d w f (Step h) so is a k = due-step d w f h k so is
due-after d w f (Waits h) so is a k = is k
due-after d w f (Idle b) so is a k = is k
due-after d w f (Held b) so is a k = is k
due-after d w f (Open j) so is a k =
    cond_both (eqb k j) (seat_opened w j false (dirty_of d w)) (w.seats k) DueAfterBack
    (λ _. none-due (seat_opened w j false (dirty_of d w)) refl) (λ _. is k)
due-after d w f (Lock j) so is a k =
    cond_both (eqb k j) (seat_opened w j true []) (w.seats k) DueAfterBack
    (λ _. none-due (seat_opened w j true []) refl) (λ _. is k)
due-after d w f (Spec j) so is a k =
    cond_both (eqb k j) (record (w.seats j) { opening = one_more d w (w.seats j).opening }) (w.seats k) DueAfterBack
    (λ _. due-more d w j is) (λ _. is k)
due-after d w f (Commit j n c) so is a k =
    cond_both (eqb k j) (seat_committed w j) (record (w.seats k) { opening = told (changed d w (Commit j n c)) (w.seats k).opening }) DueAfterBack
    (λ _. due-committed d w j n is a) (λ _. due-told (changed d w (Commit j n c)) (w.seats k) (is k))
due-after d w f (Back j n c) so is a k =
    cond_both (eqb k j) (seat_back d w j) (w.seats k) DueAfterBack (λ _. due-back d w j) (λ _. is k)
due-after d w f (Flush j) so is a k =
    cond_both (eqb k j) (record (w.seats j) { due = (w.seats j).due - 1 }) (w.seats k) DueAfterBack
    (λ _. due-flushed w j is) (λ _. is k)
due-after d w f (Kern j) so is a k = is k

due-happens : (d : Design) (w : World) (a : Actor) → KeepsBounds d w → Due w → Due (happens d w a)
unfolding happens
due-happens d w a so is k = due-after d w (flat_after d w.flat (next d w a)) (next d w a) so is (next-allowed d w a) k

due-from : (d : Design) (w : World) (s : List Actor) → KeepsBounds d w → Due w → AllByRecursion (IsActorOf d) s → Due (world_from d w s)
unfolding world_from
due-from d w [] so is of = is
due-from d w (a ∷ s) so is of = due-from d (happens d w a) s (sound_happens d w a of.0 so) (due-happens d w a so is) of.1

pub reached-due : (d : Design) (w : World) → IsReached d w → Due w
reached-due d w r =
    subst Due (sym r.leads) (due-from d (start_world d) r.events (start-sound d r.is_design)
    (λ j. none-due ((start_world d).seats j) refl) r.actors)
