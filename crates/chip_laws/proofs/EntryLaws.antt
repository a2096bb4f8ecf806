-- The facts on a single entry as laws, and what one event more comes to.
use Rattle.std.proofs.Common.{◌≡◌, ℕ, Bool, true, false, List, [], ◌∷◌, ◌++◌, refl, sym, ap, ◌∙◌, subst, ◌||◌, cond, eqb, ◌⊎◌, inl, inr, Option, Some, None}
use Rattle.std.proofs.lemmas.Bool.{false≢true, cond-true, eqb-true, eqb-false, eq-eqb, ne_eqb, or_cases, cases_Bool, false_from_ne_true}
use Rattle.conda_base.specs.declared.Line.{Line}
use Rattle.conda_base.specs.declared.actor.Actor.{Actor}
use Rattle.schedule_log.specs.declared.entry.Entry.{Entry}
use Rattle.schedule_log.specs.declared.entry.Entry.TheVariants.{Step, Waits, Idle, Held, Open, Lock, Spec, Commit, Back, Flush, Kern}
use Rattle.chip_laws.specs.Design.{Design, setup_of}
use Rattle.chip_laws.specs.Rules.{World, Seat, Opening, dirty_of, next}
use Rattle.chip_laws.specs.Worlds.{flat_after, changed, seat_committed, seat_back, seat_after, took, happens, start_world, world_from, world, journal_from}
use Rattle.chip_laws.specs.Entries.{is_commit, is_boundary}
use Rattle.run_report.specs.Runs.{flat_run_from}
use Rattle.conda_base.specs.LineLists.{names}
use Rattle.chip_laws.specs.Runs.{AlwaysGrows, FlatIsRun}
use Rattle.chip_laws.specs.Facts.{DirtyStays, ForeignGrows, AlwaysEntryFacts}
use Rattle.chip_laws.proofs.WorldFacts.{next-allowed, lines_kept, clean_kept, core_kept, NotCommitOf}
use Rattle.chip_laws.proofs.FreshFacts.{world-good, start-good}
use Rattle.chip_laws.proofs.UntouchedFacts.{Tells, tells}
use Rattle.chip_laws.proofs.BalanceFacts.{ShutAt, next-shut}
use Rattle.chip_laws.specs.Sound.{KeepsFresh}

-- ---- one event more

world-push : (p : Design) (w : World) (s : List Actor) (a : Actor) → world_from p w (s ++ a ∷ []) ≡ happens p (world_from p w s) a
unfolding world_from
world-push p w [] a = refl
world-push p w (b ∷ s) a = world-push p (happens p w b) s a

journal-push : (p : Design) (w : World) (s : List Actor) (a : Actor) → journal_from p w (s ++ a ∷ []) ≡ journal_from p w s ++ next p (world_from p w s) a ∷ []
unfolding world_from journal_from
journal-push p w [] a = refl
journal-push p w (b ∷ s) a = ap (λ es. next p w b ∷ es) (journal-push p (happens p w b) s a)

pub grows : AlwaysGrows
grows p s a = record { world_after = world-push p (start_world p) s a; journal_after = journal-push p (start_world p) s a }

flat-from : (p : Design) (w : World) (s : List Actor) → (world_from p w s).flat ≡ flat_run_from (setup_of p) w.flat (journal_from p w s)
unfolding world_from journal_from happens
flat-from p w [] = refl
flat-from p w (a ∷ s) = flat-from p (happens p w a) s

pub flat_is_run : FlatIsRun
flat_is_run p s = flat-from p (start_world p) s

-- ---- one entry

not_commit : (k : ℕ) (e : Entry) → is_commit k e ≡ false → NotCommitOf k e
not_commit k (Commit j n c) h = ne_eqb k j (λ same. eqb-false j k h (sym same))
not_commit k (Step h) e = tt
not_commit k (Waits h) e = tt
not_commit k (Idle a) e = tt
not_commit k (Held a) e = tt
not_commit k (Open j) e = tt
not_commit k (Lock j) e = tt
not_commit k (Spec j) e = tt
not_commit k (Back j n c) e = tt
not_commit k (Flush j) e = tt
not_commit k (Kern j) e = tt

dirty_stays : (p : Design) (w : World) (e : Entry) → DirtyStays p w e (took p w e)
dirty_stays p w e l out after = go (cases_Bool (names (dirty_of p w) l))
  where
    go : (names (dirty_of p w) l ≡ true) ⊎ (names (dirty_of p w) l ≡ false) → names (dirty_of p w) l ≡ true
    go (inl h) = h
    go (inr h) = absurd (false≢true (sym (clean_kept p w e l out h) ∙ after))

-- an opening comes where no try is open, and an end leaves none open
no_boundary : (p : Design) (w : World) (e : Entry) (j : ℕ) (old new : Opening) → ShutAt w e → (w.seats j).opening ≡ Some old
    → (seat_after p w (flat_after p w.flat e) e j).opening ≡ Some new → is_boundary j e ≡ false
no_boundary p w e j old new shut before after = go e shut after
  where
    none_old : (k : ℕ) → k ≡ j → (w.seats k).opening ≡ None → ⊥
    none_old k same h = let both : Some old ≡ None = sym before ∙ ap (λ i. (w.seats i).opening) (sym same) ∙ h in absurd (let x : Some old ≡ None = both in cc)

    none_new : (b : Bool) (x y : Seat) → b ≡ true → x.opening ≡ None → (cond b x y).opening ≡ Some new → ⊥
    none_new b x y h none after =
        let both : None ≡ Some new = sym none ∙ sym (ap (λ (t : Seat). t.opening) (cond-true b x y h)) ∙ after in
        absurd (let z : None ≡ Some new = both in cc)

    swapped : (k : ℕ) → eqb k j ≡ true → eqb j k ≡ true
    swapped k h = eq-eqb j k (sym (eqb-true k j h))

    go : (e : Entry) → ShutAt w e → (seat_after p w (flat_after p w.flat e) e j).opening ≡ Some new → is_boundary j e ≡ false
    go (Open k) shut after = ap (λ b. b || false) (false_from_ne_true _ (λ h. none_old k (eqb-true k j h) shut))
    go (Lock k) shut after = ap (λ b. b || false) (false_from_ne_true _ (λ h. none_old k (eqb-true k j h) shut))
    go (Commit k n c) shut after = false_from_ne_true _ (λ h. none_new (eqb j k) (seat_committed w k) _ (swapped k h) refl after)
    go (Back k n c) shut after = false_from_ne_true _ (λ h. none_new (eqb j k) (seat_back p w k) (w.seats j) (swapped k h) refl after)
    go (Step h) shut after = refl
    go (Waits h) shut after = refl
    go (Idle a) shut after = refl
    go (Held a) shut after = refl
    go (Spec k) shut after = refl
    go (Flush k) shut after = refl
    go (Kern k) shut after = refl

told_of : (old new : Opening) (ls : List Line) (x y : Option Opening) → x ≡ Some old → y ≡ Some new → Tells x ls y
    → (l : Line) → (names old.foreign l || names ls l) ≡ true → names new.foreign l ≡ true
told_of old new ls x y e f t l h =
    go (subst (λ z. Tells (Some old) ls z) f (subst (λ z. Tells z ls y) e t)) (or_cases (names old.foreign l) (names ls l) h)
  where
    go : Tells (Some old) ls (Some new) → (names old.foreign l ≡ true) ⊎ (names ls l ≡ true) → names new.foreign l ≡ true
    go t c = t l c

foreign_grows : (p : Design) (w : World) (e : Entry) → ShutAt w e → ForeignGrows p w e (took p w e)
foreign_grows p w e shut j old new before after l h =
    told_of old new (changed p w e) (w.seats j).opening _ before after (tells p w e j (no_boundary p w e j old new shut before after)) l h

pub entry_facts : AlwaysEntryFacts
entry_facts p s a is =
    let w : World = world p s in
    let e : Entry = next p w a in
    let g : KeepsFresh p w = world-good p (start_world p) s (start-good p is) in
    record {
      bytes = lines_kept p w g e (next-allowed p w a);
      dirty = dirty_stays p w e;
      foreign = foreign_grows p w e (next-shut p w a);
      core = λ j run never. core_kept p w g e (next-allowed p w a) j (not_commit j e never) run;
    }
