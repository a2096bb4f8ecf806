-- One core's event in the world, and what stands of its seat and of the others.
use Rattle.std.proofs.Common.{◌≡◌, ◌≢◌, ◌<◌, length, ◌⊎◌, inl, inr, ℕ, Bool, true, false, List, [], ◌++◌, cond, eqb, refl, sym, ap, ◌∙◌, subst, append-nil, Option, Some, None, eq-eqb}
use Rattle.std.proofs.lemmas.Option.{same_Some}
use Rattle.std.proofs.lemmas.Bool.{cond-true, cond-false, ne_eqb, cases_eq, eqb-false}
use Rattle.std.specs.Prelude.{slice_get}
use Rattle.conda_base.specs.declared.actor.Actor.TheVariants as Actor_is
use Rattle.schedule_log.specs.declared.entry.Entry.{Entry}
use Rattle.schedule_log.specs.declared.entry.Entry.TheVariants.{Idle, Held, Open, Lock, Spec, Commit, Back, Flush}
use Rattle.rv32_hart.specs.Code.{CodeView}
use Rattle.line_memory.specs.Backing.{BackingView}
use Rattle.traffic_trace.specs.Notes.{Trace}
use Rattle.offload_calls.specs.declared.status.CoreStatus.{CoreStatus}
use Rattle.offload_calls.specs.State.{State, status_of}
use Rattle.offload_calls.specs.CoreActs.{core_runs}
use Rattle.fallback_lock.specs.Locks.{Counts, IsAnothers, with_locked}
use Rattle.chip_laws.specs.Design.{Design}
use Rattle.chip_laws.specs.Rules.{World, Seat, Opening, is_locked, is_locked_below, is_flushing, is_conflict, opening_end, ruling, core_entry, next}
use Rattle.chip_laws.specs.Worlds.{took, happens}
use Rattle.chip_laws.proofs.LockFacts.{none_locked}
use Rattle.chip_core.specs.declared.stage.Stage.{Stage}
use Rattle.chip_core.specs.declared.cores.Cores.{Cores}
use Rattle.chip_core.specs.Seats.{Turned}
use Rattle.chip_core.specs.Fits.{is_locked_core}
use Rattle.chip_core.specs.Shows.{HoldsAt, ShowsCores, ShowsLock}
use Rattle.chip_core.specs.Turns.{ShowsParts, CoreTurns}
use Rattle.chip_core.proofs.HartFacts.{nobody-locked, somebody-locked, IsStill}
use Rattle.conflict_resolve.specs.Commits.{change}

-- ---- the next entry

pub next-core-idle : (d : Design) (w : World) (j : ℕ) → core_runs (w.flat.cores j).status ≡ false → next d w (Actor_is.Core j) ≡ Idle (Actor_is.Core j)
unfolding next
next-core-idle d w j ended = rw ended refl

pub next-core-held : (d : Design) (w : World) (j : ℕ) → core_runs (w.flat.cores j).status ≡ true → is_locked_below w (λ k. eqb k j) d.config.cores ≡ true
    → next d w (Actor_is.Core j) ≡ Held (Actor_is.Core j)
unfolding next
next-core-held d w j runs locked = rw (runs, locked) refl

pub next-core : (d : Design) (w : World) (j : ℕ) → core_runs (w.flat.cores j).status ≡ true → is_locked_below w (λ k. eqb k j) d.config.cores ≡ false
    → next d w (Actor_is.Core j) ≡ core_entry d w j (w.seats j).opening
unfolding next
next-core d w j runs free = rw (runs, free) refl

-- with no try open
abbrev open_entry : Design → World → ℕ → Entry
open_entry d w j = cond (eqb (w.seats j).backs d.config.retries) (Lock j) (Open j)

pub entry-flush : (d : Design) (w : World) (j : ℕ) → (w.seats j).opening ≡ None → is_flushing d w j ≡ true
    → core_entry d w j (w.seats j).opening ≡ Flush j
entry-flush d w j closed flushing = ap (core_entry d w j) closed ∙ cond-true (is_flushing d w j) (Flush j) (open_entry d w j) flushing

pub entry-opens : (d : Design) (w : World) (j : ℕ) (locked : Bool) → (w.seats j).opening ≡ None → is_flushing d w j ≡ false
    → eqb (w.seats j).backs d.config.retries ≡ locked → core_entry d w j (w.seats j).opening ≡ cond locked (Lock j) (Open j)
entry-opens d w j locked closed none spent =
    ap (core_entry d w j) closed ∙ cond-false (is_flushing d w j) (Flush j) (open_entry d w j) none ∙ ap (λ b. cond b (Lock j) (Open j)) spent

-- with an open try
pub entry-spec : (d : Design) (w : World) (j : ℕ) (o : Opening) → (w.seats j).opening ≡ Some o → opening_end d o ≡ None
    → core_entry d w j (w.seats j).opening ≡ Spec j
entry-spec d w j o at none = ap (core_entry d w j) at ∙ ap (ruling d j o) none

pub entry-back : (d : Design) (w : World) (j : ℕ) (o : Opening) (cause : ℕ) → (w.seats j).opening ≡ Some o → opening_end d o ≡ Some cause → is_conflict d o ≡ true
    → core_entry d w j (w.seats j).opening ≡ Back j o.acts cause
entry-back d w j o cause at end meets =
    ap (core_entry d w j) at ∙ ap (ruling d j o) end ∙ cond-true (is_conflict d o) (Back j o.acts cause) (Commit j o.acts cause) meets

pub entry-commit : (d : Design) (w : World) (j : ℕ) (o : Opening) (cause : ℕ) → (w.seats j).opening ≡ Some o → opening_end d o ≡ Some cause → is_conflict d o ≡ false
    → core_entry d w j (w.seats j).opening ≡ Commit j o.acts cause
entry-commit d w j o cause at end clear =
    ap (core_entry d w j) at ∙ ap (ruling d j o) end ∙ cond-false (is_conflict d o) (Back j o.acts cause) (Commit j o.acts cause) clear

-- ---- held by another core's lock

pub held-core : (d : Design) (lock : Counts) (w : World) (j : ℕ) → ShowsLock d lock w → IsAnothers lock.locked (Actor_is.Core j)
    → is_locked_below w (λ k. eqb k j) d.config.cores ≡ true
held-core d lock w j shows others = go lock.locked refl others
  where
    go : (x : Option ℕ) → lock.locked ≡ x → IsAnothers x (Actor_is.Core j) → is_locked_below w (λ k. eqb k j) d.config.cores ≡ true
    go None e o = absurd o
    go (Some k) e o = somebody-locked d lock w (λ i. eqb i j) k shows e (ne_eqb k j o)

only-locked : (d : Design) (lock : Counts) (w : World) (k j : ℕ) → ShowsLock d lock w → lock.locked ≡ Some k → k ≡ j
    → is_locked_below w (λ i. eqb i j) d.config.cores ≡ false
only-locked d lock w k j shows e same =
    none_locked w (λ i. eqb i j) d.config.cores
    (λ i u s. sym (shows.locked i) ∙ ap (λ x. is_locked_core x i) e ∙ ne_eqb k i (λ at. eqb-false i j s (sym at ∙ same)))

pub free-core : (d : Design) (lock : Counts) (w : World) (j : ℕ) → ShowsLock d lock w → (IsAnothers lock.locked (Actor_is.Core j) → ⊥)
    → is_locked_below w (λ k. eqb k j) d.config.cores ≡ false
free-core d lock w j shows free = go lock.locked refl free
  where
    go : (x : Option ℕ) → lock.locked ≡ x → (IsAnothers x (Actor_is.Core j) → ⊥) → is_locked_below w (λ k. eqb k j) d.config.cores ≡ false
    go None e o = nobody-locked d lock w (λ i. eqb i j) shows e
    go (Some k) e o = own (cases_eq k j)
      where
        own : ((k ≡ j) ⊎ (k ≡ j → ⊥)) → is_locked_below w (λ i. eqb i j) d.config.cores ≡ false
        own (inr ne) = absurd (o ne)
        own (inl same) = only-locked d lock w k j shows e same

-- the locked core is j itself, or nobody
pub none-or-own : (x : Option ℕ) (j : ℕ) → (IsAnothers x (Actor_is.Core j) → ⊥) → is_locked_core x j ≡ false → x ≡ None
none-or-own None j free unlocked = refl
none-or-own (Some k) j free unlocked = absurd (free (eqb-false k j unlocked))

-- ---- the seats after an entry

-- the entry changes the seat of core j alone, and leaves the flat state
pub record OwnSeat (d : Design) (w : World) (e : Entry) (j : ℕ) (s : Seat) : Type 0 where
  pub flat : (took d w e).flat ≡ w.flat
  pub own : (took d w e).seats j ≡ s
  pub others : (k : ℕ) → k ≢ j → (took d w e).seats k ≡ w.seats k

-- a list with one member changed
pub record ChangesAt (j : ℕ) (p : Stage) (old new : List Stage) : Type 0 where
  pub many : length new ≡ length old
  pub here : slice_get new j ≡ Some p
  pub beside : (k : ℕ) → k ≢ j → slice_get new k ≡ slice_get old k

pub own-cores : (d : Design) (w : World) (e : Entry) (j : ℕ) (s : Seat) (stands : List CoreStatus) (old new : List Stage) (p : Stage)
    → OwnSeat d w e j s → ChangesAt j p old new → HoldsAt d j (w.flat.cores j).regs s p → ShowsCores d stands old w
    → ShowsCores d stands new (took d w e)
own-cores d w e j s stands old new p seat change holds shows = record {
  statuses = λ k. subst (λ (f : State). slice_get stands k ≡ status_of d.config.cores f.cores k) (sym seat.flat) (shows.statuses k);
  many = change.many ∙ shows.many;
  portions = λ k q at. go k q at (cases_eq k j);
}
  where
    now : (k : ℕ) (t : Seat) (q : Stage) → (took d w e).seats k ≡ t → HoldsAt d k (w.flat.cores k).regs t q
        → HoldsAt d k ((took d w e).flat.cores k).regs ((took d w e).seats k) q
    now k t q is h =
        subst (λ (f : State). HoldsAt d k (f.cores k).regs ((took d w e).seats k) q) (sym seat.flat)
        (subst (λ (x : Seat). HoldsAt d k (w.flat.cores k).regs x q) (sym is) h)

    here : (q : Stage) → slice_get new j ≡ Some q → HoldsAt d j ((took d w e).flat.cores j).regs ((took d w e).seats j) q
    here q at = subst (λ (x : Stage). HoldsAt d j ((took d w e).flat.cores j).regs ((took d w e).seats j) x)
        (same_Some _ _ (sym change.here ∙ at)) (now j s p seat.own holds)

    go : (k : ℕ) (q : Stage) → slice_get new k ≡ Some q → ((k ≡ j) ⊎ (k ≡ j → ⊥))
        → HoldsAt d k ((took d w e).flat.cores k).regs ((took d w e).seats k) q
    go k q at (inl same) =
        subst (λ i. HoldsAt d i ((took d w e).flat.cores i).regs ((took d w e).seats i) q) (sym same)
        (here q (subst (λ i. slice_get new i ≡ Some q) same at))
    go k q at (inr ne) = now k (w.seats k) q (seat.others k ne) (shows.portions k q (sym (change.beside k ne) ∙ at))

-- a lock that stays
pub own-lock : (d : Design) (w : World) (e : Entry) (j : ℕ) (s : Seat) (lock : Counts) → OwnSeat d w e j s
    → s.backs ≡ (w.seats j).backs → is_locked s.opening ≡ is_locked (w.seats j).opening → ShowsLock d lock w → ShowsLock d lock (took d w e)
own-lock d w e j s lock seat backs locked shows = record {
  retries = shows.retries;
  many = shows.many;
  backs = λ k u. shows.backs k u ∙ ap Some (sym (same-backs k (cases_eq k j)));
  locked = λ k. shows.locked k ∙ sym (same-locked k (cases_eq k j));
  within = shows.within;
}
  where
    same-backs : (k : ℕ) → ((k ≡ j) ⊎ (k ≡ j → ⊥)) → ((took d w e).seats k).backs ≡ (w.seats k).backs
    same-backs k (inl same) = subst (λ i. ((took d w e).seats i).backs ≡ (w.seats i).backs) (sym same) (ap (λ (x : Seat). x.backs) seat.own ∙ backs)
    same-backs k (inr ne) = ap (λ (x : Seat). x.backs) (seat.others k ne)

    same-locked : (k : ℕ) → ((k ≡ j) ⊎ (k ≡ j → ⊥)) → is_locked ((took d w e).seats k).opening ≡ is_locked (w.seats k).opening
    same-locked k (inl same) = subst (λ i. is_locked ((took d w e).seats i).opening ≡ is_locked (w.seats i).opening) (sym same)
        (ap (λ (x : Seat). is_locked x.opening) seat.own ∙ locked)
    same-locked k (inr ne) = ap (λ (x : Seat). is_locked x.opening) (seat.others k ne)

-- a lock that core j takes
pub took-lock : (d : Design) (w : World) (e : Entry) (j : ℕ) (s : Seat) (lock : Counts) → OwnSeat d w e j s → lock.locked ≡ None → j < d.config.cores
    → s.backs ≡ (w.seats j).backs → is_locked s.opening ≡ true → ShowsLock d lock w → ShowsLock d (with_locked lock j) (took d w e)
took-lock d w e j s lock seat free range backs locked shows = record {
  retries = shows.retries;
  many = shows.many;
  backs = λ k u. shows.backs k u ∙ ap Some (sym (same-backs k (cases_eq k j)));
  locked = λ k. at k (cases_eq k j);
  within = λ k same. subst (λ i. i < d.config.cores) (same_Some _ _ same) range;
}
  where
    same-backs : (k : ℕ) → ((k ≡ j) ⊎ (k ≡ j → ⊥)) → ((took d w e).seats k).backs ≡ (w.seats k).backs
    same-backs k (inl same) = subst (λ i. ((took d w e).seats i).backs ≡ (w.seats i).backs) (sym same) (ap (λ (x : Seat). x.backs) seat.own ∙ backs)
    same-backs k (inr ne) = ap (λ (x : Seat). x.backs) (seat.others k ne)

    at : (k : ℕ) → ((k ≡ j) ⊎ (k ≡ j → ⊥)) → eqb j k ≡ is_locked ((took d w e).seats k).opening
    at k (inl same) = subst (λ i. eqb j i ≡ is_locked ((took d w e).seats i).opening) (sym same)
        (eq-eqb j j refl ∙ sym (ap (λ (x : Seat). is_locked x.opening) seat.own ∙ locked))
    at k (inr ne) =
        ne_eqb j k (λ same. ne (sym same)) ∙ sym (ap (λ x. is_locked_core x k) free) ∙ shows.locked k
        ∙ sym (ap (λ (x : Seat). is_locked x.opening) (seat.others k ne))

-- ---- put together

pub core-turn : (d : Design) (w : World) (j : ℕ) (code : CodeView) (new : BackingView) (later : Trace) (left : Cores) (event : Turned) (e : Entry)
    → next d w (Actor_is.Core j) ≡ e → event.entry ≡ e → ((h : ℕ) → (took d w e).flat.harts h ≡ w.flat.harts h)
    → ShowsParts d code new later left (took d w e) → (took d w e).flat.output ≡ w.flat.output ++ event.puts
    → CoreTurns d w j code new later left event
unfolding happens
core-turn d w j code new later left event e next_is entry harts parts output = record {
  entry = entry ∙ sym next_is;
  harts = λ h. ap (λ x. (took d w x).flat.harts h) next_is ∙ harts h;
  parts = subst (λ x. ShowsParts d code new later left (took d w x)) (sym next_is) parts;
  output = ap (λ x. (took d w x).flat.output) next_is ∙ output;
}

-- an entry that changes nothing
pub still-turn : (d : Design) (w : World) (j : ℕ) (code : CodeView) (b : BackingView) (log : Trace) (cores : Cores) (event : Turned) (e : Entry) → IsStill e
    → next d w (Actor_is.Core j) ≡ e → event.entry ≡ e → event.puts ≡ [] → ((h : ℕ) → (took d w e).flat.harts h ≡ w.flat.harts h)
    → (took d w e).flat.output ≡ w.flat.output → ShowsParts d code b log cores (took d w e)
    → CoreTurns d w j code b log cores event
still-turn d w j code b log cores event e still next_is entry puts harts output parts =
    core-turn d w j code b log cores event e next_is entry harts parts
    (output ∙ sym (append-nil w.flat.output) ∙ ap (λ xs. w.flat.output ++ xs) (sym puts))
