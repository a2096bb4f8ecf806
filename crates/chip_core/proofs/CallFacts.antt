-- A call of a hart in the world.
use Rattle.std.proofs.Common.{◌≡◌, ◌≢◌, ◌<◌, ltb, length, set, ◌⊎◌, inl, inr, ℕ, zero, suc, ◌&&◌, Bool, true, false, List, [], ◌∷◌, ◌++◌, cond, eqb, refl, sym, ap, ◌∙◌, subst, arith, append-nil, Option, Some, None, Ok, eq-eqb}
use Rattle.std.proofs.lemmas.Option.{same_Some}
use Rattle.std.proofs.lemmas.Bool.{false≢true, true≢false, cond-true, cond-false, cond_both, ne_eqb, cases_eq, lt-ltb, ltb-true, and_parts}
use Rattle.std.proofs.lemmas.List.{length-set}
use Rattle.std.proofs.lemmas.Bool.Decides.{nat_tests}
use Rattle.std.proofs.Math.Path.{fun_ext}
use Rattle.std.specs.Prelude.{slice_get, slice_index_or, nat_lt}
use Rattle.std.specs.Option.{is_some}
use Rattle.schedule_log.specs.declared.entry.Entry.TheVariants.{Step}
use Rattle.rv32_hart.specs.declared.regs.Regs.{Regs}
use Rattle.rv32_hart.specs.declared.act.Planned.{Planned}
use Rattle.rv32_hart.specs.declared.act.Access.{Access}
use Rattle.rv32_hart.specs.declared.act.Access.TheVariants as Access_is
use Rattle.rv32_hart.specs.Code.{CodeView}
use Rattle.chip_config.specs.Settings.{Settings}
use Rattle.rv32_hart.specs.Act.{plan_of, is_call_access, value_of}
use Rattle.line_memory.specs.Backing.{BackingView}
use Rattle.traffic_trace.specs.Notes.{Trace}
use Rattle.coherent_mem.specs.Steps.{IsCoherent}
use Rattle.offload_calls.specs.declared.status.Hart.{Hart}
use Rattle.offload_calls.specs.declared.status.Core.{Core}
use Rattle.offload_calls.specs.declared.status.CoreStatus.{CoreStatus}
use Rattle.offload_calls.specs.declared.status.CoreStatus.TheVariants as Core_is
use Rattle.offload_calls.specs.Calls.{waits, is_idle, launches, collects}
use Rattle.offload_calls.specs.State.{State, status_of, updated, launched_core}
use Rattle.offload_calls.specs.HartAct.{HartEffect, CoreChange, Stays, Starts, Rests, hart_runs, waits_next, plan_effect, call_effect, change_of_call, cores_after, hart_does, hart_step}
use Rattle.offload_calls.specs.CoreActs.{core_runs}
use Rattle.fallback_lock.specs.Locks.{Counts, with_backs}
use Rattle.conda_base.specs.LineLists.{line_list}
use Rattle.offload_calls.specs.LineUses.{use_of_access, stored_line, line_use}
use Rattle.chip_laws.specs.Design.{Design, setup_of}
use Rattle.chip_laws.specs.Notes.{hart_use, notes_of}
use Rattle.chip_laws.specs.Rules.{World, Seat, Opening, is_locked}
use Rattle.chip_laws.specs.Worlds.{changed, told, is_launched, seat_after, took}
use Rattle.chip_core.specs.declared.stage.Stage.{Stage}
use Rattle.chip_core.specs.declared.stage.Stage.TheVariants as Stage_is
use Rattle.chip_core.specs.declared.cores.Cores.{Cores}
use Rattle.chip_core.specs.Calls.{changed_statuses, changed_portions, changed_lock, MakesCall}
use Rattle.chip_core.specs.Steps.{started, with_started}
use Rattle.chip_core.specs.Fits.{is_locked_core, FitCores}
use Rattle.chip_core.specs.Shows.{HoldsAt, HoldsOpen, ShowsCores, ShowsLock}
use Rattle.chip_core.specs.Turns.{ShowsParts, HartSteps, KeepFits}
use Rattle.chip_core.proofs.ListFacts.{slice_get-set_same, slice_get-set_other}
use Rattle.chip_core.proofs.MemoryFacts.{memory-stays}
use Rattle.chip_core.proofs.HartFacts.{not-launched}
use Rattle.chip_core.proofs.FitFacts.{get-inside, launch-fits, status-fits}
use Rattle.chip_laws.specs.Sound.{FitsAt, KeepsBounds}
use Rattle.chip_laws.specs.Uses.{after_use, use_notes}
use Rattle.chip_laws.specs.Design.{hart_shape}

-- ---- the flat state

flat-call : (d : Design) (f : State) (h : ℕ) (p : Planned) → hart_runs (f.harts h).status ≡ true → plan_of d.image.code (f.harts h).regs ≡ Ok p
    → is_call_access p.access ≡ true → waits (status_of d.config.cores f.cores) (f.harts h).regs ≡ false
    → hart_step (setup_of d) f h ≡ hart_does (setup_of d) f h (call_effect (status_of d.config.cores f.cores) (f.harts h).regs)
unfolding hart_step waits_next plan_effect
flat-call d f h p runs plan call goes_on = rw (runs, plan, call, goes_on) refl

-- a call accesses no line
no-line : (n : ℕ) (a : Access) → is_call_access a ≡ true → use_of_access n a ≡ None
no-line n Access_is.Nothing h = refl
no-line n (Access_is.Load addr size signed rd) h = absurd (false≢true h)
no-line n (Access_is.Store addr size value) h = absurd (false≢true h)
no-line n (Access_is.Amo addr op rd value) h = absurd (false≢true h)
no-line n Access_is.Call h = refl

call-use : (d : Design) (w : World) (h : ℕ) (p : Planned) → plan_of d.image.code (w.flat.harts h).regs ≡ Ok p → is_call_access p.access ≡ true
    → hart_use d w h ≡ None
unfolding line_use
call-use d w h p plan call = rw plan (no-line d.config.line_bytes p.access call)

-- ---- the change of a core

-- a core that starts is idle, and one that rests is there
abbrev pub ChangeFits : Design → World → CoreChange → Type 0
ChangeFits d w Stays = Unit {0}
ChangeFits d w (Starts j entry arg) = (j < d.config.cores) × ((w.flat.cores j).status ≡ Core_is.Idle)
ChangeFits d w (Rests j) = j < d.config.cores

idle-core : (d : Design) (cores : ℕ → Core) (j : ℕ) → is_idle (status_of d.config.cores cores j) ≡ true → (j < d.config.cores) × ((cores j).status ≡ Core_is.Idle)
idle-core d cores j h = go (nat_lt j d.config.cores) refl h
  where
    idle : (s : CoreStatus) → is_idle (Some s) ≡ true → s ≡ Core_is.Idle
    idle Core_is.Idle e = refl
    idle Core_is.Run e = absurd (false≢true e)
    idle (Core_is.Done v) e = absurd (false≢true e)
    idle (Core_is.Trapped t) e = absurd (false≢true e)

    go : (b : Bool) → nat_lt j d.config.cores ≡ b → is_idle (cond b (Some (cores j).status) None) ≡ true → (j < d.config.cores) × ((cores j).status ≡ Core_is.Idle)
    go true e k = (ltb-true j d.config.cores e, idle (cores j).status k)
    go false e k = absurd (false≢true k)

some-core : (d : Design) (cores : ℕ → Core) (j : ℕ) → is_some (status_of d.config.cores cores j) ≡ true → j < d.config.cores
some-core d cores j h = go (nat_lt j d.config.cores) refl h
  where
    go : (b : Bool) → nat_lt j d.config.cores ≡ b → is_some (cond b (Some (cores j).status) None) ≡ true → j < d.config.cores
    go true e k = ltb-true j d.config.cores e
    go false e k = absurd (false≢true k)

change-fits : (d : Design) (w : World) (r : Regs) → ChangeFits d w (change_of_call (status_of d.config.cores w.flat.cores) r)
change-fits d w r =
    cond_both (launches see r) _ _ (ChangeFits d w)
    (λ l. idle-core d w.flat.cores (value_of r 10) (and_parts _ _ l).1)
    (λ _. cond_both (collects see r) _ _ (ChangeFits d w)
    (λ c. some-core d w.flat.cores (value_of r 10) (and_parts _ _ c).1) (λ _. tt))
  where
    see : ℕ → Option CoreStatus
    see = status_of d.config.cores w.flat.cores

-- ---- seats

no-told : (x : Option Opening) → told [] x ≡ x
no-told None = refl
no-told (Some o) = ap (λ ls. Some (record o { foreign = ls })) (append-nil o.foreign)

-- the seat of a core that is not launched
seat-still : (d : Design) (w : World) (h k : ℕ) (flat : State) → changed d w (Step h) ≡ [] → is_launched w flat k ≡ false
    → seat_after d w flat (Step h) k ≡ w.seats k
seat-still d w h k flat none off =
    ap (λ b. record (w.seats k) { backs = cond b 0 (w.seats k).backs; opening = told (changed d w (Step h)) (w.seats k).opening }) off
    ∙ ap (λ x. record (w.seats k) { opening = x }) (ap (λ ls. told ls (w.seats k).opening) none ∙ no-told (w.seats k).opening)

-- ---- a step whose hart makes a call with this change

-- the flat state has this change of its cores, and nothing is stored
pub record CallStep (d : Design) (w : World) (h : ℕ) (change : CoreChange) : Type 0 where
  pub cores : (took d w (Step h)).flat.cores ≡ cores_after change w.flat.cores
  pub lines : changed d w (Step h) ≡ []
  pub sound : KeepsBounds d w
  pub fits : ChangeFits d w change

-- the cores but one
record Beside (d : Design) (w : World) (h j : ℕ) : Type 0 where
  pub cores : (k : ℕ) → k ≢ j → (took d w (Step h)).flat.cores k ≡ w.flat.cores k
  pub seats : (k : ℕ) → k ≢ j → (took d w (Step h)).seats k ≡ w.seats k

not-launched-same : (d : Design) (w : World) (h k : ℕ) → (took d w (Step h)).flat.cores k ≡ w.flat.cores k → is_launched w (took d w (Step h)).flat k ≡ false
not-launched-same d w h k same =
    ap (λ (c : Core). is_idle (Some (w.flat.cores k).status) && core_runs c.status) same ∙ not-launched (w.flat.cores k).status

beside : (d : Design) (w : World) (h j : ℕ) (x : Core) → changed d w (Step h) ≡ [] → (took d w (Step h)).flat.cores ≡ updated w.flat.cores j x → Beside d w h j
beside d w h j x none cores = record {
  cores = same;
  seats = λ k ne. seat-still d w h k (took d w (Step h)).flat none (not-launched-same d w h k (same k ne));
}
  where
    same : (k : ℕ) → k ≢ j → (took d w (Step h)).flat.cores k ≡ w.flat.cores k
    same k ne = ap (λ f. f k) cores ∙ cond-false (eqb k j) _ _ (ne_eqb k j ne)

-- nothing changes
stays-cores : (d : Design) (w : World) (h : ℕ) (stands : List CoreStatus) (held : List Stage) → CallStep d w h Stays
    → ShowsCores d stands held w → ShowsCores d stands held (took d w (Step h))
stays-cores d w h stands held step shows = record {
  statuses = λ k. shows.statuses k ∙ sym (ap (λ (f : ℕ → Core). status_of d.config.cores f k) step.cores);
  many = shows.many;
  portions = λ j p at.
      subst (λ (c : Core). HoldsAt d j c.regs ((took d w (Step h)).seats j) p) (sym (ap (λ f. f j) step.cores))
      (subst (λ (s : Seat). HoldsAt d j (w.flat.cores j).regs s p) (sym (seats j)) (shows.portions j p at));
}
  where
    seats : (k : ℕ) → (took d w (Step h)).seats k ≡ w.seats k
    seats k = seat-still d w h k (took d w (Step h)).flat step.lines (not-launched-same d w h k (ap (λ f. f k) step.cores))

stays-lock : (d : Design) (w : World) (h : ℕ) (lock : Counts) → ((k : ℕ) → (took d w (Step h)).seats k ≡ w.seats k)
    → ShowsLock d lock w → ShowsLock d lock (took d w (Step h))
stays-lock d w h lock same shows = record {
  retries = shows.retries;
  many = shows.many;
  backs = λ k u. shows.backs k u ∙ ap (λ (s : Seat). Some s.backs) (sym (same k));
  locked = λ k. shows.locked k ∙ ap (λ (s : Seat). is_locked s.opening) (sym (same k));
  within = shows.within;
}

-- a core comes to rest
rest-seats : (d : Design) (w : World) (h j : ℕ) → CallStep d w h (Rests j) → (k : ℕ) → (took d w (Step h)).seats k ≡ w.seats k
rest-seats d w h j step k = seat-still d w h k (took d w (Step h)).flat step.lines (go (cases_eq k j))
  where
    never : (b : Bool) → (b && false) ≡ false
    never true = refl
    never false = refl

    go : ((k ≡ j) ⊎ (k ≡ j → ⊥)) → is_launched w (took d w (Step h)).flat k ≡ false
    go (inr ne) = not-launched-same d w h k ((beside d w h j _ step.lines step.cores).cores k ne)
    go (inl same) =
        ap (λ (c : Core). is_idle (Some (w.flat.cores k).status) && core_runs c.status) (ap (λ f. f k) step.cores ∙ cond-true (eqb k j) _ _ (eq-eqb k j same))
        ∙ never (is_idle (Some (w.flat.cores k).status))

rests-cores : (d : Design) (w : World) (h j : ℕ) (stands : List CoreStatus) (held : List Stage) → CallStep d w h (Rests j) → length stands ≡ d.config.cores
    → ShowsCores d stands held w → ShowsCores d (set stands j Core_is.Idle) held (took d w (Step h))
rests-cores d w h j stands held step many shows = record {
  statuses = λ k. stat k (cases_eq k j);
  many = shows.many;
  portions = λ k p at.
      subst (λ r. HoldsAt d k r ((took d w (Step h)).seats k) p) (sym (regs k (cases_eq k j)))
      (subst (λ (s : Seat). HoldsAt d k (w.flat.cores k).regs s p) (sym (rest-seats d w h j step k)) (shows.portions k p at));
}
  where
    inside : j < length stands
    inside = subst (λ m. j < m) (sym many) step.fits

    others : Beside d w h j
    others = beside d w h j (record { regs = (w.flat.cores j).regs; status = Core_is.Idle }) step.lines step.cores

    here : (took d w (Step h)).flat.cores j ≡ record { regs = (w.flat.cores j).regs; status = Core_is.Idle }
    here = ap (λ f. f j) step.cores ∙ cond-true (eqb j j) _ _ (eq-eqb j j refl)

    regs : (k : ℕ) → ((k ≡ j) ⊎ (k ≡ j → ⊥)) → ((took d w (Step h)).flat.cores k).regs ≡ (w.flat.cores k).regs
    regs k (inl same) = subst (λ i. ((took d w (Step h)).flat.cores i).regs ≡ (w.flat.cores i).regs) (sym same) (ap (λ (c : Core). c.regs) here)
    regs k (inr ne) = ap (λ (c : Core). c.regs) (others.cores k ne)

    stat : (k : ℕ) → ((k ≡ j) ⊎ (k ≡ j → ⊥)) → slice_get (set stands j Core_is.Idle) k ≡ status_of d.config.cores (took d w (Step h)).flat.cores k
    stat k (inl same) = subst (λ i. slice_get (set stands j Core_is.Idle) i ≡ status_of d.config.cores (took d w (Step h)).flat.cores i) (sym same)
        (slice_get-set_same stands j Core_is.Idle ∙ cond-true (ltb j (length stands)) _ _ (lt-ltb j (length stands) inside)
        ∙ sym (cond-true (ltb j d.config.cores) _ _ (lt-ltb j d.config.cores step.fits) ∙ ap (λ (x : Core). Some x.status) here))
    stat k (inr ne) = slice_get-set_other stands j k Core_is.Idle ne ∙ shows.statuses k
        ∙ sym (ap (λ (x : Core). cond (ltb k d.config.cores) (Some x.status) None) (others.cores k ne))

-- a core is launched
record Launched (d : Design) (w : World) (h j entry arg : ℕ) : Type 0 where
  pub here : (took d w (Step h)).flat.cores j ≡ launched_core entry arg
  pub seat : (took d w (Step h)).seats j ≡ record (w.seats j) { backs = 0 }
  pub others : Beside d w h j

launched : (d : Design) (w : World) (h j entry arg : ℕ) → CallStep d w h (Starts j entry arg) → Launched d w h j entry arg
launched d w h j entry arg step = record {
  here = here;
  seat = ap (λ b. record (w.seats j) { backs = cond b 0 (w.seats j).backs; opening = told (changed d w (Step h)) (w.seats j).opening }) on
      ∙ ap (λ x. record (w.seats j) { backs = 0; opening = x }) (ap (λ ls. told ls (w.seats j).opening) step.lines ∙ no-told (w.seats j).opening);
  others = beside d w h j (launched_core entry arg) step.lines step.cores;
}
  where
    here : (took d w (Step h)).flat.cores j ≡ launched_core entry arg
    here = ap (λ f. f j) step.cores ∙ cond-true (eqb j j) _ _ (eq-eqb j j refl)

    on : is_launched w (took d w (Step h)).flat j ≡ true
    on = ap (λ (c : Core). is_idle (Some (w.flat.cores j).status) && core_runs c.status) here
        ∙ ap (λ s. is_idle (Some s) && true) step.fits.1

-- a core that is idle holds a portion at rest
idle-holds : (d : Design) (w : World) (j : ℕ) (regs : Regs) (p : Stage) → KeepsBounds d w → (w.flat.cores j).status ≡ Core_is.Idle
    → HoldsAt d j (w.flat.cores j).regs (w.seats j) p → HoldsAt d j regs (record (w.seats j) { backs = 0 }) (started regs p)
idle-holds d w j regs (Stage_is.Ready s) so idle h =
    record { closed = h.closed; settled = refl; core = h.core; limits = h.limits; regs = refl }
idle-holds d w j regs (Stage_is.Open s) so idle h = absurd (go (w.seats j).opening h (so.fresh.opens j))
  where
    go : (x : Option Opening) → HoldsOpen d j (w.flat.cores j).regs x s → FitsAt d w j x → ⊥
    go None holds fits = holds
    go (Some o) holds fits = let both : Core_is.Idle ≡ Core_is.Run = sym idle ∙ fits.runs in cc
idle-holds d w j regs (Stage_is.Flushing s) so idle h = let both : Core_is.Idle ≡ Core_is.Run = sym idle ∙ so.run j h.taken in absurd cc
idle-holds d w j regs Stage_is.Moved so idle h = h

starts-cores : (d : Design) (w : World) (h j entry arg : ℕ) (stands : List CoreStatus) (held : List Stage) → CallStep d w h (Starts j entry arg)
    → length stands ≡ d.config.cores → ShowsCores d stands held w
    → ShowsCores d (set stands j Core_is.Run) (with_started held j (launched_core entry arg).regs) (took d w (Step h))
starts-cores d w h j entry arg stands held step many shows = record {
  statuses = λ k. stat k (cases_eq k j);
  many = length-set held j (started (launched_core entry arg).regs p) ∙ shows.many;
  portions = λ k q at. go k q at (cases_eq k j);
}
  where
    l : Launched d w h j entry arg
    l = launched d w h j entry arg step

    inside : j < length stands
    inside = subst (λ m. j < m) (sym many) step.fits.0

    there : j < length held
    there = subst (λ m. j < m) (sym shows.many) step.fits.0

    p : Stage
    p = slice_index_or held j Stage_is.Moved

    stat : (k : ℕ) → ((k ≡ j) ⊎ (k ≡ j → ⊥)) → slice_get (set stands j Core_is.Run) k ≡ status_of d.config.cores (took d w (Step h)).flat.cores k
    stat k (inl same) = subst (λ i. slice_get (set stands j Core_is.Run) i ≡ status_of d.config.cores (took d w (Step h)).flat.cores i) (sym same)
        (slice_get-set_same stands j Core_is.Run ∙ cond-true (ltb j (length stands)) _ _ (lt-ltb j (length stands) inside)
        ∙ sym (cond-true (ltb j d.config.cores) _ _ (lt-ltb j d.config.cores step.fits.0) ∙ ap (λ (x : Core). Some x.status) l.here))
    stat k (inr ne) = slice_get-set_other stands j k Core_is.Run ne ∙ shows.statuses k
        ∙ sym (ap (λ (x : Core). cond (ltb k d.config.cores) (Some x.status) None) (l.others.cores k ne))

    here : HoldsAt d j ((took d w (Step h)).flat.cores j).regs ((took d w (Step h)).seats j) (started (launched_core entry arg).regs p)
    here = subst (λ (x : Core). HoldsAt d j x.regs ((took d w (Step h)).seats j) (started (launched_core entry arg).regs p)) (sym l.here)
        (subst (λ (x : Seat). HoldsAt d j (launched_core entry arg).regs x (started (launched_core entry arg).regs p)) (sym l.seat)
        (idle-holds d w j (launched_core entry arg).regs p step.sound step.fits.1 (shows.portions j p (get-inside held j Stage_is.Moved there))))

    go : (k : ℕ) (q : Stage) → slice_get (set held j (started (launched_core entry arg).regs p)) k ≡ Some q → ((k ≡ j) ⊎ (k ≡ j → ⊥))
        → HoldsAt d k ((took d w (Step h)).flat.cores k).regs ((took d w (Step h)).seats k) q
    go k q at (inl same) =
        subst (λ i. HoldsAt d i ((took d w (Step h)).flat.cores i).regs ((took d w (Step h)).seats i) q) (sym same)
        (subst (λ (x : Stage). HoldsAt d j ((took d w (Step h)).flat.cores j).regs ((took d w (Step h)).seats j) x)
        (same_Some _ _ (sym (slice_get-set_same held j (started (launched_core entry arg).regs p) ∙ cond-true (ltb j (length held)) _ _ (lt-ltb j (length held) there))
        ∙ subst (λ i. slice_get (set held j (started (launched_core entry arg).regs p)) i ≡ Some q) same at)) here)
    go k q at (inr ne) =
        subst (λ (c : Core). HoldsAt d k c.regs ((took d w (Step h)).seats k) q) (sym (l.others.cores k ne))
        (subst (λ (s : Seat). HoldsAt d k (w.flat.cores k).regs s q) (sym (l.others.seats k ne))
        (shows.portions k q (sym (slice_get-set_other held j k (started (launched_core entry arg).regs p) ne) ∙ at)))

starts-lock : (d : Design) (w : World) (h j entry arg : ℕ) (lock : Counts) → CallStep d w h (Starts j entry arg)
    → ShowsLock d lock w → ShowsLock d (with_backs lock j 0) (took d w (Step h))
starts-lock d w h j entry arg lock step shows = record {
  retries = shows.retries;
  many = length-set lock.backs j 0 ∙ shows.many;
  backs = λ k u. go k u (cases_eq k j);
  locked = λ k. at k (cases_eq k j);
  within = shows.within;
}
  where
    l : Launched d w h j entry arg
    l = launched d w h j entry arg step

    inside : j < length lock.backs
    inside = subst (λ m. j < m) (sym shows.many) step.fits.0

    go : (k : ℕ) → k < d.config.cores → ((k ≡ j) ⊎ (k ≡ j → ⊥)) → slice_get (set lock.backs j 0) k ≡ Some ((took d w (Step h)).seats k).backs
    go k u (inl same) = subst (λ i. slice_get (set lock.backs j 0) i ≡ Some ((took d w (Step h)).seats i).backs) (sym same)
        (slice_get-set_same lock.backs j 0 ∙ cond-true (ltb j (length lock.backs)) _ _ (lt-ltb j (length lock.backs) inside)
        ∙ ap (λ (x : Seat). Some x.backs) (sym l.seat))
    go k u (inr ne) = slice_get-set_other lock.backs j k 0 ne ∙ shows.backs k u ∙ ap (λ (x : Seat). Some x.backs) (sym (l.others.seats k ne))

    at : (k : ℕ) → ((k ≡ j) ⊎ (k ≡ j → ⊥)) → is_locked_core lock.locked k ≡ is_locked ((took d w (Step h)).seats k).opening
    at k (inl same) = subst (λ i. is_locked_core lock.locked i ≡ is_locked ((took d w (Step h)).seats i).opening) (sym same)
        (shows.locked j ∙ ap (λ (x : Seat). is_locked x.opening) (sym l.seat))
    at k (inr ne) = shows.locked k ∙ ap (λ (x : Seat). is_locked x.opening) (sym (l.others.seats k ne))

-- a list that has a member at each place below n alone has n members
pub same-length : {A : Type 0} (xs : List A) (n : ℕ) → ((k : ℕ) → is_some (slice_get xs k) ≡ nat_lt k n) → length xs ≡ n
same-length [] zero h = refl
same-length [] (suc n) h = absurd (false≢true (h 0 ∙ lt-ltb 0 (suc n) (omega arith)))
same-length (x ∷ xs) zero h = absurd (true≢false (h 0 ∙ below-none 0))
  where
    below-none : (k : ℕ) → nat_lt k 0 ≡ false
    below-none k = grind (arith, nat_tests)
same-length (x ∷ xs) (suc n) h = ap suc (same-length xs n (λ k. h (suc k) ∙ shifted k n))
  where
    shifted : (k n : ℕ) → nat_lt (suc k) (suc n) ≡ nat_lt k n
    shifted k n = grind (arith, nat_tests)

-- ---- put together

pub call-cores : (d : Design) (w : World) (h : ℕ) (change : CoreChange) (stands : List CoreStatus) (held : List Stage) → CallStep d w h change
    → length stands ≡ d.config.cores → ShowsCores d stands held w
    → ShowsCores d (changed_statuses change stands) (changed_portions change held) (took d w (Step h))
call-cores d w h Stays stands held step many shows = stays-cores d w h stands held step shows
call-cores d w h (Starts j entry arg) stands held step many shows = starts-cores d w h j entry arg stands held step many shows
call-cores d w h (Rests j) stands held step many shows = rests-cores d w h j stands held step many shows

pub call-lock : (d : Design) (w : World) (h : ℕ) (change : CoreChange) (lock : Counts) → CallStep d w h change
    → ShowsLock d lock w → ShowsLock d (changed_lock change lock) (took d w (Step h))
call-lock d w h Stays lock step shows =
    stays-lock d w h lock (λ k. seat-still d w h k (took d w (Step h)).flat step.lines (not-launched-same d w h k (ap (λ f. f k) step.cores))) shows
call-lock d w h (Starts j entry arg) lock step shows = starts-lock d w h j entry arg lock step shows
call-lock d w h (Rests j) lock step shows = stays-lock d w h lock (rest-seats d w h j step) shows

pub call-steps : (d : Design) (w : World) (h : ℕ) (code : CodeView) (was hart : Hart) (b : BackingView) (log : Trace) (cores now : Cores) (p : Planned) (puts : List ℕ)
    → KeepsBounds d w → IsCoherent b → ShowsParts d code b log cores w → was ≡ w.flat.harts h → hart_runs (w.flat.harts h).status ≡ true
    → plan_of d.image.code (w.flat.harts h).regs ≡ Ok p → is_call_access p.access ≡ true → waits (slice_get cores.statuses.items) was.regs ≡ false
    → length cores.statuses.items ≡ d.config.cores → MakesCall was cores now hart puts
    → HartSteps d w h code hart b log now puts
unfolding notes_of
call-steps d w h code was hart b log cores now p puts so is s at runs plan call goes_on many calls =
    record {
      hart_is = calls.hart_is ∙ ap (λ (e : HartEffect). e.hart) effect-is ∙ sym (cond-true (eqb h h) _ _ (eq-eqb h h refl)) ∙ ap (λ (f : State). f.harts h) (sym flat);
      parts = record {
        code_is = s.code_is;
        memory = memory-stays d w (Step h) b log is.backing s.memory (record {
          tags = ap (after_use (hart_shape d) w.tags h) none;
          flat = ap (λ (f : State). f.memory) flat;
          notes = ap (use_notes (hart_shape d) w.tags h) none;
        });
        cores = subst (λ x. ShowsCores d x now.portions.items (took d w (Step h))) (sym (calls.statuses ∙ ap (λ (e : HartEffect). changed_statuses e.change cores.statuses.items) effect-is))
            (subst (λ x. ShowsCores d (changed_statuses change cores.statuses.items) x (took d w (Step h))) (sym (calls.portions ∙ ap (λ (e : HartEffect). changed_portions e.change cores.portions.items) effect-is))
            (call-cores d w h change cores.statuses.items cores.portions.items step many s.cores));
        lock = subst (λ x. ShowsLock d x (took d w (Step h))) (sym (calls.lock ∙ ap (λ (e : HartEffect). changed_lock e.change cores.lock) effect-is))
            (call-lock d w h change cores.lock step s.lock);
      };
      output = ap (λ (f : State). f.output) flat ∙ ap (λ xs. w.flat.output ++ xs) (sym (calls.puts_are ∙ ap (λ (e : HartEffect). e.puts) effect-is));
    }
  where
    see : ℕ → Option CoreStatus
    see = status_of d.config.cores w.flat.cores

    change : CoreChange
    change = change_of_call (status_of d.config.cores w.flat.cores) (w.flat.harts h).regs

    see-is : slice_get cores.statuses.items ≡ status_of d.config.cores w.flat.cores
    see-is = fun_ext s.cores.statuses

    effect-is : call_effect (slice_get cores.statuses.items) was.regs ≡ call_effect (status_of d.config.cores w.flat.cores) (w.flat.harts h).regs
    effect-is = ap (λ f. call_effect f was.regs) see-is ∙ ap (λ (x : Hart). call_effect (status_of d.config.cores w.flat.cores) x.regs) at

    free : waits (status_of d.config.cores w.flat.cores) (w.flat.harts h).regs ≡ false
    free = ap (λ (x : Hart). waits (status_of d.config.cores w.flat.cores) x.regs) (sym at) ∙ ap (λ f. waits f was.regs) (sym see-is) ∙ goes_on

    flat : hart_step (setup_of d) w.flat h ≡ hart_does (setup_of d) w.flat h (call_effect (status_of d.config.cores w.flat.cores) (w.flat.harts h).regs)
    flat = flat-call d w.flat h p runs plan call free

    none : hart_use d w h ≡ None
    none = call-use d w h p plan call

    step : CallStep d w h (change_of_call (status_of d.config.cores w.flat.cores) (w.flat.harts h).regs)
    step = record {
      cores = ap (λ (f : State). f.cores) flat;
      lines = ap (λ x. line_list (stored_line x)) none;
      sound = so;
      fits = change-fits d w (w.flat.harts h).regs;
    }

-- ---- what every core keeps

-- a core that starts is one of these
abbrev StartsIn : List CoreStatus → CoreChange → Type 0
StartsIn stands Stays = Unit {0}
StartsIn stands (Starts j entry arg) = j < length stands
StartsIn stands (Rests j) = Unit {0}

some-in : (xs : List CoreStatus) (i : ℕ) → is_idle (slice_get xs i) ≡ true → i < length xs
some-in [] i h = absurd (false≢true h)
some-in (x ∷ xs) zero h = omega arith
some-in (x ∷ xs) (suc i) h = let u : i < length xs = some-in xs i h in omega (arith, u)

starts-in : (stands : List CoreStatus) (r : Regs) → StartsIn stands (change_of_call (slice_get stands) r)
starts-in stands r =
    cond_both (launches (slice_get stands) r) (Starts (value_of r 10) (value_of r 11) (value_of r 12)) (cond (collects (slice_get stands) r) (Rests (value_of r 10)) Stays) (StartsIn stands)
    (λ l. some-in stands (value_of r 10) (and_parts _ _ l).1)
    (λ _. cond_both (collects (slice_get stands) r) (Rests (value_of r 10)) Stays (StartsIn stands) (λ _. tt) (λ _. tt))

change-keeps : (c : Settings) (code : CodeView) (stands : List CoreStatus) (held : List Stage) (lock : Counts) (x : CoreChange) → length held ≡ length stands
    → FitCores c code stands held lock → StartsIn stands x → FitCores c code (changed_statuses x stands) (changed_portions x held) (changed_lock x lock)
change-keeps c code stands held lock Stays same fits u = fits
change-keeps c code stands held lock (Starts j entry arg) same fits u =
    launch-fits c code stands (set stands j Core_is.Run) held lock j (launched_core entry arg).regs
    (subst (λ n. j < n) (sym same) u) (length-set stands j Core_is.Run) fits
change-keeps c code stands held lock (Rests j) same fits u = status-fits c code stands (set stands j Core_is.Idle) held lock (length-set stands j Core_is.Idle) fits

pub call-fits : (code : CodeView) (was hart : Hart) (cores now : Cores) (puts : List ℕ) → length cores.portions.items ≡ length cores.statuses.items
    → MakesCall was cores now hart puts → KeepFits code cores now
call-fits code was hart cores now puts same calls c none fits =
    subst (λ x. FitCores c code x now.portions.items now.lock) (sym calls.statuses)
    (subst (λ x. FitCores c code (changed_statuses change cores.statuses.items) x now.lock) (sym calls.portions)
    (subst (λ x. FitCores c code (changed_statuses change cores.statuses.items) (changed_portions change cores.portions.items) x) (sym calls.lock)
    (change-keeps c code cores.statuses.items cores.portions.items cores.lock (change_of_call (slice_get cores.statuses.items) was.regs) same fits (starts-in cores.statuses.items was.regs))))
  where
    change : CoreChange
    change = change_of_call (slice_get cores.statuses.items) was.regs

-- as many statuses as cores
pub many-statuses : (d : Design) (w : World) (cores : Cores) {code : CodeView} {b : BackingView} {log : Trace} → ShowsParts d code b log cores w → length cores.statuses.items ≡ d.config.cores
many-statuses d w cores s = same-length cores.statuses.items d.config.cores
    (λ k. inside k)
  where
    inside : (k : ℕ) → is_some (slice_get cores.statuses.items k) ≡ nat_lt k d.config.cores
    inside k = ap is_some (s.cores.statuses k) ∙ there (nat_lt k d.config.cores) k
      where
        there : (b : Bool) (k : ℕ) → is_some (cond b (Some (w.flat.cores k).status) None) ≡ b
        there true k = refl
        there false k = refl
