-- One event of a core with an open try: an act of it, or its rollback.
use Rattle.std.proofs.Common.{◌≡◌, ◌<◌, ◌+◌, ltb, length, set, ◌⊎◌, inl, inr, ℕ, suc, true, false, eqb, refl, sym, ap, ◌∙◌, subst, arith, Option, Some, None, eq-eqb}
use Rattle.std.proofs.lemmas.Bool.{false≢true, cond-true, cond-false, ne_eqb, cases_eq, eqb-true, cases_Bool, lt-ltb}
use Rattle.std.specs.Prelude.{slice_get}
use Rattle.conda_base.specs.declared.Line.{Line}
use Rattle.schedule_log.specs.declared.entry.Entry.TheVariants.{Spec, Back}
use Rattle.rv32_hart.specs.Code.{CodeView}
use Rattle.line_memory.specs.Backing.{BackingView, copy_of}
use Rattle.line_memory.specs.Notes.{all_noted}
use Rattle.traffic_trace.specs.Notes.{Trace}
use Rattle.bloom_sig.specs.Signatures.{Sets, Meet}
use Rattle.coherent_mem.specs.Steps.{IsCoherent}
use Rattle.fallback_lock.specs.Locks.{Counts, backs_of, with_backs}
use Rattle.try_runs.specs.Limits.{limits_of}
use Rattle.try_runs.specs.declared.limits.Limits.{Limits}
use Rattle.try_runs.specs.Tries.{Try, next_outside}
use Rattle.try_runs.specs.Ends.{end_of}
use Rattle.portion_ctl.specs.Views.{OpenView, EndedView, FlushingView}
use Rattle.portion_ctl.specs.Stands.{StandsFor}
use Rattle.portion_ctl.specs.States.{Acts}
use Rattle.portion_ctl.specs.declared.portion.Acted.TheVariants as Acted_is
use Rattle.conflict_resolve.specs.Backs.{Backs}
use Rattle.chip_core.specs.Entries.{ShowsWorld, StandsInSeat, IsBackOf, BacksAreEntries}
use Rattle.chip_laws.specs.Design.{Design}
use Rattle.chip_laws.specs.Notes.{notes_of, filled_line, filled_of}
use Rattle.std.proofs.lemmas.List.{length-set}
use Rattle.chip_laws.specs.Rules.{World, Seat, Opening, try_of, opening_end, is_conflict, is_locked}
use Rattle.chip_laws.specs.Worlds.{one_more, seat_back, took}
use Rattle.chip_core.specs.declared.stage.Stage.{Stage}
use Rattle.chip_core.specs.declared.cores.Cores.{Cores}
use Rattle.chip_core.specs.Seats.{Turned}
use Rattle.chip_core.specs.Fits.{is_locked_core}
use Rattle.chip_core.specs.Seats.{around, is_spent, lock_backed, MakesAct, RollsBack, HasEnded}
use Rattle.chip_core.specs.Shows.{HoldsAt, HoldsOpen, IsImageOf, HoldsOpening, ShowsMemory, ShowsCores, ShowsLock}
use Rattle.chip_core.specs.Turns.{CoreTurns}
use Rattle.bloom_sig.proofs.HitLemmas.{meeting-none}
use Rattle.chip_core.proofs.ListFacts.{slice_get-set_same, slice_get-set_other}
use Rattle.chip_core.proofs.ReachedFacts.{reached-sound}
use Rattle.chip_core.proofs.RangeFacts.{LiesAt, filled-in-range, same-fills}
use Rattle.chip_core.proofs.SeatFacts.{next-core, entry-spec, entry-back, OwnSeat, own-cores, own-lock, core-turn}
use Rattle.chip_core.proofs.TurnFacts.{MayTurn, LeavesCores, memory-same, no-puts, counted, spent-is}
use Rattle.try_runs.specs.Fills.{Fills, corefill_notes, fills_with, new_line}
use Rattle.chip_laws.specs.Sound.{KeepsBounds, SoundAt}
use Rattle.bloom_sig.specs.Images.{is_meeting}
use Rattle.portion_ctl.specs.States.{act_notes, portion_fill}
use Rattle.bloom_sig.proofs.ImageLemmas.{meetings_are_of_lines}
use Rattle.chip_laws.specs.Rules.{portion_of}
use Rattle.try_runs.specs.Fills.{portion_run}

-- the open try of core j, which its portion stands for
pub record HasTry (d : Design) (w : World) (j : ℕ) (o : Opening) (tried : OpenView) : Type 0 where
  pub seat : (w.seats j).opening ≡ Some o
  pub is : HoldsOpening d j (w.flat.cores j).regs o tried

pub the-try : (d : Design) (w : World) (j : ℕ) (tried : OpenView) → HoldsOpen d j (w.flat.cores j).regs (w.seats j).opening tried
    → (o : Opening) × HasTry d w j o tried
the-try d w j tried holds = go (w.seats j).opening refl holds
  where
    go : (x : Option Opening) → (w.seats j).opening ≡ x → HoldsOpen d j (w.flat.cores j).regs x tried → (o : Opening) × HasTry d w j o tried
    go None e h = absurd h
    go (Some o) e h = (o, record { seat = e; is = h })

-- memory lies where the code does
pub memory-lies : (d : Design) (w : World) (b : BackingView) (log : Trace) → KeepsBounds d w → IsCoherent b → ShowsMemory d b log w → LiesAt d.image.code b
memory-lies d w b log so is m = record {
  is_code = so.fresh.setup.code;
  backing = is.backing;
  base = m.numbers.base;
  bytes = ap length m.view ∙ so.fresh.long;
}

-- the try's limits are the configuration's
pub try-is : (d : Design) (o : Opening) (limits : Limits) → limits ≡ limits_of d.config → portion_run d.image.code limits.line_bytes (portion_of o) ≡ try_of d o
try-is d o limits same = ap (λ (x : Limits). portion_run d.image.code x.line_bytes (portion_of o)) same

end-is : (d : Design) (o : Opening) (limits : Limits) → limits ≡ limits_of d.config
    → end_of d.image.code limits o.acts (portion_run d.image.code limits.line_bytes (portion_of o)) ≡ opening_end d o
end-is d o limits same = ap (λ (x : Limits). end_of d.image.code x o.acts (portion_run d.image.code x.line_bytes (portion_of o))) same

-- ---- an act

act-seat : (d : Design) (w : World) (j : ℕ) → OwnSeat d w (Spec j) j (record (w.seats j) { opening = one_more d w (w.seats j).opening })
act-seat d w j = record {
  flat = refl;
  own = cond-true (eqb j j) _ _ (eq-eqb j j refl);
  others = λ k ne. cond-false (eqb k j) _ _ (ne_eqb k j ne);
}

pub act-turn : (d : Design) (w : World) (j : ℕ) (code : CodeView) (b new : BackingView) (log later : Trace) (cores left : Cores) (old : OpenView) (held : Stage) (event : Turned)
    → MayTurn d w j code b log cores → HoldsOpen d j (w.flat.cores j).regs (w.seats j).opening old
    → MakesAct code j old (around b cores.lock log) (around new left.lock later) held event → LeavesCores j held cores left
    → CoreTurns d w j code new later left event
unfolding notes_of
act-turn d w j code b new log later cores left old held event may holds act leaves = go (the-try d w j old holds)
  where
    m : ShowsMemory d b log w
    m = may.shows.memory

    so : KeepsBounds d w
    so = reached-sound d w may.reached

    go : (o : Opening) × HasTry d w j o old → CoreTurns d w j code new later left event
    go (o, has) =
        core-turn d w j code new later left event (Spec j)
        (next-core d w j may.runs may.free ∙ entry-spec d w j o has.seat (sym (end-is d o old.limits is.limits) ∙ acts.0))
        act.entry (λ h. refl)
        (record {
          code_is = may.shows.code_is;
          memory = memory-same d w (Spec j) b new log later may.coherent m act.memory refl refl noted_is;
          cores = subst (λ xs. ShowsCores d xs left.portions.items (took d w (Spec j))) (sym leaves.statuses)
              (own-cores d w (Spec j) j (record (w.seats j) { opening = one_more d w (w.seats j).opening }) cores.statuses.items cores.portions.items left.portions.items held
              (act-seat d w j) leaves.portions now may.shows.cores);
          lock = subst (λ x. ShowsLock d x (took d w (Spec j))) (sym act.lock)
              (own-lock d w (Spec j) j (record (w.seats j) { opening = one_more d w (w.seats j).opening }) cores.lock (act-seat d w j) refl
              (ap (λ x. is_locked (one_more d w x)) has.seat ∙ sym (ap is_locked has.seat)) may.shows.lock);
        })
        (no-puts d w (Spec j) event.puts refl act.puts)
      where
        is : HoldsOpening d j (w.flat.cores j).regs o old
        is = has.is

        code_is : code ≡ d.image.code
        code_is = may.shows.code_is

        given : StandsFor code old (portion_of o)
        given = subst (λ (c : CodeView). StandsFor c old (portion_of o)) (sym code_is) is.stands

        acts : Acts d.image.code b (portion_of o) old (Acted_is.Ran act.tried)
        acts = subst (λ (c : CodeView). Acts c b (portion_of o) old (Acted_is.Ran act.tried)) code_is (act.acts (portion_of o) given)

        fill-is : portion_fill d.image.code old.limits.line_bytes (portion_of o) ≡ filled_line d o
        fill-is = ap (λ (x : Limits). portion_fill d.image.code x.line_bytes (portion_of o)) is.limits

        noted_is : later ≡ all_noted log (notes_of d w (Spec j))
        noted_is =
            subst (λ (c : CodeView). later ≡ all_noted log (act_notes c (portion_of o) old (Acted_is.Ran act.tried))) code_is (act.notes (portion_of o) given)
            ∙ ap (all_noted log) (ap (λ x. corefill_notes old.core x) fill-is ∙ ap (λ k. corefill_notes k (filled_line d o)) is.core
            ∙ ap (λ x. corefill_notes j (filled_of d x)) (sym has.seat))

        in_range : (l : Line) → filled_line d o ≡ Some l → copy_of b l ≡ w.copies l
        in_range l at = m.copies l (filled-in-range d.image.code b (try_of d o) l (memory-lies d w b log so may.coherent m)
            (ap (λ n. new_line (try_of d o).reads (next_outside d.image.code n (try_of d o))) m.numbers.line_bytes ∙ at))

        stands : StandsFor d.image.code act.tried (record { regs = o.regs; fills = fills_with o.fills w.copies (filled_line d o); acts = suc o.acts })
        stands = subst (λ (f : Fills). StandsFor d.image.code act.tried (record { regs = o.regs; fills = f; acts = suc o.acts }))
            (ap (fills_with o.fills (copy_of b)) fill-is ∙ same-fills o.fills (copy_of b) w.copies (filled_line d o) in_range) acts.1

        now : HoldsAt d j (w.flat.cores j).regs (record (w.seats j) { opening = one_more d w (w.seats j).opening }) held
        now = subst (λ (x : Stage). HoldsAt d j (w.flat.cores j).regs (record (w.seats j) { opening = one_more d w (w.seats j).opening }) x) (sym act.holds)
            (subst (λ x. HoldsOpen d j (w.flat.cores j).regs (one_more d w x) act.tried) (sym has.seat)
            (record {
              core = act.same.core ∙ is.core;
              limits = act.same.limits ∙ is.limits;
              opening = is.opening;
              stands = stands;
              foreign = subst (λ (s : Sets). IsImageOf d s o.foreign) (sym act.same.foreign) is.foreign;
              locked = act.same.locked ∙ is.locked;
            }))

-- ---- the end of a try

-- an ended try with its cause
pub record HasEnd (d : Design) (w : World) (j : ℕ) (o : Opening) (c : EndedView) : Type 0 where
  pub seat : (w.seats j).opening ≡ Some o
  pub is : HoldsOpening d j (w.flat.cores j).regs o c.try
  pub end : opening_end d o ≡ Some c.cause

pub the-end : (d : Design) (w : World) (j : ℕ) (code : CodeView) (tried : OpenView) (c : EndedView) → code ≡ d.image.code
    → HoldsOpen d j (w.flat.cores j).regs (w.seats j).opening tried → HasEnded code tried c → (o : Opening) × HasEnd d w j o c
the-end d w j code tried c code_is holds ended = go (the-try d w j tried holds)
  where
    go : (o : Opening) × HasTry d w j o tried → (o : Opening) × HasEnd d w j o c
    go (o, has) =
        let found = ended (portion_of o) (subst (λ (x : CodeView). StandsFor x tried (portion_of o)) (sym code_is) has.is.stands) in (
          o,
          record {
            seat = has.seat;
            is = subst (λ (x : OpenView). HoldsOpening d j (w.flat.cores j).regs o x) (sym found.1) has.is;
            end = sym (end-is d o tried.limits has.is.limits)
                ∙ ap (λ (x : CodeView). end_of x tried.limits o.acts (portion_run x tried.limits.line_bytes (portion_of o))) (sym code_is) ∙ found.0;
          },
        )

pub shows-world : (d : Design) (w : World) (b : BackingView) (log : Trace) → KeepsBounds d w → ShowsMemory d b log w → ShowsWorld d w b
shows-world d w b log so m = record {
  setup = so.fresh.setup;
  lines = m.numbers.line_bytes;
  base = m.numbers.base;
  bytes = ap length m.view ∙ so.fresh.long;
  shape = m.numbers.shape;
  view = m.view;
  copies = m.copies;
  tags = m.tags;
}

pub in-seat : (d : Design) (w : World) (j : ℕ) (o : Opening) (c : EndedView) → HasEnd d w j o c → StandsInSeat d w j o c
in-seat d w j o c e = record { seat = e.seat; core = e.is.core; limits = e.is.limits; stands = e.is.stands }

-- the signatures meet exactly where the lists of lines do
pub conflict-is : (d : Design) (w : World) (j : ℕ) (o : Opening) (c : EndedView) → HasEnd d w j o c
    → (Meet c.try.read_set c.try.foreign_set → is_conflict d o ≡ true) × (is_conflict d o ≡ true → Meet c.try.read_set c.try.foreign_set)
conflict-is d w j o c e =
    let both = meetings_are_of_lines c.try.read_set c.try.foreign_set t.reads o.foreign (bits ∙ sym e.is.foreign.bits) e.is.stands.holds.reads.image e.is.foreign.image in
    ((λ m. sym here ∙ both.0 m), (λ h. both.1 (here ∙ h)))
  where
    t : Try
    t = portion_run d.image.code c.try.limits.line_bytes (portion_of o)

    bits : c.try.read_set.bits ≡ d.config.sig_bits
    bits = e.is.stands.holds.sizes.reads ∙ ap (λ (x : Limits). x.sig_bits) e.is.limits

    here : is_meeting c.try.read_set.bits t.reads o.foreign ≡ is_conflict d o
    here = ap (λ n. is_meeting n t.reads o.foreign) bits ∙ ap (λ (x : Try). is_meeting d.config.sig_bits x.reads o.foreign) (try-is d o c.try.limits e.is.limits)

-- ---- a rollback

back-seat : (d : Design) (w : World) (j n cause : ℕ) → OwnSeat d w (Back j n cause) j (seat_back d w j)
back-seat d w j n cause = record {
  flat = refl;
  own = cond-true (eqb j j) _ _ (eq-eqb j j refl);
  others = λ k ne. cond-false (eqb k j) _ _ (ne_eqb k j ne);
}

-- a try that conflicts runs under no lock
free-conflict : (d : Design) (w : World) (j : ℕ) (o : Opening) → SoundAt d w j (Some o) → is_conflict d o ≡ true → o.locked ≡ false
free-conflict d w j o so meets = go (cases_Bool o.locked)
  where
    go : (o.locked ≡ true) ⊎ (o.locked ≡ false) → o.locked ≡ false
    go (inr e) = e
    go (inl e) = absurd (false≢true (sym (ap (λ ls. is_meeting d.config.sig_bits (try_of d o).reads ls) (so.alone e).0 ∙ meeting-none d.config.sig_bits (try_of d o).reads) ∙ meets))

back-lock : (d : Design) (w : World) (j n cause : ℕ) (lock : Counts) → is_locked_core lock.locked j ≡ false → j < d.config.cores
    → ShowsLock d lock w → ShowsLock d (with_backs lock j (backs_of lock j + 1)) (took d w (Back j n cause))
back-lock d w j n cause lock free range shows = record {
  retries = shows.retries;
  many = length-set lock.backs j (backs_of lock j + 1) ∙ shows.many;
  backs = λ k u. go k u (cases_eq k j);
  locked = λ k. at k (cases_eq k j);
  within = shows.within;
}
  where
    s : OwnSeat d w (Back j n cause) j (seat_back d w j)
    s = back-seat d w j n cause

    inside : j < length lock.backs
    inside = subst (λ m. j < m) (sym shows.many) range

    go : (k : ℕ) → k < d.config.cores → ((k ≡ j) ⊎ (k ≡ j → ⊥)) → slice_get (set lock.backs j (backs_of lock j + 1)) k ≡ Some ((took d w (Back j n cause)).seats k).backs
    go k u (inl same) = subst (λ i. slice_get (set lock.backs j (backs_of lock j + 1)) i ≡ Some ((took d w (Back j n cause)).seats i).backs) (sym same)
        (slice_get-set_same lock.backs j (backs_of lock j + 1) ∙ cond-true (ltb j (length lock.backs)) _ _ (lt-ltb j (length lock.backs) inside)
        ∙ ap (λ x. Some (x + 1)) (counted d w j lock shows range) ∙ ap (λ (x : Seat). Some x.backs) (sym s.own))
    go k u (inr ne) = slice_get-set_other lock.backs j k (backs_of lock j + 1) ne ∙ shows.backs k u ∙ ap (λ (x : Seat). Some x.backs) (sym (s.others k ne))

    at : (k : ℕ) → ((k ≡ j) ⊎ (k ≡ j → ⊥)) → is_locked_core lock.locked k ≡ is_locked ((took d w (Back j n cause)).seats k).opening
    at k (inl same) = subst (λ i. is_locked_core lock.locked i ≡ is_locked ((took d w (Back j n cause)).seats i).opening) (sym same)
        (free ∙ sym (ap (λ (x : Seat). is_locked x.opening) s.own))
    at k (inr ne) = shows.locked k ∙ sym (ap (λ (x : Seat). is_locked x.opening) (s.others k ne))

pub back-turn : (d : Design) (w : World) (j : ℕ) (code : CodeView) (b new : BackingView) (log later : Trace) (cores left : Cores) (o : Opening) (c : EndedView) (held : Stage) (event : Turned)
    → BacksAreEntries → MayTurn d w j code b log cores → HasEnd d w j o c → is_conflict d o ≡ true
    → RollsBack j c (around b cores.lock log) (around new left.lock later) held event → LeavesCores j held cores left
    → CoreTurns d w j code new later left event
unfolding notes_of
back-turn d w j code b new log later cores left o c held event law may ended meets back leaves =
    core-turn d w j code new later left event (Back j o.acts c.cause)
    (next-core d w j may.runs may.free ∙ entry-back d w j o c.cause ended.seat ended.end meets)
    (back.entry ∙ ap (λ n. Back j n c.cause) ended.is.stands.acts) (λ h. refl)
    (record {
      code_is = may.shows.code_is;
      memory = memory-same d w (Back j o.acts c.cause) b new log later may.coherent m back.memory refl refl back.log;
      cores = subst (λ xs. ShowsCores d xs left.portions.items (took d w (Back j o.acts c.cause))) (sym leaves.statuses)
          (own-cores d w (Back j o.acts c.cause) j (seat_back d w j) cores.statuses.items cores.portions.items left.portions.items held
          (back-seat d w j o.acts c.cause) leaves.portions holds may.shows.cores);
      lock = subst (λ x. ShowsLock d x (took d w (Back j o.acts c.cause))) (sym (back.lock ∙ counts))
          (back-lock d w j o.acts c.cause cores.lock free may.range may.shows.lock);
    })
    (no-puts d w (Back j o.acts c.cause) event.puts refl back.puts)
  where
    m : ShowsMemory d b log w
    m = may.shows.memory

    so : KeepsBounds d w
    so = reached-sound d w may.reached

    open_sound : SoundAt d w j (Some o)
    open_sound = subst (SoundAt d w j) ended.seat (so.opens j)

    unlocked : o.locked ≡ false
    unlocked = free-conflict d w j o open_sound meets

    free : is_locked_core cores.lock.locked j ≡ false
    free = may.shows.lock.locked j ∙ ap is_locked ended.seat ∙ unlocked

    counts : lock_backed cores.lock j ≡ with_backs cores.lock j (backs_of cores.lock j + 1)
    counts = cond-false (is_spent cores.lock j) _ _ (few (cases_Bool (is_spent cores.lock j)))
      where
        few : (is_spent cores.lock j ≡ true) ⊎ (is_spent cores.lock j ≡ false) → is_spent cores.lock j ≡ false
        few (inr e) = e
        few (inl e) = absurd (not_all (eqb-true _ _ (spent-is d w j cores.lock true may.shows.lock may.range e)) (open_sound.free unlocked))
          where
            not_all : {a r : ℕ} → a ≡ r → a < r → ⊥
            not_all e u = omega (arith, e, u)

    stands : Backs b c (try_of d o) (portion_of o) back.undone
    stands = subst (λ (t : Try). Backs b c t (portion_of o) back.undone) (try-is d o c.try.limits ended.is.limits)
        (back.backs d.image.code (portion_of o) ended.is.stands)

    entry : IsBackOf d w j o back.undone
    entry = law d w j o c b back.undone (shows-world d w b log so m) (in-seat d w j o c ended) stands

    bits : back.undone.flushing.read_set.bits ≡ d.config.sig_bits
    bits = ap (λ (x : FlushingView). x.read_set.bits) back.is_undone.flushing ∙ ended.is.stands.holds.sizes.reads ∙ ap (λ (x : Limits). x.sig_bits) ended.is.limits

    holds : HoldsAt d j (w.flat.cores j).regs (seat_back d w j) held
    holds = subst (HoldsAt d j (w.flat.cores j).regs (seat_back d w j)) (sym back.holds)
        (record {
          closed = refl;
          taken = positive (w.seats j).backs;
          core = entry.core;
          limits = entry.limits;
          regs = entry.regs ∙ ended.is.opening;
          reads = record { bits = bits; image = entry.reads.image };
          due = entry.due;
        })
      where
        positive : (n : ℕ) → 0 < n + 1
        positive n = omega arith
