-- One event of a core that has no open try: it opens one, or flushes a line.
use Rattle.std.proofs.Common.{◌≡◌, ◌<◌, ◌-◌, ℕ, zero, suc, ◌&&◌, Bool, true, false, List, [], ◌∷◌, ◌++◌, cond, eqb, refl, sym, ap, ◌∙◌, subst, arith, append-nil, Option, Some, None, eq-eqb}
use Rattle.std.proofs.lemmas.Bool.{cond-true, cond-false, ne_eqb, or_left, or_right, lt-ltb}
use Rattle.std.specs.Prelude.{slice_get, slice_index_or, nat_lt, find}
use Rattle.std.specs.Option.{is_some}
use Rattle.conda_base.specs.declared.Line.{Line}
use Rattle.schedule_log.specs.declared.entry.Entry.{Entry}
use Rattle.schedule_log.specs.declared.entry.Entry.TheVariants.{Open, Lock, Flush}
use Rattle.rv32_hart.specs.Code.{CodeView}
use Rattle.line_memory.specs.Tags.{Tags}
use Rattle.line_memory.specs.Backing.{BackingView, HasSameNumbers, IsInRange}
use Rattle.line_memory.specs.Notes.{all_noted}
use Rattle.traffic_trace.specs.Notes.{Trace}
use Rattle.bloom_sig.specs.Signatures.{is_member, no_lines}
use Rattle.bloom_sig.specs.Images.{is_member_of}
use Rattle.bloom_sig.proofs.ImageLemmas.{members_are_of_lines}
use Rattle.coherent_mem.specs.Steps.{IsCoherent}
use Rattle.offload_calls.specs.CoreActs.{core_runs}
use Rattle.fallback_lock.specs.Locks.{Counts, backs_of}
use Rattle.conda_base.specs.LineLists.{names, line_list}
use Rattle.try_runs.specs.Limits.{limits_of}
use Rattle.try_runs.specs.declared.limits.Limits.{Limits}
use Rattle.std.proofs.Math.Path.{fun_ext}
use Rattle.portion_ctl.specs.Views.{ReadyView, OpenView, FlushingView}
use Rattle.portion_ctl.specs.Stands.{StandsFor}
use Rattle.portion_ctl.specs.States.{next_flush}
use Rattle.chip_laws.specs.Design.{Design}
use Rattle.chip_laws.specs.Notes.{notes_of}
use Rattle.chip_laws.specs.Rules.{World, Seat, dirty_of, flush_line, is_flushing, is_locked, is_locked_below}
use Rattle.chip_laws.specs.Worlds.{flat_after, tags_after, seat_opened, took}
use Rattle.chip_core.specs.declared.stage.Stage.{Stage}
use Rattle.chip_core.specs.declared.cores.Cores.{Cores}
use Rattle.chip_core.specs.Seats.{Turned}
use Rattle.chip_core.specs.Seats.{around, is_spent, OpensTry, FlushesLine}
use Rattle.chip_core.specs.Shows.{HoldsAt, IsImageOf, HoldsFlushing, ShowsMemory, ShowsCores, ShowsLock}
use Rattle.chip_core.specs.Turns.{IsReached, ShowsParts, CoreTurns}
use Rattle.chip_core.proofs.CoreFacts.{bits-told}
use Rattle.chip_core.proofs.MemoryFacts.{memory-took, unchanged}
use Rattle.chip_core.proofs.ChangeFacts.{lock-steps}
use Rattle.coherent_mem.proofs.StepFacts.{flushed_steps}
use Rattle.chip_core.proofs.FlushingFacts.{flushes-numbers, flushes-view, flushes-lock}
use Rattle.chip_core.proofs.RangeFacts.{dirty-in-range}
use Rattle.chip_core.proofs.SeatFacts.{next-core, entry-flush, entry-opens, OwnSeat, ChangesAt, own-cores, own-lock, took-lock, core-turn}
use Rattle.line_memory.specs.Tags.{Shape, dirty_lines}
use Rattle.line_memory.specs.Access.{after_flush, after_lock}
use Rattle.line_memory.specs.Notes.{flush_notes}
use Rattle.line_memory.specs.Backing.{dirty_in}
use Rattle.chip_laws.specs.Design.{hart_shape}
use Rattle.line_memory.specs.Backing.{IsBacking}
use Rattle.portion_ctl.specs.States.{OpensPortion}
use Rattle.coherent_mem.specs.Steps.{StepsTo}
use Rattle.chip_laws.specs.Uses.{flush_after}
use Rattle.line_memory.specs.Notes.{flushes_notes}
use Rattle.portion_ctl.specs.Walks.{foreign_lines}

-- Core j, which holds this portion, may have an event: it runs, and no other core's locked try is open.
pub record MayTurn (d : Design) (w : World) (j : ℕ) (code : CodeView) (b : BackingView) (log : Trace) (cores : Cores) : Type 0 where
  pub reached : IsReached d w
  pub range : j < d.config.cores
  pub coherent : IsCoherent b
  pub shows : ShowsParts d code b log cores w
  pub runs : core_runs (w.flat.cores j).status ≡ true
  pub free : is_locked_below w (λ k. eqb k j) d.config.cores ≡ false

-- what the event leaves of the cores: the statuses, and all portions but its own
pub record LeavesCores (j : ℕ) (held : Stage) (cores left : Cores) : Type 0 where
  pub statuses : left.statuses.items ≡ cores.statuses.items
  pub portions : ChangesAt j held cores.portions.items left.portions.items

-- ---- small steps

pub cast-steps : {b new : BackingView} {t u : Tags} {v m : List ℕ} → t ≡ u → v ≡ m → StepsTo t v b new → StepsTo u m b new
cast-steps {b} {new} {t} {u} {v} {m} e f is = subst (λ x. StepsTo u x b new) f (subst (λ x. StepsTo x v b new) e is)

pub get-at : {A : Type 0} (xs : List A) (i : ℕ) (x d : A) → slice_get xs i ≡ Some x → slice_index_or xs i d ≡ x
get-at {A} [] i x d at = absurd (let k : ◌≡◌ {A = Option A} None (Some x) = at in cc)
get-at (y ∷ ys) zero x d at = cc
get-at (y ∷ ys) (suc i) x d at = get-at ys i x d at

pub counted : (d : Design) (w : World) (j : ℕ) (lock : Counts) → ShowsLock d lock w → j < d.config.cores → backs_of lock j ≡ (w.seats j).backs
counted d w j lock shows range = get-at lock.backs j (w.seats j).backs 0 (shows.backs j range)

pub spent-is : (d : Design) (w : World) (j : ℕ) (lock : Counts) (x : Bool) → ShowsLock d lock w → j < d.config.cores → is_spent lock j ≡ x
    → eqb (w.seats j).backs d.config.retries ≡ x
spent-is d w j lock x shows range is = both (counted d w j lock shows range) shows.retries is
  where
    both : {a b c e : ℕ} {x : Bool} → a ≡ b → c ≡ e → eqb a c ≡ x → eqb b e ≡ x
    both f g h = cc

pub no-puts : (d : Design) (w : World) (e : Entry) (out : List ℕ) → (took d w e).flat ≡ w.flat → out ≡ [] → (took d w e).flat.output ≡ w.flat.output ++ out
no-puts d w e out same puts = ap (λ f. f.output) same ∙ sym (append-nil w.flat.output) ∙ ap (λ xs. w.flat.output ++ xs) (sym puts)

same-dirty-notes : {c k : Shape} {t u : Tags} → c ≡ k → t ≡ u → flushes_notes c t (dirty_lines c t) ≡ flushes_notes k u (dirty_lines k u)
same-dirty-notes e f = cc

-- memory that stays, with these notes
pub memory-same : (d : Design) (w : World) (e : Entry) (b new : BackingView) (log later : Trace) → IsCoherent b → ShowsMemory d b log w
    → new ≡ b → tags_after d w e ≡ w.tags → (flat_after d w.flat e).memory ≡ w.flat.memory → later ≡ all_noted log (notes_of d w e)
    → ShowsMemory d new later (took d w e)
memory-same d w e b new log later is shows same tags flat noted_is =
    subst (λ (m : BackingView). ShowsMemory d m later (took d w e)) (sym same)
    (memory-took d w e b b log later shows
    (cast-steps (shows.tags ∙ sym tags) (shows.view ∙ sym flat) (unchanged b is.backing)) noted_is)

-- ---- an opening

image-opened : (d : Design) (locked : Bool) (s : ReadyView) (b new : BackingView) (log later : Trace) (o : OpenView)
    → s.limits ≡ limits_of d.config → OpensPortion s locked b new log later o → IsImageOf d o.foreign_set (foreign_lines locked b)
image-opened d locked s b new log later o limits opens = record {
  bits = ap (λ (x : OpenView). x.foreign_set.bits) opens.opened ∙ bits-told (no_lines s.limits.sig_bits) (foreign_lines locked b)
      ∙ ap (λ (x : Limits). x.sig_bits) limits;
  image = opens.foreign;
}

lock-seat : (d : Design) (w : World) (j : ℕ) → OwnSeat d w (Lock j) j (seat_opened w j true [])
lock-seat d w j = record {
  flat = refl;
  own = cond-true (eqb j j) _ _ (eq-eqb j j refl);
  others = λ k ne. cond-false (eqb k j) _ _ (ne_eqb k j ne);
}

open-seat : (d : Design) (w : World) (j : ℕ) → OwnSeat d w (Open j) j (seat_opened w j false (dirty_of d w))
open-seat d w j = record {
  flat = refl;
  own = cond-true (eqb j j) _ _ (eq-eqb j j refl);
  others = λ k ne. cond-false (eqb k j) _ _ (ne_eqb k j ne);
}

-- a core whose registers stand in a portion at rest
pub record Rests (d : Design) (w : World) (j : ℕ) (s : ReadyView) : Type 0 where
  pub closed : (w.seats j).opening ≡ None
  pub settled : is_flushing d w j ≡ false
  pub core : s.core ≡ j
  pub limits : s.limits ≡ limits_of d.config
  pub regs : s.regs ≡ (w.flat.cores j).regs

lock-turn : (d : Design) (w : World) (j : ℕ) (code : CodeView) (b new : BackingView) (log later : Trace) (cores left : Cores) (s : ReadyView) (held : Stage) (event : Turned)
    → MayTurn d w j code b log cores → Rests d w j s → is_spent cores.lock j ≡ true → cores.lock.locked ≡ None → IsCoherent new
    → OpensTry true j s (around b cores.lock log) (around new left.lock later) held event → LeavesCores j held cores left
    → CoreTurns d w j code new later left event
unfolding notes_of
lock-turn d w j code b new log later cores left s held event may rests spent free coherent opens leaves =
    core-turn d w j code new later left event (Lock j)
    (next-core d w j may.runs may.free ∙ entry-opens d w j true rests.closed rests.settled (spent-is d w j cores.lock true may.shows.lock may.range spent))
    opens.entry (λ h. refl)
    (record {
      code_is = may.shows.code_is;
      memory = memory-took d w (Lock j) b new log later m
          (cast-steps (ap after_lock m.tags) m.view (lock-steps b new coherent.backing numbers tags view))
          (opens.opens.notes ∙ ap (all_noted log) (same-dirty-notes m.numbers.shape m.tags));
      cores = subst (λ xs. ShowsCores d xs left.portions.items (took d w (Lock j))) (sym leaves.statuses)
          (own-cores d w (Lock j) j (seat_opened w j true []) cores.statuses.items cores.portions.items left.portions.items held
          (lock-seat d w j) leaves.portions holds may.shows.cores);
      lock = subst (λ x. ShowsLock d x (took d w (Lock j))) (sym opens.lock)
          (took-lock d w (Lock j) j (seat_opened w j true []) cores.lock (lock-seat d w j) free may.range refl refl may.shows.lock);
    })
    (no-puts d w (Lock j) event.puts refl opens.puts)
  where
    m : ShowsMemory d b log w
    m = may.shows.memory

    numbers : HasSameNumbers b new
    numbers = subst (HasSameNumbers b) (sym opens.opens.flushes) (flushes-numbers b (dirty_in b))

    tags : new.tags ≡ after_lock b.tags
    tags = ap (λ (x : BackingView). x.tags) opens.opens.flushes ∙ flushes-lock b may.coherent.backing

    view : new.view ≡ b.view
    view = ap (λ (x : BackingView). x.view) opens.opens.flushes ∙ flushes-view b (dirty_in b)

    holds : HoldsAt d j (w.flat.cores j).regs (seat_opened w j true []) held
    holds = subst (HoldsAt d j (w.flat.cores j).regs (seat_opened w j true [])) (sym opens.holds)
        (record {
          core = ap (λ (x : OpenView). x.core) opens.opens.opened ∙ rests.core;
          limits = ap (λ (x : OpenView). x.limits) opens.opens.opened ∙ rests.limits;
          opening = refl;
          stands = subst (λ r. StandsFor d.image.code opens.tried (record { regs = r; fills = λ l. []; acts = 0 })) rests.regs
              (opens.stands d.image.code (λ l. []));
          foreign = image-opened d true s b new log later opens.tried rests.limits opens.opens;
          locked = ap (λ (x : OpenView). x.locked) opens.opens.opened;
        })

free-turn : (d : Design) (w : World) (j : ℕ) (code : CodeView) (b new : BackingView) (log later : Trace) (cores left : Cores) (s : ReadyView) (held : Stage) (event : Turned)
    → MayTurn d w j code b log cores → Rests d w j s → is_spent cores.lock j ≡ false → IsCoherent new
    → OpensTry false j s (around b cores.lock log) (around new left.lock later) held event → LeavesCores j held cores left
    → CoreTurns d w j code new later left event
unfolding notes_of
free-turn d w j code b new log later cores left s held event may rests spent coherent opens leaves =
    core-turn d w j code new later left event (Open j)
    (next-core d w j may.runs may.free ∙ entry-opens d w j false rests.closed rests.settled (spent-is d w j cores.lock false may.shows.lock may.range spent))
    opens.entry (λ h. refl)
    (record {
      code_is = may.shows.code_is;
      memory = memory-same d w (Open j) b new log later may.coherent m opens.opens.flushes refl refl opens.opens.notes;
      cores = subst (λ xs. ShowsCores d xs left.portions.items (took d w (Open j))) (sym leaves.statuses)
          (own-cores d w (Open j) j seat cores.statuses.items cores.portions.items left.portions.items held
          (open-seat d w j) leaves.portions holds may.shows.cores);
      lock = subst (λ x. ShowsLock d x (took d w (Open j))) (sym opens.lock)
          (own-lock d w (Open j) j seat cores.lock (open-seat d w j) refl (sym (ap is_locked rests.closed)) may.shows.lock);
    })
    (no-puts d w (Open j) event.puts refl opens.puts)
  where
    m : ShowsMemory d b log w
    m = may.shows.memory

    seat : Seat
    seat = seat_opened w j false (dirty_of d w)

    dirty-same : dirty_in b ≡ dirty_of d w
    dirty-same = same m.numbers.shape m.tags
      where
        same : {c k : Shape} {t u : Tags} → c ≡ k → t ≡ u → dirty_lines c t ≡ dirty_lines k u
        same e f = cc

    holds : HoldsAt d j (w.flat.cores j).regs (seat_opened w j false (dirty_of d w)) held
    holds = subst (HoldsAt d j (w.flat.cores j).regs (seat_opened w j false (dirty_of d w))) (sym opens.holds)
        (record {
          core = ap (λ (x : OpenView). x.core) opens.opens.opened ∙ rests.core;
          limits = ap (λ (x : OpenView). x.limits) opens.opens.opened ∙ rests.limits;
          opening = refl;
          stands = subst (λ r. StandsFor d.image.code opens.tried (record { regs = r; fills = λ l. []; acts = 0 })) rests.regs
              (opens.stands d.image.code (λ l. []));
          foreign = subst (IsImageOf d opens.tried.foreign_set) dirty-same
              (image-opened d false s b new log later opens.tried rests.limits opens.opens);
          locked = ap (λ (x : OpenView). x.locked) opens.opens.opened;
        })

-- a try opens
pub open-turn : (d : Design) (w : World) (j : ℕ) (code : CodeView) (b new : BackingView) (log later : Trace) (cores left : Cores) (s : ReadyView) (held : Stage) (event : Turned)
    → MayTurn d w j code b log cores → Rests d w j s → cores.lock.locked ≡ None → IsCoherent new
    → OpensTry (is_spent cores.lock j) j s (around b cores.lock log) (around new left.lock later) held event → LeavesCores j held cores left
    → CoreTurns d w j code new later left event
open-turn d w j code b new log later cores left s held event may rests free coherent opens leaves = go (is_spent cores.lock j) refl opens
  where
    go : (x : Bool) → is_spent cores.lock j ≡ x → OpensTry x j s (around b cores.lock log) (around new left.lock later) held event
        → CoreTurns d w j code new later left event
    go true e o = lock-turn d w j code b new log later cores left s held event may rests e free coherent o leaves
    go false e o = free-turn d w j code b new log later cores left s held event may rests e coherent o leaves

-- ---- a flush

-- the line that a portion flushes is the one of the rules
pub flush-line-is : (d : Design) (w : World) (j : ℕ) (b : BackingView) (log : Trace) (s : FlushingView) → ShowsMemory d b log w
    → HoldsFlushing d j (w.flat.cores j).regs (w.seats j) s → find (is_member s.read_set) (dirty_in b) ≡ flush_line d w j
flush-line-is d w j b log s m owed =
    ap (λ (test : Line → Bool). find test (dirty_in b))
    (fun_ext (λ l. members_are_of_lines s.read_set (w.seats j).last l owed.reads.image ∙ ap (λ n. is_member_of n (w.seats j).last l) owed.reads.bits))
    ∙ same m.numbers.shape m.tags
  where
    same : {c k : Shape} {t u : Tags} → c ≡ k → t ≡ u
        → find (is_member_of d.config.sig_bits (w.seats j).last) (dirty_lines c t) ≡ find (is_member_of d.config.sig_bits (w.seats j).last) (dirty_lines k u)
    same e f = cc

found-named : (p : Line → Bool) (lines : List Line) (l : Line) → find p lines ≡ Some l → names lines l ≡ true
found-named p [] l at = absurd (let k : ◌≡◌ {A = Option Line} None (Some l) = at in cc)
found-named p (k ∷ lines) l at = go (p k) at (found-named p lines l)
  where
    go : (b : Bool) → cond b (Some k) (find p lines) ≡ Some l → (find p lines ≡ Some l → names lines l ≡ true) → names (k ∷ lines) l ≡ true
    go true h ih = let same : k ≡ l = cc in or_left (eqb k.0 l.0) (names lines l) (eq-eqb k.0 l.0 (ap (λ (x : Line). x.0) same))
    go false h ih = or_right (eqb k.0 l.0) (names lines l) (ih h)

due-some : (due : ℕ) (x : Option Line) (l : Line) → cond (eqb due 0) None x ≡ Some l → (nat_lt 0 due ≡ true) × (x ≡ Some l)
due-some zero x l at = absurd (let k : ◌≡◌ {A = Option Line} None (Some l) = at in cc)
due-some (suc n) x l at =
    (lt-ltb 0 (suc n) (omega arith), sym (cond-false {A = Option Line} (eqb (suc n) 0) None x (ne_eqb (suc n) 0 (λ e. omega (arith, e)))) ∙ at)

-- the line that is flushed next is one of memory's
pub flush-in-range : (b : BackingView) (s : FlushingView) (l : Line) → IsBacking b → next_flush s b ≡ Some l → IsInRange b l
flush-in-range b s l is at =
    let found = due-some s.due (find (is_member s.read_set) (dirty_in b)) l at in
    dirty-in-range b l is (found-named (is_member s.read_set) (dirty_in b) l found.1)

due-none : (due : ℕ) (x : Option Line) → cond (eqb due 0) None x ≡ None → (nat_lt 0 due && is_some x) ≡ false
due-none zero x at = refl
due-none (suc n) x at =
    both (nat_lt 0 (suc n)) (ap is_some (sym (cond-false {A = Option Line} (eqb (suc n) 0) None x (ne_eqb (suc n) 0 (λ e. omega (arith, e)))) ∙ at))
  where
    both : (b : Bool) {c : Bool} → c ≡ false → (b && c) ≡ false
    both true e = e
    both false e = refl

-- no flush is due any more
pub none-due : (d : Design) (w : World) (j : ℕ) (b : BackingView) (log : Trace) (s : FlushingView) → ShowsMemory d b log w
    → HoldsFlushing d j (w.flat.cores j).regs (w.seats j) s → next_flush s b ≡ None → is_flushing d w j ≡ false
none-due d w j b log s m owed none =
    ap (λ n. nat_lt 0 n && is_some (flush_line d w j)) (sym owed.due)
    ∙ due-none s.due (flush_line d w j) (ap (λ x. cond (eqb s.due 0) None x) (sym (flush-line-is d w j b log s m owed)) ∙ none)

flush-seat : (d : Design) (w : World) (j : ℕ) → OwnSeat d w (Flush j) j (record (w.seats j) { due = (w.seats j).due - 1 })
flush-seat d w j = record {
  flat = refl;
  own = cond-true (eqb j j) _ _ (eq-eqb j j refl);
  others = λ k ne. cond-false (eqb k j) _ _ (ne_eqb k j ne);
}

pub flush-turn : (d : Design) (w : World) (j : ℕ) (code : CodeView) (b new : BackingView) (log later : Trace) (cores left : Cores) (s : FlushingView) (l : Line) (held : Stage) (event : Turned)
    → MayTurn d w j code b log cores → HoldsFlushing d j (w.flat.cores j).regs (w.seats j) s → next_flush s b ≡ Some l → IsCoherent new
    → FlushesLine l j s (around b cores.lock log) (around new left.lock later) held event → LeavesCores j held cores left
    → CoreTurns d w j code new later left event
unfolding notes_of
flush-turn d w j code b new log later cores left s l held event may owed at coherent flush leaves =
    core-turn d w j code new later left event (Flush j)
    (next-core d w j may.runs may.free ∙ entry-flush d w j owed.closed flushing)
    flush.entry (λ h. refl)
    (record {
      code_is = may.shows.code_is;
      memory = memory-took d w (Flush j) b new log later m changed noted_is;
      cores = subst (λ xs. ShowsCores d xs left.portions.items (took d w (Flush j))) (sym leaves.statuses)
          (own-cores d w (Flush j) j seat cores.statuses.items cores.portions.items left.portions.items held
          (flush-seat d w j) leaves.portions holds may.shows.cores);
      lock = subst (λ x. ShowsLock d x (took d w (Flush j))) (sym flush.lock)
          (own-lock d w (Flush j) j seat cores.lock (flush-seat d w j) refl refl may.shows.lock);
    })
    (no-puts d w (Flush j) event.puts refl flush.puts)
  where
    m : ShowsMemory d b log w
    m = may.shows.memory

    seat : Seat
    seat = record (w.seats j) { due = (w.seats j).due - 1 }

    is_due : (nat_lt 0 s.due ≡ true) × (find (is_member s.read_set) (dirty_in b) ≡ Some l)
    is_due = due-some s.due (find (is_member s.read_set) (dirty_in b)) l at

    line-is : flush_line d w j ≡ Some l
    line-is = sym (flush-line-is d w j b log s m owed) ∙ is_due.1

    flushing : is_flushing d w j ≡ true
    flushing = both (ap (λ n. nat_lt 0 n) (sym owed.due) ∙ is_due.0) (ap is_some line-is)
      where
        both : {x y : Bool} → x ≡ true → y ≡ true → (x && y) ≡ true
        both e f = rw (e, f) refl

    in_range : IsInRange b l
    in_range = dirty-in-range b l may.coherent.backing (found-named (is_member s.read_set) (dirty_in b) l is_due.1)

    changed : StepsTo (tags_after d w (Flush j)) w.flat.memory b new
    changed =
        subst (λ (x : BackingView). StepsTo (tags_after d w (Flush j)) w.flat.memory b x) (sym flush.memory)
        (cast-steps (ap (λ (t : Tags). after_flush t l) m.tags ∙ ap (flush_after w.tags) (sym line-is)) m.view
        (flushed_steps b l may.coherent.backing (subst IsBacking flush.memory coherent.backing) in_range))

    noted_is : later ≡ all_noted log (notes_of d w (Flush j))
    noted_is = flush.log ∙ ap (all_noted log) (same m.numbers.shape m.tags ∙ sym (append-nil (flush_notes (hart_shape d) w.tags l)) ∙ ap (λ x. flushes_notes (hart_shape d) w.tags (line_list x)) (sym line-is))
      where
        same : {c k : Shape} {t u : Tags} → c ≡ k → t ≡ u → flush_notes c t l ≡ flush_notes k u l
        same e f = cc

    holds : HoldsAt d j (w.flat.cores j).regs (record (w.seats j) { due = (w.seats j).due - 1 }) held
    holds = subst (HoldsAt d j (w.flat.cores j).regs (record (w.seats j) { due = (w.seats j).due - 1 })) (sym flush.holds)
        (record {
          closed = owed.closed;
          taken = owed.taken;
          core = owed.core;
          limits = owed.limits;
          regs = owed.regs;
          reads = owed.reads;
          due = ap (λ n. n - 1) owed.due;
        })
