-- A commit of a core's try.
use Rattle.std.proofs.Common.{◌≡◌, ◌≢◌, ◌<◌, ltb, length, set, ◌⊎◌, inl, inr, ℕ, true, false, List, ◌++◌, cond, eqb, refl, sym, ap, ◌∙◌, subst, Option, Some, None, eq-eqb}
use Rattle.std.proofs.lemmas.Option.{same_Some}
use Rattle.std.proofs.lemmas.Bool.{cond-true, cond-false, ne_eqb, cases_eq, eqb-true, cases_Bool, lt-ltb}
use Rattle.std.proofs.lemmas.List.{length-set}
use Rattle.std.specs.Prelude.{slice_get}
use Rattle.schedule_log.specs.declared.entry.Entry.{Entry}
use Rattle.schedule_log.specs.declared.entry.Entry.TheVariants.{Commit}
use Rattle.rv32_hart.specs.declared.regs.Regs.{Regs}
use Rattle.rv32_hart.specs.Code.{CodeView}
use Rattle.line_memory.specs.Backing.{BackingView, HasSameNumbers, copy_of}
use Rattle.traffic_trace.specs.Notes.{Trace}
use Rattle.bloom_sig.specs.Signatures.{Sets}
use Rattle.coherent_mem.specs.Steps.{IsCoherent}
use Rattle.offload_calls.specs.declared.status.Core.{Core}
use Rattle.offload_calls.specs.declared.status.CoreStatus.{CoreStatus}
use Rattle.offload_calls.specs.State.{State, status_of}
use Rattle.fallback_lock.specs.Locks.{Counts, committed, locked_without}
use Rattle.try_runs.specs.declared.limits.Limits.{Limits}
use Rattle.try_runs.specs.Tries.{Try, writes}
use Rattle.portion_ctl.specs.Views.{ReadyView, EndedView}
use Rattle.conflict_resolve.specs.Commits.{Commits}
use Rattle.chip_core.specs.Entries.{IsCommitOf, CommitsAreEntries}
use Rattle.chip_laws.specs.Design.{Design}
use Rattle.chip_laws.specs.Fresh.{IsFresh}
use Rattle.chip_laws.specs.Rules.{World, Seat, Opening, try_of, writes_of, is_conflict, is_locked}
use Rattle.chip_laws.specs.Worlds.{flat_after, tags_after, changed, seat_committed, took}
use Rattle.chip_laws.proofs.FreshFacts.{fits-fresh}
use Rattle.chip_core.specs.declared.stage.Stage.{Stage}
use Rattle.chip_core.specs.declared.cores.Cores.{Cores}
use Rattle.chip_core.specs.Seats.{Turned}
use Rattle.chip_core.specs.Fits.{is_locked_core}
use Rattle.chip_core.specs.Rulings.{joined_portion, all_joined}
use Rattle.chip_core.specs.Seats.{Others, around, CommitsTry}
use Rattle.bloom_sig.specs.Images.{IsImage}
use Rattle.chip_core.specs.Shows.{HoldsAt, IsImageOf, ShowsMemory, ShowsCores, ShowsLock}
use Rattle.chip_core.specs.Turns.{CoreTurns}
use Rattle.chip_core.proofs.ListFacts.{slice_get-set_same, slice_get-set_other}
use Rattle.chip_core.proofs.MemoryFacts.{memory-took}
use Rattle.chip_core.proofs.CoreFacts.{told_seat}
use Rattle.chip_core.proofs.ReachedFacts.{reached-sound}
use Rattle.chip_core.proofs.SeatFacts.{next-core, entry-commit, core-turn}
use Rattle.chip_core.proofs.TurnFacts.{MayTurn}
use Rattle.chip_core.proofs.ActFacts.{HasEnd, try-is, shows-world, in-seat}
use Rattle.chip_core.proofs.HartFacts.{told-locked}
use Rattle.chip_core.proofs.JoinFacts.{joined-holds, map-found}
use Rattle.chip_laws.specs.Sound.{FitsAt, KeepsBounds}
use Rattle.line_memory.specs.Tags.{Shape}
use Rattle.coherent_mem.specs.Steps.{StepsTo}
use Rattle.conflict_resolve.specs.Commits.{change}
use Rattle.line_memory.specs.Copies.{copy_after}
use Rattle.chip_laws.specs.Rules.{portion_of}
use Rattle.try_runs.specs.Fills.{portion_run}
use Rattle.line_memory.specs.Backing.{shape_of, view_of}

-- ---- the lock

pub locked-gone : (x : Option ℕ) (j : ℕ) → is_locked_core (locked_without j x) j ≡ false
locked-gone None j = refl
locked-gone (Some k) j = go (cases_Bool (eqb k j))
  where
    go : (eqb k j ≡ true) ⊎ (eqb k j ≡ false) → is_locked_core (cond (eqb k j) None (Some k)) j ≡ false
    go (inl e) = ap (λ x. is_locked_core x j) (cond-true {A = Option ℕ} (eqb k j) None (Some k) e)
    go (inr e) = ap (λ x. is_locked_core x j) (cond-false {A = Option ℕ} (eqb k j) None (Some k) e) ∙ e

pub locked-stays : (x : Option ℕ) (j k : ℕ) → k ≢ j → is_locked_core (locked_without j x) k ≡ is_locked_core x k
locked-stays None j k ne = refl
locked-stays (Some i) j k ne = go (cases_Bool (eqb i j))
  where
    go : (eqb i j ≡ true) ⊎ (eqb i j ≡ false) → is_locked_core (cond (eqb i j) None (Some i)) k ≡ eqb i k
    go (inl e) = ap (λ x. is_locked_core x k) (cond-true {A = Option ℕ} (eqb i j) None (Some i) e)
        ∙ sym (ne_eqb i k (λ same. ne (sym same ∙ eqb-true i j e)))
    go (inr e) = ap (λ x. is_locked_core x k) (cond-false {A = Option ℕ} (eqb i j) None (Some i) e)

locked-within : (x : Option ℕ) (j k : ℕ) → locked_without j x ≡ Some k → x ≡ Some k
locked-within None j k at = at
locked-within (Some i) j k at = go (cases_Bool (eqb i j))
  where
    go : (eqb i j ≡ true) ⊎ (eqb i j ≡ false) → Some i ≡ Some k
    go (inl e) = absurd (let z : ◌≡◌ {A = Option ℕ} None (Some k) = sym (cond-true {A = Option ℕ} (eqb i j) None (Some i) e) ∙ at in cc)
    go (inr e) = sym (cond-false {A = Option ℕ} (eqb i j) None (Some i) e) ∙ at

-- the seat of another core, whose try is told of the commit
other-seat : (d : Design) (w : World) (j n cause k : ℕ) → k ≢ j
    → (took d w (Commit j n cause)).seats k ≡ told_seat (changed d w (Commit j n cause)) (w.seats k)
other-seat d w j n cause k ne = cond-false (eqb k j) _ _ (ne_eqb k j ne)

own-seat : (d : Design) (w : World) (j n cause : ℕ) → (took d w (Commit j n cause)).seats j ≡ seat_committed w j
own-seat d w j n cause = cond-true (eqb j j) _ _ (eq-eqb j j refl)

commit-lock : (d : Design) (w : World) (j n cause : ℕ) (lock : Counts) → j < d.config.cores
    → ShowsLock d lock w → ShowsLock d (committed lock j) (took d w (Commit j n cause))
commit-lock d w j n cause lock range shows = record {
  retries = shows.retries;
  many = length-set lock.backs j 0 ∙ shows.many;
  backs = λ k u. go k u (cases_eq k j);
  locked = λ k. at k (cases_eq k j);
  within = λ k is. shows.within k (locked-within lock.locked j k is);
}
  where
    inside : j < length lock.backs
    inside = subst (λ m. j < m) (sym shows.many) range

    go : (k : ℕ) → k < d.config.cores → ((k ≡ j) ⊎ (k ≡ j → ⊥)) → slice_get (set lock.backs j 0) k ≡ Some ((took d w (Commit j n cause)).seats k).backs
    go k u (inl same) = subst (λ i. slice_get (set lock.backs j 0) i ≡ Some ((took d w (Commit j n cause)).seats i).backs) (sym same)
        (slice_get-set_same lock.backs j 0 ∙ cond-true (ltb j (length lock.backs)) _ _ (lt-ltb j (length lock.backs) inside)
        ∙ ap (λ (x : Seat). Some x.backs) (sym (own-seat d w j n cause)))
    go k u (inr ne) = slice_get-set_other lock.backs j k 0 ne ∙ shows.backs k u ∙ ap (λ (x : Seat). Some x.backs) (sym (other-seat d w j n cause k ne))

    at : (k : ℕ) → ((k ≡ j) ⊎ (k ≡ j → ⊥)) → is_locked_core (locked_without j lock.locked) k ≡ is_locked ((took d w (Commit j n cause)).seats k).opening
    at k (inl same) = subst (λ i. is_locked_core (locked_without j lock.locked) i ≡ is_locked ((took d w (Commit j n cause)).seats i).opening) (sym same)
        (locked-gone lock.locked j ∙ sym (ap (λ (x : Seat). is_locked x.opening) (own-seat d w j n cause)))
    at k (inr ne) =
        locked-stays lock.locked j k ne ∙ shows.locked k ∙ sym (told-locked (changed d w (Commit j n cause)) (w.seats k).opening)
        ∙ sym (ap (λ (x : Seat). is_locked x.opening) (other-seat d w j n cause k ne))

-- ---- the cores

-- the portions after a commit: that of core j is at rest, and the others were told
pub record CommitLeaves (j : ℕ) (sets : Sets) (held : Stage) (old new : List Stage) : Type 0 where
  pub many : length new ≡ length old
  pub here : slice_get new j ≡ Some held
  pub beside : (k : ℕ) → k ≢ j → slice_get new k ≡ slice_get (all_joined sets old) k

-- what the flat state has of cores after a commit
record CommitsCore (d : Design) (w : World) (j : ℕ) (e : Entry) (regs : Regs) (status : CoreStatus) : Type 0 where
  pub here : (took d w e).flat.cores j ≡ record { regs = regs; status = status }
  pub beside : (k : ℕ) → k ≢ j → (took d w e).flat.cores k ≡ w.flat.cores k

commit-cores : (d : Design) (w : World) (j n cause : ℕ) (stands : List CoreStatus) (old new : List Stage) (sets : Sets) (held : Stage) (regs : Regs) (status : CoreStatus)
    → j < d.config.cores → CommitsCore d w j (Commit j n cause) regs status → IsImageOf d sets (changed d w (Commit j n cause))
    → CommitLeaves j sets held old new → HoldsAt d j regs (seat_committed w j) held → length stands ≡ d.config.cores → ShowsCores d stands old w
    → ShowsCores d (set stands j status) new (took d w (Commit j n cause))
commit-cores d w j n cause stands old new sets held regs status range core image leaves holds many shows = record {
  statuses = λ k. stat k (cases_eq k j);
  many = leaves.many ∙ shows.many;
  portions = λ k q at. go k q at (cases_eq k j);
}
  where
    inside : j < length stands
    inside = subst (λ m. j < m) (sym many) range

    stat : (k : ℕ) → ((k ≡ j) ⊎ (k ≡ j → ⊥)) → slice_get (set stands j status) k ≡ status_of d.config.cores (took d w (Commit j n cause)).flat.cores k
    stat k (inl same) = subst (λ i. slice_get (set stands j status) i ≡ status_of d.config.cores (took d w (Commit j n cause)).flat.cores i) (sym same)
        (slice_get-set_same stands j status ∙ cond-true (ltb j (length stands)) _ _ (lt-ltb j (length stands) inside)
        ∙ sym (cond-true (ltb j d.config.cores) _ _ (lt-ltb j d.config.cores range) ∙ ap (λ (x : Core). Some x.status) core.here))
    stat k (inr ne) = slice_get-set_other stands j k status ne ∙ shows.statuses k
        ∙ sym (ap (λ (x : Core). cond (ltb k d.config.cores) (Some x.status) None) (core.beside k ne))

    here : HoldsAt d j ((took d w (Commit j n cause)).flat.cores j).regs ((took d w (Commit j n cause)).seats j) held
    here = subst (λ (x : Core). HoldsAt d j x.regs ((took d w (Commit j n cause)).seats j) held) (sym core.here)
        (subst (λ (x : Seat). HoldsAt d j regs x held) (sym (own-seat d w j n cause)) holds)

    go : (k : ℕ) (q : Stage) → slice_get new k ≡ Some q → ((k ≡ j) ⊎ (k ≡ j → ⊥))
        → HoldsAt d k ((took d w (Commit j n cause)).flat.cores k).regs ((took d w (Commit j n cause)).seats k) q
    go k q at (inl same) =
        subst (λ i. HoldsAt d i ((took d w (Commit j n cause)).flat.cores i).regs ((took d w (Commit j n cause)).seats i) q) (sym same)
        (subst (λ (x : Stage). HoldsAt d j ((took d w (Commit j n cause)).flat.cores j).regs ((took d w (Commit j n cause)).seats j) x)
        (same_Some _ _ (sym leaves.here ∙ subst (λ i. slice_get new i ≡ Some q) same at)) here)
    go k q at (inr ne) = told-one (map-found (joined_portion sets) old k q (sym (leaves.beside k ne) ∙ at))
      where
        told-one : (x : Stage) × (slice_get old k ≡ Some x) × (q ≡ joined_portion sets x)
            → HoldsAt d k ((took d w (Commit j n cause)).flat.cores k).regs ((took d w (Commit j n cause)).seats k) q
        told-one (x, was, is) =
            subst (λ (c : Core). HoldsAt d k c.regs ((took d w (Commit j n cause)).seats k) q) (sym (core.beside k ne))
            (subst (λ (s : Seat). HoldsAt d k (w.flat.cores k).regs s q) (sym (other-seat d w j n cause k ne))
            (subst (λ (y : Stage). HoldsAt d k (w.flat.cores k).regs (told_seat (changed d w (Commit j n cause)) (w.seats k)) y) (sym is)
            (joined-holds d k (w.flat.cores k).regs sets (changed d w (Commit j n cause)) image (w.seats k) x (shows.portions k x was))))

-- ---- put together

pub commit-turn : (d : Design) (w : World) (j : ℕ) (code : CodeView) (b new : BackingView) (log later : Trace) (cores left : Cores) (others mid : Others) (o : Opening) (c : EndedView) (held : Stage) (event : Turned)
    → CommitsAreEntries → MayTurn d w j code b log cores → HasEnd d w j o c → is_conflict d o ≡ false → IsCoherent new
    → CommitsTry j c (around b cores.lock log) (around new left.lock later) others mid held event
    → length cores.statuses.items ≡ d.config.cores → others.statuses ≡ cores.statuses.items → left.statuses.items ≡ mid.statuses
    → CommitLeaves j c.try.write_set held cores.portions.items left.portions.items
    → CoreTurns d w j code new later left event
commit-turn d w j code b new log later cores left others mid o c held event law may ended clear coherent commit many same_statuses new_statuses leaves =
    core-turn d w j code new later left event (Commit j o.acts c.cause)
    (next-core d w j may.runs may.free ∙ entry-commit d w j o c.cause ended.seat ended.end clear)
    (commit.entry ∙ same-entry (commit.keeps.n ∙ ended.is.stands.acts) commit.keeps.cause)
    (λ h. ap (λ (f : State). f.harts h) entry.flat)
    (record {
      code_is = may.shows.code_is;
      memory = memory-took d w (Commit j o.acts c.cause) b new log later m memory_changed entry.notes;
      cores = subst (λ xs. ShowsCores d xs left.portions.items (took d w (Commit j o.acts c.cause)))
          (ap (λ xs. set xs j commit.kept.status) (sym same_statuses) ∙ sym commit.statuses ∙ sym new_statuses)
          (commit-cores d w j o.acts c.cause cores.statuses.items cores.portions.items left.portions.items c.try.write_set held commit.kept.ready.regs commit.kept.status
          may.range core image leaves holds many may.shows.cores);
      lock = subst (λ x. ShowsLock d x (took d w (Commit j o.acts c.cause))) (sym commit.lock) (commit-lock d w j o.acts c.cause cores.lock may.range may.shows.lock);
    })
    (ap (λ (f : State). f.output) entry.flat ∙ ap (λ xs. w.flat.output ++ xs) (sym commit.puts))
  where
    same-entry : {n k a x : ℕ} → n ≡ k → a ≡ x → Commit j n a ≡ Commit j k x
    same-entry e f = cc

    m : ShowsMemory d b log w
    m = may.shows.memory

    so : KeepsBounds d w
    so = reached-sound d w may.reached

    fresh : IsFresh d w j o
    fresh = fits-fresh d w j o (subst (FitsAt d w j) ended.seat (so.fresh.opens j)) clear

    done : Commits (change b new log later) c (try_of d o) commit.kept
    done = subst (λ (t : Try). Commits (change b new log later) c t commit.kept) (try-is d o c.try.limits ended.is.limits)
        (commit.commits d.image.code (portion_of o) ended.is.stands)

    entry : IsCommitOf d w j o c commit.kept (change b new log later)
    entry = law d w j o c commit.kept (change b new log later) (shows-world d w b log so m) (in-seat d w j o c ended) fresh done commit.keeps

    numbers : HasSameNumbers b new
    numbers = done.numbers

    memory_changed : StepsTo (tags_after d w (Commit j o.acts c.cause)) (flat_after d w.flat (Commit j o.acts c.cause)).memory b new
    memory_changed = record {
      numbers = numbers;
      tags = entry.tags;
      view = sym (ap (λ (f : State). f.memory) entry.flat);
      copies = λ l range. done.copies l range
          ∙ ap (λ (x : Shape). copy_after x b.tags new.tags l (copy_of b l) (view_of b l) (view_of new l)) (sym same_shape);
    }
      where
        same_shape : shape_of new ≡ shape_of b
        same_shape = rw (numbers.holders, numbers.sets, numbers.ways) refl

    core : CommitsCore d w j (Commit j o.acts c.cause) commit.kept.ready.regs commit.kept.status
    core = record {
      here = ap (λ (f : State). f.cores j) entry.flat ∙ cond-true (eqb j j) _ _ (eq-eqb j j refl);
      beside = λ k ne. ap (λ (f : State). f.cores k) entry.flat ∙ cond-false (eqb k j) _ _ (ne_eqb k j ne);
    }

    image : IsImageOf d c.try.write_set (changed d w (Commit j o.acts c.cause))
    image = record {
      bits = ended.is.stands.holds.sizes.writes ∙ ap (λ (x : Limits). x.sig_bits) ended.is.limits;
      image = subst (λ ls. IsImage c.try.write_set ls)
          (ap (λ (x : Limits). writes x.line_bytes (portion_run d.image.code x.line_bytes (portion_of o))) ended.is.limits ∙ ap (writes_of d) (sym ended.seat))
          ended.is.stands.holds.writes.image;
    }

    holds : HoldsAt d j commit.kept.ready.regs (seat_committed w j) held
    holds = subst (HoldsAt d j commit.kept.ready.regs (seat_committed w j)) (sym commit.holds)
        (record {
          closed = refl;
          settled = refl;
          core = ap (λ (x : ReadyView). x.core) commit.keeps.ready ∙ ended.is.core;
          limits = ap (λ (x : ReadyView). x.limits) commit.keeps.ready ∙ ended.is.limits;
          regs = refl;
        })
