-- The Balance law.
use Rattle.std.proofs.Common.{◌≡◌, ◌≢◌, ◌+◌, ◌-◌, ◌<◌, ℕ, zero, suc, Bool, true, false, List, [], ◌∷◌, ◌++◌, length, refl, sym, ap, ◌∙◌, subst, arith, cond, eqb, not, ◌⊎◌, inl, inr, Option, Some, None, map}
use Rattle.std.specs.List.{AllByRecursion}
use Rattle.std.proofs.lemmas.Bool.{true≢false, cond_both, cond-true, eqb-true, eq-eqb, ne_eqb, cases_eq}
use Rattle.conda_base.specs.declared.Line.{Line}
use Rattle.conda_base.specs.declared.actor.Actor.{Actor}
use Rattle.conda_base.specs.declared.actor.Actor.TheVariants as The
use Rattle.schedule_log.specs.declared.entry.Entry.{Entry}
use Rattle.schedule_log.specs.declared.entry.Entry.TheVariants.{Step, Waits, Idle, Held, Open, Lock, Spec, Commit, Back, Flush, Kern}
use Rattle.offload_calls.specs.declared.status.CoreStatus.{CoreStatus}
use Rattle.offload_calls.specs.declared.status.CoreStatus.TheVariants as Core_is
use Rattle.offload_calls.specs.Calls.{is_idle}
use Rattle.offload_calls.specs.HartAct.{hart_runs}
use Rattle.offload_calls.specs.CoreActs.{core_runs}
use Rattle.try_runs.specs.Tries.{Try, with_some_line, next_outside}
use Rattle.try_runs.specs.Fills.{byte_of, new_line}
use Rattle.try_runs.specs.Ends.{end_of, is_done, is_trapped}
use Rattle.chip_laws.specs.Design.{Design, IsActorOf, hart_shape}
use Rattle.chip_laws.specs.Rules.{World, Seat, Opening, try_of, opening_end, reads_of, writes_of, is_conflict, is_locked_below, dirty_of, flush_line, is_flushing, ruling, core_entry, next}
use Rattle.chip_laws.specs.Worlds.{changed, tags_after, told, opening_of, seat_opened, seat_committed, seat_back, one_more, took, happens, start_world, world_from}
use Rattle.line_memory.specs.Tags.{Tags, Shape, set_number}
use Rattle.conda_base.specs.LineLists.{names, line_at, line_list}
use Rattle.try_runs.proofs.LineFacts.{AreDistinct, AreDistinct-with_all_new}
use Rattle.try_runs.specs.Fills.{corefill_notes}
use Rattle.chip_laws.specs.Notes.{hart_use, filled_of, notes_of}
use Rattle.std.proofs.lemmas.List.{length-append}
use Rattle.traffic_trace.specs.declared.note.Kind.{Kind}
use Rattle.traffic_trace.specs.declared.note.Kind.TheVariants as Kind_is
use Rattle.line_memory.specs.Notes.{note_of, leave_notes, flushes_notes, commit_notes, all_notes}
use Rattle.offload_calls.specs.Stores.{stored_addresses}
use Rattle.try_runs.proofs.TryFacts.{try_over-status}
use Rattle.chip_laws.specs.Balance.{notes_that, is_kind, sum_from, reads_ended, reads_open, writes_ended}
use Rattle.chip_laws.proofs.DesignFacts.{HasCaches}
use Rattle.chip_laws.proofs.WorldFacts.{Allowed, CommitsAt, next-allowed, waits_in}
use Rattle.chip_laws.proofs.FreshFacts.{none_read, more_reads}
use Rattle.chip_laws.proofs.LockFacts.{Ruled, SpecAt, BackAt, next-ruled}
use Rattle.chip_laws.proofs.BoundedFacts.{sound_happens}
use Rattle.chip_laws.proofs.TagShapes.{TagsFit, took-fits}
use Rattle.chip_laws.proofs.NoteCounts.{SkipsHarts, that-append, use-none, flush-none, all-none, leave-none}
use Rattle.chip_laws.proofs.LineBalance.{Bal, bal-then, bal-none, bal-still, bal-empty, use-bal, commit-bal, flush-bal, flush-held, lock-held}
use Rattle.chip_laws.proofs.OwnerFacts.{is_held}
use Rattle.chip_laws.specs.Uses.{use_notes}
use Rattle.chip_laws.specs.Sound.{KeepsFresh, KeepsBounds, SoundAt}

-- ---- the lines that a try stores to are named once

pub writes-distinct : (p : Design) (x : Option Opening) → AreDistinct (writes_of p x)
writes-distinct p None = tt
writes-distinct p (Some o) = AreDistinct-with_all_new [] (map (line_at p.config.line_bytes) (stored_addresses (try_of p o).stored)) tt

-- ---- one line of one hart

corefill-bal : (h : ℕ) (l : Line) (j : ℕ) (x : Option Line) (b : Bool) → Bal h l (corefill_notes j x) b b
corefill-bal h l j None b = bal-empty h l b b refl
corefill-bal h l j (Some n) b = bal-none h l (note_of Kind_is.CoreFill j n ∷ []) b refl refl refl

took-bal : (p : Design) (w : World) (e : Entry) (h : ℕ) (l : Line) → HasCaches p → TagsFit (hart_shape p) w.tags → h < p.config.harts
    → Bal h l (notes_of p w e) (is_held l (w.tags h (set_number (hart_shape p) l))) (is_held l (tags_after p w e h (set_number (hart_shape p) l)))
unfolding notes_of
took-bal p w (Step i) h l lim f u = use-bal (hart_shape p) w.tags i (hart_use p w i) h l lim.ways f u
took-bal p w (Commit j n c) h l lim f u = commit-bal (hart_shape p) w.tags j (writes_of p (w.seats j).opening) h l u (writes-distinct p (w.seats j).opening)
took-bal p w (Lock j) h l lim f u =
    bal-still h l _ _ _ (lock-held w.tags h (set_number (hart_shape p) l) l) (flush-bal (hart_shape p) w.tags (dirty_of p w) h l (is_held l (w.tags h (set_number (hart_shape p) l))))
took-bal p w (Flush j) h l lim f u =
    bal-still h l _ _ _ (flush-held w.tags (flush_line p w j) h (set_number (hart_shape p) l) l)
    (flush-bal (hart_shape p) w.tags (line_list (flush_line p w j)) h l (is_held l (w.tags h (set_number (hart_shape p) l))))
took-bal p w (Spec j) h l lim f u = corefill-bal h l j (filled_of p (w.seats j).opening) (is_held l (w.tags h (set_number (hart_shape p) l)))
took-bal p w (Waits i) h l lim f u = bal-empty h l _ _ refl
took-bal p w (Idle a) h l lim f u = bal-empty h l _ _ refl
took-bal p w (Held a) h l lim f u = bal-empty h l _ _ refl
took-bal p w (Open j) h l lim f u = bal-empty h l _ _ refl
took-bal p w (Back j n c) h l lim f u = bal-empty h l _ _ refl
took-bal p w (Kern j) h l lim f u = bal-empty h l _ _ refl

pub world-bal : (p : Design) (w : World) (s : List Actor) (h : ℕ) (l : Line) → HasCaches p → TagsFit (hart_shape p) w.tags → h < p.config.harts
    → Bal h l w.notes false (is_held l (w.tags h (set_number (hart_shape p) l)))
    → Bal h l (world_from p w s).notes false (is_held l ((world_from p w s).tags h (set_number (hart_shape p) l)))
unfolding world_from happens
world-bal p w [] h l lim f u b = b
world-bal p w (a ∷ s) h l lim f u b =
    world-bal p (happens p w a) s h l lim (took-fits p w (next p w a) f) u
    (bal-then h l w.notes (notes_of p w (next p w a)) _ _ _ b (took-bal p w (next p w a) h l lim f u))

-- ---- fills of tries

-- a core has no open try where it opens one
abbrev pub ShutAt : World → Entry → Type 0
ShutAt w (Open j) = (w.seats j).opening ≡ None
ShutAt w (Lock j) = (w.seats j).opening ≡ None
ShutAt w other = Unit {0}

core_entry-shut : (p : Design) (w : World) (j : ℕ) (x : Option Opening) → (w.seats j).opening ≡ x → ShutAt w (core_entry p w j x)
core_entry-shut p w j None e =
    cond_both (is_flushing p w j) _ _ (ShutAt w) (λ _. tt) (λ _. cond_both (eqb (w.seats j).backs p.config.retries) _ _ (ShutAt w) (λ _. e) (λ _. e))
core_entry-shut p w j (Some o) e = go (opening_end p o)
  where
    go : (cause : Option ℕ) → ShutAt w (ruling p j o cause)
    go None = tt
    go (Some c) = cond_both (is_conflict p o) (Back j o.acts c) (Commit j o.acts c) (ShutAt w) (λ _. tt) (λ _. tt)

pub next-shut : (p : Design) (w : World) (a : Actor) → ShutAt w (next p w a)
unfolding next
next-shut p w (The.Hart h) =
    cond_both (not (hart_runs (w.flat.harts h).status)) _ _ (ShutAt w) (λ _. tt)
    (λ _. cond_both (is_locked_below w (λ k. false) p.config.cores) _ _ (ShutAt w) (λ _. tt)
    (λ _. cond_both (waits_in p w h) _ _ (ShutAt w) (λ _. tt) (λ _. tt)))
next-shut p w (The.Core j) =
    cond_both (not (core_runs (w.flat.cores j).status)) _ _ (ShutAt w) (λ _. tt)
    (λ _. cond_both (is_locked_below w (λ k. eqb k j) p.config.cores) _ _ (ShutAt w) (λ _. tt)
    (λ _. core_entry-shut p w j (w.seats j).opening refl))

abbrev read_count : Design → Option Opening → ℕ
read_count p x = length (reads_of p x)

reads-told : (p : Design) (ls : List Line) (x : Option Opening) → read_count p (told ls x) ≡ read_count p x
reads-told p ls None = refl
reads-told p ls (Some o) = refl

-- an ended or running try has a line more exactly where it fills one
running : (s : CoreStatus) → is_idle (Some s) ≡ false → is_done s ≡ false → is_trapped s ≡ false → core_runs s ≡ true
running Core_is.Idle i d t = absurd (true≢false i)
running Core_is.Run i d t = refl
running (Core_is.Done v) i d t = absurd (true≢false d)
running (Core_is.Trapped x) i d t = absurd (true≢false t)

not_ended : (p : Design) (o : Opening) → opening_end p o ≡ None → core_runs (try_of p o).core.status ≡ true
unfolding end_of
not_ended p o e =
    running t.core.status (try_over-status p.image.code p.config.line_bytes (byte_of p.config.line_bytes o.fills) o.regs o.acts)
    (first (is_done t.core.status) (is_trapped t.core.status) _ e) (second (is_done t.core.status) (is_trapped t.core.status) _ e)
  where
    t : Try
    t = try_of p o

    first : (a b : Bool) (r : Option ℕ) → cond a (Some 1) (cond b (Some 2) r) ≡ None → a ≡ false
    first true b r e = absurd (let k : Some 1 ≡ None = e in cc)
    first false b r e = refl

    second : (a b : Bool) (r : Option ℕ) → cond a (Some 1) (cond b (Some 2) r) ≡ None → b ≡ false
    second true b r e = absurd (let k : Some 1 ≡ None = e in cc)
    second false true r e = absurd (let k : Some 2 ≡ None = e in cc)
    second false false r e = refl

length-with_line : (ls : List Line) (x : Option Line) → length (with_some_line ls x) ≡ length (line_list (new_line ls x)) + length ls
length-with_line ls None = omega arith
length-with_line ls (Some n) = go (names ls n)
  where
    go : (b : Bool) → length (cond b ls (ls ++ n ∷ [])) ≡ length (line_list (cond b None (Some n))) + length ls
    go true = omega arith
    go false = let both = length-append ls (n ∷ []) in omega arith

spec-reads : (p : Design) (w : World) (x : Option Opening) → KeepsFresh p w → SpecAt p x → length (line_list (filled_of p x)) + read_count p x ≡ read_count p (one_more p w x)
spec-reads p w None g e = absurd e
spec-reads p w (Some o) g e =
    sym (ap length ((more_reads p w o g).0 (not_ended p o e)) ∙ length-with_line (try_of p o).reads (next_outside p.image.code p.config.line_bytes (try_of p o)))

corefill-count : (j : ℕ) (x : Option Line) → notes_that (is_kind Kind_is.CoreFill) (corefill_notes j x) ≡ length (line_list x)
corefill-count j None = refl
corefill-count j (Some l) = refl

-- ---- sums over cores

open-same : (p : Design) (w v : World) (n : ℕ) → ((k : ℕ) → read_count p (v.seats k).opening ≡ read_count p (w.seats k).opening) → reads_open p w n ≡ reads_open p v n
open-same p w v zero same = refl
open-same p w v (suc n) same = let before = open-same p w v n same in let here = same n in omega arith

open-one : (p : Design) (w v : World) (n j a b : ℕ) → j < n → ((k : ℕ) → eqb k j ≡ false → read_count p (v.seats k).opening ≡ read_count p (w.seats k).opening)
    → a + read_count p (w.seats j).opening ≡ b + read_count p (v.seats j).opening → a + reads_open p w n ≡ b + reads_open p v n
open-one p w v zero j a b u same here = absurd (omega arith)
open-one p w v (suc n) j a b u same here = go (cases_eq j n) (λ k. open-one p w v n j a b k same here)
  where
    below : (m : ℕ) → ((k : ℕ) → k < m → read_count p (v.seats k).opening ≡ read_count p (w.seats k).opening) → reads_open p w m ≡ reads_open p v m
    below zero f = refl
    below (suc m) f = let before = below m (λ k u. f k (omega arith)) in let last = f m (omega arith) in omega arith

    go : (j ≡ n) ⊎ (j ≡ n → ⊥) → (j < n → a + reads_open p w n ≡ b + reads_open p v n)
        → a + (reads_open p w n + read_count p (w.seats n).opening) ≡ b + (reads_open p v n + read_count p (v.seats n).opening)
    go (inl e) later =
        let before : reads_open p w n ≡ reads_open p v n = below n (λ k m. same k (ne_eqb k j (apart k m))) in
        let there : a + read_count p (w.seats n).opening ≡ b + read_count p (v.seats n).opening =
        subst (λ i. a + read_count p (w.seats i).opening ≡ b + read_count p (v.seats i).opening) e here in
        omega arith
      where
        apart : (k : ℕ) → k < n → k ≢ j
        apart k m s = absurd (omega (arith, e))
    go (inr ne) later =
        let before = later (omega arith) in
        let last : read_count p (v.seats n).opening ≡ read_count p (w.seats n).opening = same n (ne_eqb n j (λ s. ne (sym s))) in
        omega arith

in_range : (p : Design) (w : World) (j : ℕ) (x : Option Opening) → SoundAt p w j x → ((x ≡ None) → ⊥) → j < p.config.cores
in_range p w j None s h = absurd (h refl)
in_range p w j (Some o) s h = s.range

-- where core j's seat is changed
seat_here : {A : Type 0} (j : ℕ) (x y : A) → cond (eqb j j) x y ≡ x
seat_here j x y = cond-true (eqb j j) x y (eq-eqb j j refl)

pub zero_plus : (n : ℕ) → n ≡ 0 + n
zero_plus n = omega arith

ended : (a b : ℕ) → b ≡ 0 → 0 + a ≡ a + b
ended a b h = omega arith

spec-open : (p : Design) (x : Option Opening) → SpecAt p x → x ≡ None → ⊥
spec-open p x h e = subst (SpecAt p) e h

commit-open : (p : Design) (n : ℕ) (x : Option Opening) → CommitsAt p n x → x ≡ None → ⊥
commit-open p n x h e = subst (CommitsAt p n) e h

back-open : (p : Design) (x : Option Opening) → BackAt p x → x ≡ None → ⊥
back-open p x h e = subst (BackAt p) e h

-- an opening has read nothing, and no try was open before it
shut-opened : (p : Design) (w : World) (j : ℕ) (locked : Bool) (foreign : List Line) → (w.seats j).opening ≡ None → (k : ℕ)
    → read_count p (cond (eqb k j) (seat_opened w j locked foreign) (w.seats k)).opening ≡ read_count p (w.seats k).opening
shut-opened p w j locked foreign shut k =
    cond_both (eqb k j) (seat_opened w j locked foreign) (w.seats k) (λ (t : Seat). read_count p t.opening ≡ read_count p (w.seats k).opening)
    (λ e. ap length (none_read p (opening_of w j locked foreign) refl) ∙ sym (ap (λ i. read_count p (w.seats i).opening) (eqb-true k j e) ∙ ap (read_count p) shut))
    (λ _. refl)

record CoreFillsAt (p : Design) (w : World) (e : Entry) : Type 0 where
  even : notes_that (is_kind Kind_is.CoreFill) (notes_of p w e) + reads_open p w p.config.cores
      ≡ reads_ended p w e + reads_open p (took p w e) p.config.cores

passes : (kind : Kind) → SkipsHarts (is_kind Kind_is.CoreFill)
passes kind = record {
  back = record { skips = λ k l. refl };
  down = record { skips = λ k l. refl };
  drop = record { skips = λ k l. refl };
  evict = record { skips = λ k l. refl };
  fill = record { skips = λ k l. refl };
}

passes_merge : SkipsHarts (is_kind Kind_is.Merge)
passes_merge = record {
  back = record { skips = λ k l. refl };
  down = record { skips = λ k l. refl };
  drop = record { skips = λ k l. refl };
  evict = record { skips = λ k l. refl };
  fill = record { skips = λ k l. refl };
}

commit-none : (c : Shape) (tags : Tags) (j : ℕ) (lines : List Line) → notes_that (is_kind Kind_is.CoreFill) (commit_notes c tags j lines) ≡ 0
commit-none c tags j [] = refl
commit-none c tags j (l ∷ lines) =
    let here : notes_that (is_kind Kind_is.CoreFill) (all_notes leave_notes c tags l) ≡ 0 =
    all-none (is_kind Kind_is.CoreFill) leave_notes (leave-none (is_kind Kind_is.CoreFill) (passes Kind_is.CoreFill).back (passes Kind_is.CoreFill).drop) c tags l in
    let later : notes_that (is_kind Kind_is.CoreFill) (note_of Kind_is.Merge j l ∷ commit_notes c tags j lines) ≡ 0 = ap (λ n. 0 + n) (commit-none c tags j lines) in
    let both = that-append (is_kind Kind_is.CoreFill) (all_notes leave_notes c tags l) (note_of Kind_is.Merge j l ∷ commit_notes c tags j lines) in
    omega arith

commit-merges : (c : Shape) (tags : Tags) (j : ℕ) (lines : List Line) → notes_that (is_kind Kind_is.Merge) (commit_notes c tags j lines) ≡ length lines
commit-merges c tags j [] = refl
commit-merges c tags j (l ∷ lines) =
    let here : notes_that (is_kind Kind_is.Merge) (all_notes leave_notes c tags l) ≡ 0 =
    all-none (is_kind Kind_is.Merge) leave_notes (leave-none (is_kind Kind_is.Merge) passes_merge.back passes_merge.drop) c tags l in
    let later : notes_that (is_kind Kind_is.Merge) (commit_notes c tags j lines) ≡ length lines = commit-merges c tags j lines in
    let both = that-append (is_kind Kind_is.Merge) (all_notes leave_notes c tags l) (note_of Kind_is.Merge j l ∷ commit_notes c tags j lines) in
    let one_more : notes_that (is_kind Kind_is.Merge) (note_of Kind_is.Merge j l ∷ commit_notes c tags j lines) ≡ 1 + notes_that (is_kind Kind_is.Merge) (commit_notes c tags j lines) = refl in
    omega arith

corefill-merges : (j : ℕ) (x : Option Line) → notes_that (is_kind Kind_is.Merge) (corefill_notes j x) ≡ 0
corefill-merges j None = refl
corefill-merges j (Some l) = refl

-- ---- what each entry adds

took-corefills : (p : Design) (w : World) → KeepsBounds p w → (e : Entry) → Allowed p w e → Ruled p w e → ShutAt w e → CoreFillsAt p w e
unfolding notes_of
took-corefills p w s (Step h) a r d = record {
  even =
      let none : notes_that (is_kind Kind_is.CoreFill) (use_notes (hart_shape p) w.tags h (hart_use p w h)) ≡ 0 =
      use-none (is_kind Kind_is.CoreFill) (passes Kind_is.CoreFill) (hart_shape p) w.tags h (hart_use p w h) in
      let same = open-same p w (took p w (Step h)) p.config.cores (λ k. reads-told p (changed p w (Step h)) (w.seats k).opening) in
      omega arith;
}
took-corefills p w s (Lock j) a r d = record {
  even =
      let none : notes_that (is_kind Kind_is.CoreFill) (flushes_notes (hart_shape p) w.tags (dirty_of p w)) ≡ 0 =
      flush-none (is_kind Kind_is.CoreFill) (passes Kind_is.CoreFill).back (hart_shape p) w.tags (dirty_of p w) in
      let same = open-same p w (took p w (Lock j)) p.config.cores (λ k. shut-opened p w j true [] d k) in
      omega arith;
}
took-corefills p w s (Open j) a r d = record {
  even =
      let same = open-same p w (took p w (Open j)) p.config.cores (λ k. shut-opened p w j false (dirty_of p w) d k) in
      omega arith;
}
took-corefills p w s (Flush j) a r d = record {
  even =
      let none : notes_that (is_kind Kind_is.CoreFill) (flushes_notes (hart_shape p) w.tags (line_list (flush_line p w j))) ≡ 0 =
      flush-none (is_kind Kind_is.CoreFill) (passes Kind_is.CoreFill).back (hart_shape p) w.tags (line_list (flush_line p w j)) in
      let same = open-same p w (took p w (Flush j)) p.config.cores
      (λ k. cond_both (eqb k j) (record (w.seats j) { due = (w.seats j).due - 1 }) (w.seats k) (λ (t : Seat). read_count p t.opening ≡ read_count p (w.seats k).opening)
      (λ e. ap (λ i. read_count p (w.seats i).opening) (sym (eqb-true k j e))) (λ _. refl)) in
      omega arith;
}
took-corefills p w s (Spec j) a r d = record {
  even =
      let there : (took p w (Spec j)).seats j ≡ record (w.seats j) { opening = one_more p w (w.seats j).opening } = seat_here j _ (w.seats j) in
      let more : length (line_list (filled_of p (w.seats j).opening)) + read_count p (w.seats j).opening ≡ 0 + read_count p ((took p w (Spec j)).seats j).opening =
      spec-reads p w (w.seats j).opening s.fresh r.1 ∙ ap (λ (t : Seat). read_count p t.opening) (sym there) ∙ zero_plus (read_count p ((took p w (Spec j)).seats j).opening) in
      let sums : length (line_list (filled_of p (w.seats j).opening)) + reads_open p w p.config.cores ≡ 0 + reads_open p (took p w (Spec j)) p.config.cores =
      open-one p w (took p w (Spec j)) p.config.cores j _ 0 (in_range p w j (w.seats j).opening (s.opens j) (spec-open p (w.seats j).opening r.1))
      (λ k ne. ap (λ b. read_count p (cond b (record (w.seats j) { opening = one_more p w (w.seats j).opening }) (w.seats k)).opening) ne) more in
      let notes : notes_that (is_kind Kind_is.CoreFill) (corefill_notes j (filled_of p (w.seats j).opening)) ≡ length (line_list (filled_of p (w.seats j).opening)) = corefill-count j (filled_of p (w.seats j).opening) in
      omega arith;
}
took-corefills p w s (Commit j n c) a r d = record {
  even =
      let none : notes_that (is_kind Kind_is.CoreFill) (commit_notes (hart_shape p) w.tags j (writes_of p (w.seats j).opening)) ≡ 0 =
      commit-none (hart_shape p) w.tags j (writes_of p (w.seats j).opening) in
      let there : (took p w (Commit j n c)).seats j ≡ seat_committed w j = seat_here j (seat_committed w j) _ in
      let sums : 0 + reads_open p w p.config.cores ≡ read_count p (w.seats j).opening + reads_open p (took p w (Commit j n c)) p.config.cores =
      open-one p w (took p w (Commit j n c)) p.config.cores j 0 (read_count p (w.seats j).opening)
      (in_range p w j (w.seats j).opening (s.opens j) (commit-open p n (w.seats j).opening a))
      (λ k ne. ap (λ b. read_count p (cond b (seat_committed w j) (record (w.seats k) { opening = told (changed p w (Commit j n c)) (w.seats k).opening })).opening) ne
      ∙ reads-told p (changed p w (Commit j n c)) (w.seats k).opening)
      (ended (read_count p (w.seats j).opening) _ (ap (λ (t : Seat). read_count p t.opening) there)) in
      omega arith;
}
took-corefills p w s (Back j n c) a r d = record {
  even =
      let there : (took p w (Back j n c)).seats j ≡ seat_back p w j = seat_here j (seat_back p w j) (w.seats j) in
      let sums : 0 + reads_open p w p.config.cores ≡ read_count p (w.seats j).opening + reads_open p (took p w (Back j n c)) p.config.cores =
      open-one p w (took p w (Back j n c)) p.config.cores j 0 (read_count p (w.seats j).opening)
      (in_range p w j (w.seats j).opening (s.opens j) (back-open p (w.seats j).opening r.1))
      (λ k ne. ap (λ b. read_count p (cond b (seat_back p w j) (w.seats k)).opening) ne)
      (ended (read_count p (w.seats j).opening) _ (ap (λ (t : Seat). read_count p t.opening) there)) in
      omega arith;
}
took-corefills p w s (Waits h) a r d = record { even = let same = open-same p w (took p w (Waits h)) p.config.cores (λ k. refl) in omega arith }
took-corefills p w s (Idle b) a r d = record { even = let same = open-same p w (took p w (Idle b)) p.config.cores (λ k. refl) in omega arith }
took-corefills p w s (Held b) a r d = record { even = let same = open-same p w (took p w (Held b)) p.config.cores (λ k. refl) in omega arith }
took-corefills p w s (Kern j) a r d = absurd a

took-merges : (p : Design) (w : World) (e : Entry) → notes_that (is_kind Kind_is.Merge) (notes_of p w e) ≡ writes_ended p w e
unfolding notes_of
took-merges p w (Step h) = use-none (is_kind Kind_is.Merge) passes_merge (hart_shape p) w.tags h (hart_use p w h)
took-merges p w (Commit j n c) = commit-merges (hart_shape p) w.tags j (writes_of p (w.seats j).opening)
took-merges p w (Lock j) = flush-none (is_kind Kind_is.Merge) passes_merge.back (hart_shape p) w.tags (dirty_of p w)
took-merges p w (Flush j) = flush-none (is_kind Kind_is.Merge) passes_merge.back (hart_shape p) w.tags (line_list (flush_line p w j))
took-merges p w (Spec j) = corefill-merges j (filled_of p (w.seats j).opening)
took-merges p w (Waits h) = refl
took-merges p w (Idle a) = refl
took-merges p w (Held a) = refl
took-merges p w (Open j) = refl
took-merges p w (Back j n c) = refl
took-merges p w (Kern j) = refl

-- ---- over all events

pub world-corefills : (p : Design) (w : World) (s : List Actor) → KeepsBounds p w → AllByRecursion (IsActorOf p) s
    → notes_that (is_kind Kind_is.CoreFill) (world_from p w s).notes + reads_open p w p.config.cores
    ≡ notes_that (is_kind Kind_is.CoreFill) w.notes + (sum_from (reads_ended p) p w s + reads_open p (world_from p w s) p.config.cores)
unfolding world_from happens
world-corefills p w [] so u = omega arith
world-corefills p w (a ∷ s) so u =
    let e : Entry = next p w a in
    let later = world-corefills p (took p w e) s (sound_happens p w a u.0 so) u.1 in
    let here = (took-corefills p w so e (next-allowed p w a) (next-ruled p w a u.0) (next-shut p w a)).even in
    let both = that-append (is_kind Kind_is.CoreFill) w.notes (notes_of p w e) in
    omega arith

pub world-merges : (p : Design) (w : World) (s : List Actor)
    → notes_that (is_kind Kind_is.Merge) (world_from p w s).notes ≡ notes_that (is_kind Kind_is.Merge) w.notes + sum_from (writes_ended p) p w s
unfolding world_from happens
world-merges p w [] = omega arith
world-merges p w (a ∷ s) =
    let e : Entry = next p w a in
    let later = world-merges p (took p w e) s in
    let here = took-merges p w e in
    let both = that-append (is_kind Kind_is.Merge) w.notes (notes_of p w e) in
    omega arith

pub none_open : (p : Design) (n : ℕ) → reads_open p (start_world p) n ≡ 0
none_open p zero = refl
none_open p (suc n) = let before = none_open p n in omega arith
