-- The Fresh law: an induction over events that looks at no instruction.
use Rattle.std.proofs.Common.{◌≡◌, ◌-◌, ℕ, suc, Bool, true, false, List, [], ◌∷◌, get_or, refl, sym, ap, ◌∙◌, subst, cond, eqb, ◌⊎◌, inl, inr, Option, Some, None}
use Rattle.std.proofs.lemmas.Bool.{false≢true, cond_both, eqb-true, or_cases, cases_Bool}
use Rattle.conda_base.specs.declared.Line.{Line}
use Rattle.conda_base.specs.Lines.{line_offset}
use Rattle.conda_base.specs.declared.actor.Actor.{Actor}
use Rattle.schedule_log.specs.declared.entry.Entry.{Entry}
use Rattle.schedule_log.specs.declared.entry.Entry.TheVariants.{Step, Waits, Idle, Held, Open, Lock, Spec, Commit, Back, Flush, Kern}
use Rattle.offload_calls.specs.declared.status.Core.{Core}
use Rattle.offload_calls.specs.declared.status.CoreStatus.TheVariants as Core_is
use Rattle.offload_calls.specs.State.{State}
use Rattle.offload_calls.specs.CoreActs.{core_runs}
use Rattle.line_memory.specs.Tags.{Tags, dirty_lines}
use Rattle.conda_base.specs.LineLists.{names, same_line, line_at}
use Rattle.try_runs.specs.Tries.{Try, try_act, try_over, acted, try_effect, with_some_line, next_outside}
use Rattle.try_runs.specs.Fills.{try_run, byte_of, new_line, fills_with}
use Rattle.conda_base.proofs.LineListLemmas.{line_eq, same_line-eq, names-with_new}
use Rattle.try_runs.proofs.TryFacts.{try_over-agree}
use Rattle.chip_laws.specs.Design.{Design, IsDesign, hart_shape}
use Rattle.chip_laws.specs.Rules.{World, Seat, Opening, try_of, is_conflict, dirty_of, next}
use Rattle.chip_laws.specs.Notes.{filled_line}
use Rattle.chip_laws.specs.Worlds.{flat_after, flat_line, changed, tags_after, copies_after, told, opening_of, seat_opened, seat_committed, seat_back, one_more, seat_after, took, happens, start_world, world_from, world}
use Rattle.chip_laws.specs.Fresh.{IsFresh, Fresh}
use Rattle.chip_laws.proofs.DesignFacts.{setup-fits}
use Rattle.chip_laws.proofs.TagFacts.{none_dirty, lock_cleans}
use Rattle.chip_laws.proofs.WorldFacts.{Kept, told-fits, same-fits, Allowed, next-allowed, memory_kept, kept, fills-fresh}
use Rattle.line_memory.specs.Access.{after_lock}
use Rattle.line_memory.specs.Copies.{has_same_owner}
use Rattle.chip_laws.specs.Sound.{OpenFits, FitsAt, KeepsFresh}

-- a clean line's copy is the flat one
copies_clean : (p : Design) (w : World) (f : State) (tags : Tags) (l : Line) → names (dirty_lines (hart_shape p) tags) l ≡ false
    → copies_after p w f tags l ≡ flat_line p f l
copies_clean p w f tags l h =
    ap (λ b. cond b (cond (has_same_owner (hart_shape p) w.tags tags l) (w.copies l) (flat_line p w.flat l)) (flat_line p f l)) h

-- no act was made yet, so no line was read
pub none_read : (p : Design) (o : Opening) → o.acts ≡ 0 → (try_of p o).reads ≡ []
unfolding try_over
none_read p o e = ap (λ n. (try_over p.image.code p.config.line_bytes (byte_of p.config.line_bytes o.fills) o.regs n).reads) e

-- an opening
opening-fits : (p : Design) (w v : World) (j : ℕ) (locked : Bool) (foreign : List Line) → (w.flat.cores j).status ≡ Core_is.Run
    → v.flat.cores j ≡ w.flat.cores j
    → ((l : Line) → names foreign l ≡ false → names (dirty_of p v) l ≡ false)
    → FitsAt p v j (seat_opened w j locked foreign).opening
opening-fits p w v j locked foreign run same clean =
    record {
      runs = ap (λ (y : Core). y.status) same ∙ run;
      regs = ap (λ (y : Core). y.regs) same;
      clean = clean;
      fresh = λ l out r. absurd (false≢true (sym (ap (λ ls. names ls l) (none_read p (opening_of w j locked foreign) refl)) ∙ r));
    }

-- ---- one more act of a try

-- the line that it fills wasn't read before
new_line-new : (ls : List Line) (x : Option Line) (n : Line) → new_line ls x ≡ Some n → names ls n ≡ false
new_line-new ls None n e = absurd (let k : None ≡ Some n = e in cc)
new_line-new ls (Some m) n e = go (names ls m) refl e
  where
    go : (b : Bool) → names ls m ≡ b → cond b None (Some m) ≡ Some n → names ls n ≡ false
    go true h e = absurd (let k : None ≡ Some n = e in cc)
    go false h e = let same : m ≡ n = cc in subst (λ k. names ls k ≡ false) same h

-- a fill of a line that wasn't read leaves those of lines that were
old_fill : (fills copies : Line → List ℕ) (ls : List Line) (x : Option Line) (l : Line) → ((n : Line) → x ≡ Some n → names ls n ≡ false)
    → names ls l ≡ true → fills l ≡ fills_with fills copies x l
old_fill fills copies ls None l new r = refl
old_fill fills copies ls (Some n) l new r =
    cond_both (same_line l n) (copies l) (fills l) (λ y. fills l ≡ y)
    (λ e. absurd (false≢true (sym (new n refl) ∙ subst (λ k. names ls k ≡ true) (line_eq l n e) r)))
    (λ _. refl)

-- a line read after the act was read before, or is the one that is filled
read_or_new : (ls : List Line) (x : Option Line) (l : Line) → names (with_some_line ls x) l ≡ true → (names ls l ≡ true) ⊎ (new_line ls x ≡ Some l)
read_or_new ls None l r = inl r
read_or_new ls (Some n) l r = go (names ls n) refl (or_cases (names ls l) (same_line n l) (sym (names-with_new ls n l) ∙ r))
  where
    go : (b : Bool) → names ls n ≡ b → (names ls l ≡ true) ⊎ (same_line n l ≡ true) → (names ls l ≡ true) ⊎ (cond b None (Some n) ≡ Some l)
    go b e (inl h) = inl h
    go true e (inr h) = inl (subst (λ k. names ls k ≡ true) (line_eq n l h) e)
    go false e (inr h) = inr (ap Some (line_eq n l h))

-- one more act of a try, whose first read of a line fills it with the copy
module _ (p : Design) (w : World) (o : Opening) (g : KeepsFresh p w) where
  abbrev before : Try
  before = try_of p o

  abbrev fills : Line → List ℕ
  fills = fills_with o.fills w.copies (filled_line p o)

  old : (l : Line) → names before.reads l ≡ true → o.fills l ≡ fills l
  old l r = old_fill o.fills w.copies before.reads (filled_line p o) l (new_line-new before.reads (next_outside p.image.code p.config.line_bytes before)) r

  -- so the acts before are the same over it
  same_before : before ≡ try_run p.image.code p.config.line_bytes o.regs fills o.acts
  same_before =
      try_over-agree p.image.code p.config.line_bytes (byte_of p.config.line_bytes o.fills) (byte_of p.config.line_bytes fills) o.regs o.acts
      g.setup.code g.setup.size
      (record { at = λ a low r. ap (λ xs. get_or xs (line_offset a p.config.line_bytes) 0) (old (line_at p.config.line_bytes a) r) })

  -- what was read with one more act
  pub more_reads : (core_runs before.core.status ≡ true → (try_run p.image.code p.config.line_bytes o.regs fills (suc o.acts)).reads
      ≡ with_some_line before.reads (next_outside p.image.code p.config.line_bytes before))
      × (core_runs before.core.status ≡ false → (try_run p.image.code p.config.line_bytes o.regs fills (suc o.acts)).reads ≡ before.reads)
  unfolding try_over try_act
  more_reads = (
    (λ run. sym (ap (λ (t : Try). (cond (core_runs t.core.status) (acted p.image.code p.config.line_bytes t (try_effect p.image.code (byte_of p.config.line_bytes fills) t)) t).reads) same_before)
        ∙ ap (λ b. (cond b (acted p.image.code p.config.line_bytes before (try_effect p.image.code (byte_of p.config.line_bytes fills) before)) before).reads) run),
    (λ run. sym (ap (λ (t : Try). (cond (core_runs t.core.status) (acted p.image.code p.config.line_bytes t (try_effect p.image.code (byte_of p.config.line_bytes fills) t)) t).reads) same_before)
        ∙ ap (λ b. (cond b (acted p.image.code p.config.line_bytes before (try_effect p.image.code (byte_of p.config.line_bytes fills) before)) before).reads) run),
  )

  -- each line read has its flat bytes, unless it is foreign
  fills_fresh : (j : ℕ) → OpenFits p w j o → (l : Line) → names o.foreign l ≡ false
      → (names before.reads l ≡ true) ⊎ (filled_line p o ≡ Some l) → fills l ≡ flat_line p w.flat l
  fills_fresh j f l out (inl r) = sym (old l r) ∙ f.fresh l out r
  fills_fresh j f l out (inr e) =
      ap (λ x. fills_with o.fills w.copies x l) e
      ∙ ap (λ b. cond b (w.copies l) (o.fills l)) (same_line-eq l l refl)
      ∙ g.copies l (f.clean l out)

  more-fits : (v : World) (j : ℕ) → OpenFits p w j o → Kept p w v j [] → FitsAt p v j (one_more p w (Some o))
  more-fits v j f kept =
      record {
        runs = ap (λ (y : Core). y.status) (kept.core f.runs) ∙ f.runs;
        regs = ap (λ (y : Core). y.regs) (kept.core f.runs) ∙ f.regs;
        clean = λ l out. kept.clean l refl (f.clean l out);
        fresh = λ l out r. fills_fresh j f l out (known l r (cases_Bool (core_runs before.core.status))) ∙ sym (kept.lines l refl);
      }
    where
      known : (l : Line) → names (try_run p.image.code p.config.line_bytes o.regs fills (suc o.acts)).reads l ≡ true
          → (core_runs before.core.status ≡ true) ⊎ (core_runs before.core.status ≡ false)
          → (names before.reads l ≡ true) ⊎ (filled_line p o ≡ Some l)
      known l r (inl run) =
          read_or_new before.reads (next_outside p.image.code p.config.line_bytes before) l (sym (ap (λ ls. names ls l) (more_reads.0 run)) ∙ r)
      known l r (inr run) = inl (sym (ap (λ ls. names ls l) (more_reads.1 run)) ∙ r)

one_more-fits : (p : Design) (w v : World) (j : ℕ) (x : Option Opening) → KeepsFresh p w → FitsAt p w j x → Kept p w v j [] → FitsAt p v j (one_more p w x)
one_more-fits p w v j None g f k = tt
one_more-fits p w v j (Some o) g f k = more-fits p w o g v j f k

-- every core's try fits after an entry
opens_after : (p : Design) (w : World) → KeepsFresh p w → (e : Entry) → Allowed p w e → (k : ℕ)
    → FitsAt p (took p w e) k (seat_after p w (flat_after p w.flat e) e k).opening
opens_after p w g (Step h) a k = told-fits p w (took p w (Step h)) k (changed p w (Step h)) (w.seats k).opening (kept p w g (Step h) a k tt) (g.opens k)
opens_after p w g (Waits h) a k = same-fits p w (took p w (Waits h)) k (w.seats k).opening (kept p w g (Waits h) a k tt) (g.opens k)
opens_after p w g (Idle b) a k = same-fits p w (took p w (Idle b)) k (w.seats k).opening (kept p w g (Idle b) a k tt) (g.opens k)
opens_after p w g (Held b) a k = same-fits p w (took p w (Held b)) k (w.seats k).opening (kept p w g (Held b) a k tt) (g.opens k)
opens_after p w g (Open j) a k =
    cond_both (eqb k j) (seat_opened w j false (dirty_of p w)) (w.seats k) (λ (s : Seat). FitsAt p (took p w (Open j)) k s.opening)
    (λ e. subst (λ i. FitsAt p (took p w (Open j)) i (seat_opened w j false (dirty_of p w)).opening) (sym (eqb-true k j e))
    (opening-fits p w (took p w (Open j)) j false (dirty_of p w) a refl (λ l h. h)))
    (λ _. same-fits p w (took p w (Open j)) k (w.seats k).opening (kept p w g (Open j) a k tt) (g.opens k))
opens_after p w g (Lock j) a k =
    cond_both (eqb k j) (seat_opened w j true []) (w.seats k) (λ (s : Seat). FitsAt p (took p w (Lock j)) k s.opening)
    (λ e. subst (λ i. FitsAt p (took p w (Lock j)) i (seat_opened w j true []).opening) (sym (eqb-true k j e))
    (opening-fits p w (took p w (Lock j)) j true [] a refl
    (λ l h. none_dirty (hart_shape p) (after_lock w.tags) l (λ h s u v. lock_cleans w.tags l h s))))
    (λ _. same-fits p w (took p w (Lock j)) k (w.seats k).opening (kept p w g (Lock j) a k tt) (g.opens k))
opens_after p w g (Spec j) a k =
    cond_both (eqb k j) (record (w.seats j) { opening = one_more p w (w.seats j).opening }) (w.seats k) (λ (s : Seat). FitsAt p (took p w (Spec j)) k s.opening)
    (λ e. subst (λ i. FitsAt p (took p w (Spec j)) i (one_more p w (w.seats j).opening)) (sym (eqb-true k j e))
    (one_more-fits p w (took p w (Spec j)) j (w.seats j).opening g (g.opens j) (kept p w g (Spec j) a j tt)))
    (λ _. same-fits p w (took p w (Spec j)) k (w.seats k).opening (kept p w g (Spec j) a k tt) (g.opens k))
opens_after p w g (Commit j n c) a k =
    cond_both (eqb k j) (seat_committed w j) (record (w.seats k) { opening = told (changed p w (Commit j n c)) (w.seats k).opening })
    (λ (s : Seat). FitsAt p (took p w (Commit j n c)) k s.opening) (λ _. tt)
    (λ ne. told-fits p w (took p w (Commit j n c)) k (changed p w (Commit j n c)) (w.seats k).opening (kept p w g (Commit j n c) a k ne) (g.opens k))
opens_after p w g (Back j n c) a k =
    cond_both (eqb k j) (seat_back p w j) (w.seats k)
    (λ (s : Seat). FitsAt p (took p w (Back j n c)) k s.opening) (λ _. tt)
    (λ _. same-fits p w (took p w (Back j n c)) k (w.seats k).opening (kept p w g (Back j n c) a k tt) (g.opens k))
opens_after p w g (Flush j) a k =
    cond_both (eqb k j) (record (w.seats j) { due = (w.seats j).due - 1 }) (w.seats k) (λ (s : Seat). FitsAt p (took p w (Flush j)) k s.opening)
    (λ e. subst (λ i. FitsAt p (took p w (Flush j)) i (w.seats j).opening) (sym (eqb-true k j e))
    (same-fits p w (took p w (Flush j)) j (w.seats j).opening (kept p w g (Flush j) a j tt) (g.opens j)))
    (λ _. same-fits p w (took p w (Flush j)) k (w.seats k).opening (kept p w g (Flush j) a k tt) (g.opens k))
opens_after p w g (Kern j) a k = absurd a

pub took-good : (p : Design) (w : World) → KeepsFresh p w → (e : Entry) → Allowed p w e → KeepsFresh p (took p w e)
took-good p w g e a =
    record {
      setup = g.setup;
      long = memory_kept p w g e a ∙ g.long;
      copies = copies_clean p w (flat_after p w.flat e) (tags_after p w e);
      opens = opens_after p w g e a;
    }

pub happens-good : (p : Design) (w : World) (a : Actor) → KeepsFresh p w → KeepsFresh p (happens p w a)
unfolding happens
happens-good p w a g = took-good p w g (next p w a) (next-allowed p w a)

pub world-good : (p : Design) (w : World) (s : List Actor) → KeepsFresh p w → KeepsFresh p (world_from p w s)
unfolding world_from
world-good p w [] g = g
world-good p w (a ∷ s) g = world-good p (happens p w a) s (happens-good p w a g)

pub start-good : (p : Design) → IsDesign p → KeepsFresh p (start_world p)
start-good p is = record { setup = setup-fits p is; long = refl; copies = λ l _. refl; opens = λ j. tt }

-- a try that doesn't conflict read fresh lines
pub fits-fresh : (p : Design) (w : World) (j : ℕ) (o : Opening) → OpenFits p w j o → is_conflict p o ≡ false → IsFresh p w j o
fits-fresh p w j o f h = record { lines = fills-fresh p w j o f h; runs = f.runs; regs = f.regs }

pub fresh : Fresh
fresh p s j o is e h =
    let g : KeepsFresh p (world p s) = world-good p (start_world p) s (start-good p is) in
    fits-fresh p (world p s) j o (subst (FitsAt p (world p s) j) e (g.opens j)) h
