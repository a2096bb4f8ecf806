-- The four facts of one entry.
use Rattle.std.proofs.Common.{◌≡◌, ℕ, Bool, true, false, List, [], ◌++◌, length, refl, sym, ap, ◌∙◌, subst, cond, eqb, not, Option, Some, None}
use Rattle.std.proofs.lemmas.Bool.{false≢true, cond_both, or_parts, false_from_ne_true}
use Rattle.conda_base.specs.declared.Line.{Line}
use Rattle.conda_base.specs.declared.actor.Actor.{Actor}
use Rattle.conda_base.specs.declared.actor.Actor.TheVariants as The
use Rattle.schedule_log.specs.declared.entry.Entry.{Entry}
use Rattle.schedule_log.specs.declared.entry.Entry.TheVariants.{Step, Waits, Idle, Held, Open, Lock, Spec, Commit, Back, Flush, Kern}
use Rattle.offload_calls.specs.declared.status.Core.{Core}
use Rattle.offload_calls.specs.declared.status.CoreStatus.{CoreStatus}
use Rattle.offload_calls.specs.declared.status.CoreStatus.TheVariants as Core_is
use Rattle.offload_calls.specs.State.{status_of}
use Rattle.offload_calls.specs.HartAct.{hart_runs, waits_next}
use Rattle.offload_calls.specs.CoreActs.{core_runs, core_acts}
use Rattle.offload_calls.proofs.HartFacts.{step-fits}
use Rattle.conda_base.specs.LineLists.{names}
use Rattle.try_runs.specs.Tries.{Try, writes}
use Rattle.try_runs.specs.Fills.{try_run}
use Rattle.try_runs.specs.Serial.{AreFresh, try_in}
use Rattle.conda_base.proofs.LineListLemmas.{names-append}
use Rattle.try_runs.proofs.HartLines.{step_lines}
use Rattle.try_runs.proofs.PortionFacts.{PortionFits, portion-fits}
use Rattle.chip_laws.specs.Design.{Design, setup_of, hart_shape}
use Rattle.chip_laws.specs.Rules.{World, Opening, try_of, opening_end, writes_of, is_conflict, is_locked_below, dirty_of, flush_line, is_flushing, ruling, core_entry, next}
use Rattle.chip_laws.specs.Notes.{hart_use}
use Rattle.chip_laws.specs.Worlds.{flat_after, flat_line, changed, tags_after, told, took}
use Rattle.chip_laws.specs.Sound.{OpenFits, FitsAt, KeepsFresh}
use Rattle.bloom_sig.specs.Images.{is_meeting}
use Rattle.bloom_sig.proofs.HitLemmas.{meeting-listed}
use Rattle.chip_laws.proofs.TagFacts.{dirty_none, none_dirty, use_keeps, commit_keeps, lock_cleans, flush_keeps}
use Rattle.line_memory.specs.Tags.{dirty_lines}
use Rattle.chip_laws.specs.Uses.{after_use, flush_after}
use Rattle.line_memory.specs.Access.{after_commit, after_lock}

-- from one world to a later one only these lines changed, and core k stayed where it was Run
pub record Kept (d : Design) (w v : World) (k : ℕ) (ls : List Line) : Type 0 where
  pub lines : (l : Line) → names ls l ≡ false → flat_line d v.flat l ≡ flat_line d w.flat l
  pub clean : (l : Line) → names ls l ≡ false → names (dirty_of d w) l ≡ false → names (dirty_of d v) l ≡ false
  pub core : (w.flat.cores k).status ≡ Core_is.Run → v.flat.cores k ≡ w.flat.cores k

pub told-fits : (d : Design) (w v : World) (k : ℕ) (ls : List Line) (x : Option Opening) → Kept d w v k ls → FitsAt d w k x → FitsAt d v k (told ls x)
told-fits d w v k ls None kept f = tt
told-fits d w v k ls (Some o) kept f =
    record {
      runs = ap (λ (y : Core). y.status) (kept.core f.runs) ∙ f.runs;
      regs = ap (λ (y : Core). y.regs) (kept.core f.runs) ∙ f.regs;
      clean = λ l out. kept.clean l (parts l out).1 (f.clean l (parts l out).0);
      fresh = λ l out r. f.fresh l (parts l out).0 r ∙ sym (kept.lines l (parts l out).1);
    }
  where
    parts : (l : Line) → names (o.foreign ++ ls) l ≡ false → (names o.foreign l ≡ false) × (names ls l ≡ false)
    parts l out = or_parts (names o.foreign l) (names ls l) (sym (names-append o.foreign ls l) ∙ out)

pub same-fits : (d : Design) (w v : World) (k : ℕ) (x : Option Opening) → Kept d w v k [] → FitsAt d w k x → FitsAt d v k x
same-fits d w v k None kept f = tt
same-fits d w v k (Some o) kept f =
    record {
      runs = ap (λ (y : Core). y.status) (kept.core f.runs) ∙ f.runs;
      regs = ap (λ (y : Core). y.regs) (kept.core f.runs) ∙ f.regs;
      clean = λ l out. kept.clean l refl (f.clean l out);
      fresh = λ l out r. f.fresh l out r ∙ sym (kept.lines l refl);
    }

-- lists that don't meet have no line in common
pub apart : (bits : ℕ) (lines others : List Line) (l : Line) → is_meeting bits lines others ≡ false → names lines l ≡ true → names others l ≡ false
apart bits lines others l none here = false_from_ne_true _ (λ there. false≢true (sym none ∙ meeting-listed bits lines others l here there))

-- ---- what the rules of entries allow

abbrev pub CommitsAt : Design → ℕ → Option Opening → Type 0
CommitsAt d n None = ⊥
CommitsAt d n (Some o) = (n ≡ o.acts) × (is_conflict d o ≡ false)

abbrev pub waits_in : Design → World → ℕ → Bool
waits_in d w h = waits_next d.image.code (status_of d.config.cores w.flat.cores) (w.flat.harts h).regs

abbrev pub Allowed : Design → World → Entry → Type 0
Allowed d w (Open j) = (w.flat.cores j).status ≡ Core_is.Run
Allowed d w (Lock j) = (w.flat.cores j).status ≡ Core_is.Run
Allowed d w (Commit j n e) = CommitsAt d n (w.seats j).opening
Allowed d w (Step h) = waits_in d w h ≡ false
Allowed d w (Waits h) = Unit {0}
Allowed d w (Idle a) = Unit {0}
Allowed d w (Held a) = Unit {0}
Allowed d w (Spec j) = Unit {0}
Allowed d w (Back j n e) = Unit {0}
Allowed d w (Flush j) = Unit {0}
Allowed d w (Kern j) = ⊥

pub runs_from : (s : CoreStatus) → not (core_runs s) ≡ false → s ≡ Core_is.Run
runs_from Core_is.Idle h = cc
runs_from Core_is.Run h = refl
runs_from (Core_is.Done v) h = cc
runs_from (Core_is.Trapped t) h = cc

core_entry-allowed : (d : Design) (w : World) (j : ℕ) → (w.flat.cores j).status ≡ Core_is.Run → (x : Option Opening) → (w.seats j).opening ≡ x
    → Allowed d w (core_entry d w j x)
core_entry-allowed d w j run None e =
    cond_both (is_flushing d w j) (Flush j) (cond (eqb (w.seats j).backs d.config.retries) (Lock j) (Open j)) (Allowed d w)
    (λ _. tt) (λ _. cond_both (eqb (w.seats j).backs d.config.retries) (Lock j) (Open j) (Allowed d w) (λ _. run) (λ _. run))
core_entry-allowed d w j run (Some o) e = go (opening_end d o)
  where
    go : (cause : Option ℕ) → Allowed d w (ruling d j o cause)
    go None = tt
    go (Some cause) =
        cond_both (is_conflict d o) (Back j o.acts cause) (Commit j o.acts cause) (Allowed d w)
        (λ _. tt) (λ h. subst (CommitsAt d o.acts) (sym e) (refl, h))

pub next-allowed : (d : Design) (w : World) (a : Actor) → Allowed d w (next d w a)
unfolding next
next-allowed d w (The.Hart h) =
    cond_both (not (hart_runs (w.flat.harts h).status)) _ _ (Allowed d w) (λ _. tt)
    (λ _. cond_both (is_locked_below w (λ k. false) d.config.cores) _ _ (Allowed d w) (λ _. tt)
    (λ _. cond_both (waits_in d w h) _ _ (Allowed d w) (λ _. tt) (λ e. e)))
next-allowed d w (The.Core j) =
    cond_both (not (core_runs (w.flat.cores j).status)) _ _ (Allowed d w) (λ _. tt)
    (λ n. cond_both (is_locked_below w (λ k. eqb k j) d.config.cores) _ _ (Allowed d w) (λ _. tt)
    (λ _. core_entry-allowed d w j (runs_from (w.flat.cores j).status n) (w.seats j).opening refl))

-- ---- the facts on one entry

-- the try of an opening is the one that its core makes of the fills now
pub try_now : (d : Design) (w : World) (j n : ℕ) (o : Opening) → OpenFits d w j o → n ≡ o.acts → try_in (setup_of d) w.flat j o.fills n ≡ try_of d o
try_now d w j n o f same = λ i. try_run d.image.code d.config.line_bytes (f.regs i) o.fills (same i)

-- a try that doesn't conflict has fresh fills
pub fills-fresh : (d : Design) (w : World) (j : ℕ) (o : Opening) → OpenFits d w j o → is_conflict d o ≡ false
    → AreFresh (setup_of d) w.flat o.fills (try_of d o).reads
fills-fresh d w j o f clear = λ l r. f.fresh l (apart d.config.sig_bits (try_of d o).reads o.foreign l clear r) r

pub commit-fits : (d : Design) (w : World) (j n : ℕ) (x : Option Opening) → KeepsFresh d w → FitsAt d w j x → CommitsAt d n x
    → PortionFits (setup_of d) w.flat (core_acts (setup_of d) w.flat j n) j (writes_of d x)
commit-fits d w j n None g f a = absurd a
commit-fits d w j n (Some o) g f a =
    let same : try_in (setup_of d) w.flat j o.fills n ≡ try_of d o = try_now d w j n o f a.0 in
    subst (λ (t : Try). PortionFits (setup_of d) w.flat (core_acts (setup_of d) w.flat j n) j (writes d.config.line_bytes t)) same
    (portion-fits (setup_of d) w.flat j n o.fills g.setup g.long f.runs
    (subst (λ (t : Try). AreFresh (setup_of d) w.flat o.fills t.reads) (sym same) (fills-fresh d w j o f a.1)))

-- BytesStay: only changed lines have other bytes after an entry
pub lines_kept : (d : Design) (w : World) → KeepsFresh d w → (e : Entry) → Allowed d w e → (l : Line) → names (changed d w e) l ≡ false
    → flat_line d (flat_after d w.flat e) l ≡ flat_line d w.flat l
lines_kept d w g (Step h) a l out = step_lines (setup_of d) w.flat h l g.setup out
lines_kept d w g (Commit j n e) a l out = (commit-fits d w j n (w.seats j).opening g (g.opens j) a).same l out
lines_kept d w g (Waits h) a l out = refl
lines_kept d w g (Idle b) a l out = refl
lines_kept d w g (Held b) a l out = refl
lines_kept d w g (Open j) a l out = refl
lines_kept d w g (Lock j) a l out = refl
lines_kept d w g (Spec j) a l out = refl
lines_kept d w g (Back j n e) a l out = refl
lines_kept d w g (Flush j) a l out = refl
lines_kept d w g (Kern j) a l out = absurd a

pub memory_kept : (d : Design) (w : World) → KeepsFresh d w → (e : Entry) → Allowed d w e → length (flat_after d w.flat e).memory ≡ length w.flat.memory
memory_kept d w g (Step h) a = (step-fits (setup_of d) w.flat h g.setup.code g.long).long
memory_kept d w g (Commit j n e) a = (commit-fits d w j n (w.seats j).opening g (g.opens j) a).long
memory_kept d w g (Waits h) a = refl
memory_kept d w g (Idle b) a = refl
memory_kept d w g (Held b) a = refl
memory_kept d w g (Open j) a = refl
memory_kept d w g (Lock j) a = refl
memory_kept d w g (Spec j) a = refl
memory_kept d w g (Back j n e) a = refl
memory_kept d w g (Flush j) a = refl
memory_kept d w g (Kern j) a = absurd a

-- DirtyStays: a line that an entry does not change is dirty after it only where it was
pub clean_kept : (d : Design) (w : World) (e : Entry) (l : Line) → names (changed d w e) l ≡ false → names (dirty_of d w) l ≡ false
    → names (dirty_lines (hart_shape d) (tags_after d w e)) l ≡ false
clean_kept d w (Step h) l out n =
    none_dirty (hart_shape d) (after_use (hart_shape d) w.tags h (hart_use d w h)) l
    (λ k s u v. use_keeps (hart_shape d) w.tags h (hart_use d w h) l k s out (dirty_none (hart_shape d) w.tags l k s n u v))
clean_kept d w (Commit j m e) l out n =
    none_dirty (hart_shape d) (after_commit w.tags (writes_of d (w.seats j).opening)) l
    (λ k s u v. commit_keeps w.tags (writes_of d (w.seats j).opening) l k s (dirty_none (hart_shape d) w.tags l k s n u v))
clean_kept d w (Lock j) l out n = none_dirty (hart_shape d) (after_lock w.tags) l (λ k s u v. lock_cleans w.tags l k s)
clean_kept d w (Flush j) l out n =
    none_dirty (hart_shape d) (flush_after w.tags (flush_line d w j)) l
    (λ k s u v. flush_keeps w.tags (flush_line d w j) l k s (dirty_none (hart_shape d) w.tags l k s n u v))
clean_kept d w (Waits h) l out n = n
clean_kept d w (Idle b) l out n = n
clean_kept d w (Held b) l out n = n
clean_kept d w (Open j) l out n = n
clean_kept d w (Spec j) l out n = n
clean_kept d w (Back j m e) l out n = n
clean_kept d w (Kern j) l out n = n

-- CoreStays: no entry but a commit of core k changes it where it is Run
abbrev pub NotCommitOf : ℕ → Entry → Type 0
NotCommitOf k (Commit j n e) = eqb k j ≡ false
NotCommitOf k other = Unit {0}

pub core_kept : (d : Design) (w : World) → KeepsFresh d w → (e : Entry) → Allowed d w e → (k : ℕ) → NotCommitOf k e
    → (w.flat.cores k).status ≡ Core_is.Run → (flat_after d w.flat e).cores k ≡ w.flat.cores k
core_kept d w g (Step h) a k n run = (step-fits (setup_of d) w.flat h g.setup.code g.long).running k run
core_kept d w g (Commit j m e) a k n run = (commit-fits d w j m (w.seats j).opening g (g.opens j) a).others k n
core_kept d w g (Waits h) a k n run = refl
core_kept d w g (Idle b) a k n run = refl
core_kept d w g (Held b) a k n run = refl
core_kept d w g (Open j) a k n run = refl
core_kept d w g (Lock j) a k n run = refl
core_kept d w g (Spec j) a k n run = refl
core_kept d w g (Back j m e) a k n run = refl
core_kept d w g (Flush j) a k n run = refl
core_kept d w g (Kern j) a k n run = absurd a

pub kept : (d : Design) (w : World) → KeepsFresh d w → (e : Entry) → Allowed d w e → (k : ℕ) → NotCommitOf k e → Kept d w (took d w e) k (changed d w e)
kept d w g e a k n =
    record {
      lines = lines_kept d w g e a;
      clean = clean_kept d w e;
      core = core_kept d w g e a k n;
    }
