-- What every core keeps.
use Rattle.std.proofs.Common.{◌≡◌, ◌≢◌, ◌<◌, ◌≤◌, ltb, length, set, ◌⊎◌, inl, inr, ℕ, zero, suc, false, List, [], ◌∷◌, fold, refl, sym, ap, ◌∙◌, subst, arith, Some, None}
use Rattle.std.proofs.lemmas.Option.{same_Some}
use Rattle.std.proofs.lemmas.Bool.{false≢true, cond-true, cases_eq, lt-ltb}
use Rattle.std.proofs.lemmas.List.{length-set, length-map}
use Rattle.std.specs.Prelude.{slice_get, slice_index_or}
use Rattle.conda_base.specs.declared.Line.{Line}
use Rattle.chip_config.specs.Settings.{Settings}
use Rattle.rv32_hart.specs.declared.regs.Regs.{Regs}
use Rattle.rv32_hart.specs.Code.{CodeView}
use Rattle.bloom_sig.specs.Signatures.{Sets, inserted, joined}
use Rattle.offload_calls.specs.declared.status.CoreStatus.{CoreStatus}
use Rattle.fallback_lock.specs.Locks.{Counts, backs_of, with_backs}
use Rattle.portion_ctl.specs.Views.{OpenView}
use Rattle.conflict_resolve.specs.InRange.{IsPortion}
use Rattle.chip_core.specs.declared.stage.Stage.{Stage}
use Rattle.chip_core.specs.declared.stage.Stage.TheVariants as Stage_is
use Rattle.chip_core.specs.Fits.{is_locked_core, is_locked_open, FitsTry, FitsCore, FitCores}
use Rattle.chip_core.specs.Steps.{told_portion, all_told, started, with_started}
use Rattle.chip_core.specs.Rulings.{joined_portion, all_joined}
use Rattle.chip_core.proofs.ListFacts.{slice_get-set_same, slice_get-set_other}
use Rattle.chip_core.proofs.CoreFacts.{bits-told, stands-foreign}
use Rattle.chip_core.proofs.JoinFacts.{map-found}

-- ---- portions that are told of lines

portion-foreign : (code : CodeView) (s : OpenView) (other : Sets) → other.bits ≡ s.foreign_set.bits → IsPortion code s → IsPortion code (record s { foreign_set = other })
portion-foreign code s other bits (p, stands) = (p, stands-foreign code s other p bits stands)

-- an open try that isn't under the lock fits, whatever is foreign to it
try-foreign : (c : Settings) (code : CodeView) (j : ℕ) (s : OpenView) (other : Sets) → other.bits ≡ s.foreign_set.bits → s.locked ≡ false
    → FitsTry c code j s → FitsTry c code j (record s { foreign_set = other })
try-foreign c code j s other bits free f = record {
  core = f.core;
  limits = f.limits;
  portion = portion-foreign code s other bits f.portion;
  alone = λ on. absurd (false≢true (sym free ∙ on));
}

told-fits : (c : Settings) (code : CodeView) (j : ℕ) (lines : List Line) (p : Stage) → is_locked_open p ≡ false → FitsCore c code j p → FitsCore c code j (told_portion lines p)
told-fits c code j lines (Stage_is.Ready s) free f = f
told-fits c code j lines (Stage_is.Open s) free f = try-foreign c code j s (fold inserted s.foreign_set lines) (bits-told s.foreign_set lines) free f
told-fits c code j lines (Stage_is.Flushing s) free f = f
told-fits c code j lines Stage_is.Moved free f = f

joined-fits : (c : Settings) (code : CodeView) (j : ℕ) (sets : Sets) (p : Stage) → is_locked_open p ≡ false → FitsCore c code j p → FitsCore c code j (joined_portion sets p)
joined-fits c code j sets (Stage_is.Ready s) free f = f
joined-fits c code j sets (Stage_is.Open s) free f = try-foreign c code j s (joined s.foreign_set sets) refl free f
joined-fits c code j sets (Stage_is.Flushing s) free f = f
joined-fits c code j sets Stage_is.Moved free f = f

told-locked-open : (lines : List Line) (p : Stage) → is_locked_open (told_portion lines p) ≡ is_locked_open p
told-locked-open lines (Stage_is.Ready s) = refl
told-locked-open lines (Stage_is.Open s) = refl
told-locked-open lines (Stage_is.Flushing s) = refl
told-locked-open lines Stage_is.Moved = refl

joined-locked-open : (sets : Sets) (p : Stage) → is_locked_open (joined_portion sets p) ≡ is_locked_open p
joined-locked-open sets (Stage_is.Ready s) = refl
joined-locked-open sets (Stage_is.Open s) = refl
joined-locked-open sets (Stage_is.Flushing s) = refl
joined-locked-open sets Stage_is.Moved = refl

pub all-told-fit : (c : Settings) (code : CodeView) (stands : List CoreStatus) (held : List Stage) (lock : Counts) (lines : List Line)
    → lock.locked ≡ None → FitCores c code stands held lock → FitCores c code stands (all_told lines held) lock
all-told-fit c code stands held lock lines none f = record {
  statuses = f.statuses;
  portions = length-map held (told_portion lines) ∙ f.portions;
  counts = f.counts;
  few = f.few;
  each = λ j p at. each j p (map-found (told_portion lines) held j p at);
  locked = λ j p at. locked j p (map-found (told_portion lines) held j p at);
}
  where
    each : (j : ℕ) (p : Stage) → (x : Stage) × (slice_get held j ≡ Some x) × (p ≡ told_portion lines x) → FitsCore c code j p
    each j p (x, was, is) = subst (FitsCore c code j) (sym is) (told-fits c code j lines x
        (sym (f.locked j x was) ∙ ap (λ y. is_locked_core y j) none) (f.each j x was))

    locked : (j : ℕ) (p : Stage) → (x : Stage) × (slice_get held j ≡ Some x) × (p ≡ told_portion lines x) → is_locked_core lock.locked j ≡ is_locked_open p
    locked j p (x, was, is) = f.locked j x was ∙ sym (ap is_locked_open is ∙ told-locked-open lines x)

-- ---- a launch

started-fits : (c : Settings) (code : CodeView) (j : ℕ) (regs : Regs) (p : Stage) → FitsCore c code j p → FitsCore c code j (started regs p)
started-fits c code j regs (Stage_is.Ready s) f = f
started-fits c code j regs (Stage_is.Open s) f = f
started-fits c code j regs (Stage_is.Flushing s) f = f
started-fits c code j regs Stage_is.Moved f = f

started-locked-open : (regs : Regs) (p : Stage) → is_locked_open (started regs p) ≡ is_locked_open p
started-locked-open regs (Stage_is.Ready s) = refl
started-locked-open regs (Stage_is.Open s) = refl
started-locked-open regs (Stage_is.Flushing s) = refl
started-locked-open regs Stage_is.Moved = refl

pub get-inside : {A : Type 0} (xs : List A) (i : ℕ) (d : A) → i < length xs → slice_get xs i ≡ Some (slice_index_or xs i d)
get-inside [] i d u = absurd (omega (arith, u))
get-inside (x ∷ xs) zero d u = refl
get-inside (x ∷ xs) (suc i) d u = get-inside xs i d (omega (arith, u))

-- a count that is changed to one that isn't too many
pub few-set : (lock : Counts) (j n : ℕ) → n ≤ lock.retries → ((k : ℕ) → backs_of lock k ≤ lock.retries) → (k : ℕ) → slice_index_or (set lock.backs j n) k 0 ≤ lock.retries
few-set lock j n u few k = go lock.backs j k few
  where
    go : (xs : List ℕ) (j k : ℕ) → ((i : ℕ) → slice_index_or xs i 0 ≤ lock.retries) → slice_index_or (set xs j n) k 0 ≤ lock.retries
    go [] j k all = all k
    go (x ∷ xs) zero zero all = u
    go (x ∷ xs) zero (suc k) all = all (suc k)
    go (x ∷ xs) (suc j) zero all = all 0
    go (x ∷ xs) (suc j) (suc k) all = go xs j k (λ i. all (suc i))

-- one portion is another, and the lock stays but for counts
pub set-fits : (c : Settings) (code : CodeView) (stands now : List CoreStatus) (old new : List Stage) (lock after : Counts) (j : ℕ) (p : Stage)
    → FitCores c code stands old lock → length now ≡ length stands → length new ≡ length old → length after.backs ≡ length lock.backs
    → ((k : ℕ) → backs_of after k ≤ after.retries) → slice_get new j ≡ Some p → FitsCore c code j p → is_locked_core after.locked j ≡ is_locked_open p
    → ((k : ℕ) → k ≢ j → is_locked_core after.locked k ≡ is_locked_core lock.locked k)
    → ((k : ℕ) (q : Stage) → k ≢ j → slice_get new k ≡ Some q → (x : Stage) × (slice_get old k ≡ Some x) × (FitsCore c code k x → FitsCore c code k q) × (is_locked_open q ≡ is_locked_open x))
    → FitCores c code now new after
set-fits c code stands now old new lock after j p f stat many counts few here fits locked_here locked others = record {
  statuses = stat ∙ f.statuses;
  portions = many ∙ f.portions;
  counts = counts ∙ f.counts;
  few = few;
  each = λ k q at. each k q at (cases_eq k j);
  locked = λ k q at. lock_at k q at (cases_eq k j);
}
  where
    each : (k : ℕ) (q : Stage) → slice_get new k ≡ Some q → ((k ≡ j) ⊎ (k ≡ j → ⊥)) → FitsCore c code k q
    each k q at (inl same) = subst (λ i. FitsCore c code i q) (sym same)
        (subst (FitsCore c code j) (same_Some _ _ (sym here ∙ subst (λ i. slice_get new i ≡ Some q) same at)) fits)
    each k q at (inr ne) = let x = others k q ne at in x.2 (f.each k x.0 x.1)

    lock_at : (k : ℕ) (q : Stage) → slice_get new k ≡ Some q → ((k ≡ j) ⊎ (k ≡ j → ⊥)) → is_locked_core after.locked k ≡ is_locked_open q
    lock_at k q at (inl same) = subst (λ i. is_locked_core after.locked i ≡ is_locked_open q) (sym same)
        (locked_here ∙ ap is_locked_open (same_Some _ _ (sym here ∙ subst (λ i. slice_get new i ≡ Some q) same at)))
    lock_at k q at (inr ne) = let x = others k q ne at in locked k ne ∙ f.locked k x.0 x.1 ∙ sym x.3

-- other portions that stay
pub stay-others : (c : Settings) (code : CodeView) (j : ℕ) (old new : List Stage) → ((k : ℕ) → k ≢ j → slice_get new k ≡ slice_get old k)
    → (k : ℕ) (q : Stage) → k ≢ j → slice_get new k ≡ Some q → (x : Stage) × (slice_get old k ≡ Some x) × (FitsCore c code k x → FitsCore c code k q) × (is_locked_open q ≡ is_locked_open x)
stay-others c code j old new same k q ne at = (q, sym (same k ne) ∙ at, (λ g. g), refl)

-- other portions that are told of a commit
pub join-others : (c : Settings) (code : CodeView) (j : ℕ) (sets : Sets) (old new : List Stage) → ((k : ℕ) → k ≢ j → slice_get new k ≡ slice_get (all_joined sets old) k)
    → ((k : ℕ) (x : Stage) → k ≢ j → slice_get old k ≡ Some x → is_locked_open x ≡ false)
    → (k : ℕ) (q : Stage) → k ≢ j → slice_get new k ≡ Some q → (x : Stage) × (slice_get old k ≡ Some x) × (FitsCore c code k x → FitsCore c code k q) × (is_locked_open q ≡ is_locked_open x)
join-others c code j sets old new same free k q ne at = go (map-found (joined_portion sets) old k q (sym (same k ne) ∙ at))
  where
    go : (x : Stage) × (slice_get old k ≡ Some x) × (q ≡ joined_portion sets x)
        → (x : Stage) × (slice_get old k ≡ Some x) × (FitsCore c code k x → FitsCore c code k q) × (is_locked_open q ≡ is_locked_open x)
    go (x, was, is) = (x, was, (λ g. subst (FitsCore c code k) (sym is) (joined-fits c code k sets x (free k x ne was) g)), ap is_locked_open is ∙ joined-locked-open sets x)

pub launch-fits : (c : Settings) (code : CodeView) (stands now : List CoreStatus) (held : List Stage) (lock : Counts) (j : ℕ) (regs : Regs) → j < length held
    → length now ≡ length stands → FitCores c code stands held lock → FitCores c code now (with_started held j regs) (with_backs lock j 0)
launch-fits c code stands now held lock j regs u stat f =
    set-fits c code stands now held (with_started held j regs) lock (with_backs lock j 0) j (started regs p) f stat
    (length-set held j (started regs p)) (length-set lock.backs j 0) (few-set lock j 0 (omega arith) f.few)
    (slice_get-set_same held j (started regs p) ∙ cond-true (ltb j (length held)) _ _ (lt-ltb j (length held) u))
    (started-fits c code j regs p (f.each j p was)) (f.locked j p was ∙ sym (started-locked-open regs p)) (λ k ne. refl)
    (stay-others c code j held (with_started held j regs) (λ k ne. slice_get-set_other held j k (started regs p) ne))
  where
    p : Stage
    p = slice_index_or held j Stage_is.Moved

    was : slice_get held j ≡ Some (slice_index_or held j Stage_is.Moved)
    was = get-inside held j Stage_is.Moved u

-- other statuses
pub status-fits : (c : Settings) (code : CodeView) (stands now : List CoreStatus) (held : List Stage) (lock : Counts) → length now ≡ length stands
    → FitCores c code stands held lock → FitCores c code now held lock
status-fits c code stands now held lock same f = record {
  statuses = same ∙ f.statuses;
  portions = f.portions;
  counts = f.counts;
  few = f.few;
  each = f.each;
  locked = f.locked;
}
