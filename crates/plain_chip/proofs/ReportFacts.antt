-- What every machine that a report shows keeps, and that its report is that of its events.
use Rattle.std.proofs.Common.{◌≡◌, ◌<◌, ◌≤◌, ◌++◌, ℕ, zero, suc, Bool, true, false, List, [], ◌∷◌, length, ltb, cond, refl, sym, ap, ◌∙◌, subst, arith, Option, Some, None}
use Rattle.std.specs.Prelude.{slice_get, slice_index_or, nat_lt}
use Rattle.std.specs.Option.{is_some}
use Rattle.std.proofs.lemmas.Bool.{false≢true, true≢false, cond-true, lt-ltb}
use Rattle.std.proofs.lemmas.Bool.Decides.{nat_tests}
use Rattle.line_memory.specs.Tags.{Shape}
use Rattle.conda_base.specs.declared.actor.Actor.{Actor}
use Rattle.conda_base.specs.declared.Line.{Line}
use Rattle.conda_base.proofs.LineLemmas.{line_bytes_in_memory, line_size_positive}
use Rattle.line_memory.specs.Backing.{BackingView, IsBacking, IsInRange}
use Rattle.run_report.specs.View.{IsAddressed}
use Rattle.rv32_hart.specs.declared.regs.Regs.{Regs}
use Rattle.rv32_hart.specs.Regs.{start_regs}
use Rattle.rv32_hart.specs.Code.{CodeView}
use Rattle.offload_calls.specs.declared.status.Core.{Core}
use Rattle.offload_calls.specs.declared.status.CoreStatus.{CoreStatus}
use Rattle.offload_calls.specs.declared.status.CoreStatus.TheVariants as Core_is
use Rattle.run_report.specs.View.{View}
use Rattle.run_report.specs.Texts.{report_text, texts_below, hart_text, core_text, harts_text, cores_text, changes_text, changed_text, caches_text, cache_text, set_text, notes_text}
use Rattle.chip_laws.specs.Design.{Design}
use Rattle.baseline_laws.specs.Worlds.{Rules, World, output_of, world}
use Rattle.plain_chip.specs.Views.{PlainView}
use Rattle.plain_chip.specs.Shows.{ShowsPlain, no_hart, report_of_events, view_of_plain, view_of_world}

-- a line of memory has an address
pub addressed : (b : BackingView) (l : Line) → IsBacking b → IsInRange b l → IsAddressed b.line_bytes l
addressed b l is range =
    let m = is.memory in
    let span = line_bytes_in_memory b.base (length b.view) b.line_bytes l.0 m.size m.whole_base m.whole_bytes range in
    let some = line_size_positive b.line_bytes m.size in
    omega (arith, span.1, some, m.top)

-- ---- lists

pub get-at : {A : Type 0} (xs : List A) (i : ℕ) (x d : A) → slice_get xs i ≡ Some x → slice_index_or xs i d ≡ x
get-at {A} [] i x d at = absurd (let k : ◌≡◌ {A = Option A} None (Some x) = at in cc)
get-at (y ∷ ys) zero x d at = cc
get-at (y ∷ ys) (suc i) x d at = get-at ys i x d at

-- a list that has a member at each place below n alone has n members
pub same-length : {A : Type 0} (xs : List A) (n : ℕ) → ((k : ℕ) → is_some (slice_get xs k) ≡ nat_lt k n) → length xs ≡ n
same-length [] zero h = refl
same-length [] (suc n) h = absurd (false≢true (h 0 ∙ lt-ltb 0 (suc n) (omega arith)))
same-length (x ∷ xs) zero h = absurd (true≢false (h 0 ∙ below-none 0))
  where
    below-none : (k : ℕ) → nat_lt k 0 ≡ false
    below-none k = grind (arith, nat_tests)
same-length (x ∷ xs) (suc n) h = ap suc (same-length xs n (λ k. h (suc k) ∙ shifted k n))
  where
    shifted : (k n : ℕ) → nat_lt (suc k) (suc n) ≡ nat_lt k n
    shifted k n = grind (arith, nat_tests)

-- ---- the report is that of the events

texts_below-same : (f g : ℕ → List ℕ) (n : ℕ) → ((i : ℕ) → i < n → f i ≡ g i) → texts_below f n ≡ texts_below g n
unfolding texts_below
texts_below-same f g zero same = refl
texts_below-same f g (suc n) same =
    ap (λ t. t ++ f n) (texts_below-same f g n (λ i below. same i (omega arith)))
    ∙ ap (λ t. texts_below g n ++ t) (same n (omega arith))

-- two views that show the same
record ShowSame (v w : View) : Type 0 where
  pub harts : v.harts ≡ w.harts
  pub cores : v.cores ≡ w.cores
  pub hart : (i : ℕ) → i < w.harts → v.hart i ≡ w.hart i
  pub core : (j : ℕ) → j < w.cores → v.core j ≡ w.core j
  pub base : v.base ≡ w.base
  pub line_bytes : v.line_bytes ≡ w.line_bytes
  pub memory : v.memory ≡ w.memory
  pub loaded : v.loaded ≡ w.loaded
  pub sets : v.sets ≡ w.sets
  pub tags : v.tags ≡ w.tags
  pub trace : v.trace ≡ w.trace

hart_text-same : (v w : View) (i : ℕ) → v.hart i ≡ w.hart i → hart_text v i ≡ hart_text w i
unfolding hart_text
hart_text-same v w i same = rw same refl

core_text-same : (v w : View) (j : ℕ) → v.core j ≡ w.core j → core_text v j ≡ core_text w j
unfolding core_text
core_text-same v w j same = rw same refl

harts_text-same : (v w : View) → ShowSame v w → harts_text v ≡ harts_text w
unfolding harts_text
harts_text-same v w same =
    ap (texts_below (hart_text v)) same.harts
    ∙ texts_below-same (hart_text v) (hart_text w) w.harts (λ i below. hart_text-same v w i (same.hart i below))

cores_text-same : (v w : View) → ShowSame v w → cores_text v ≡ cores_text w
unfolding cores_text
cores_text-same v w same =
    ap (texts_below (core_text v)) same.cores
    ∙ texts_below-same (core_text v) (core_text w) w.cores (λ j below. core_text-same v w j (same.core j below))

changes_text-same : (v w : View) → ShowSame v w → changes_text v ≡ changes_text w
unfolding changes_text changed_text
changes_text-same v w same = rw (same.base, same.line_bytes, same.memory, same.loaded) refl

caches_text-same : (v w : View) → ShowSame v w → caches_text v ≡ caches_text w
unfolding caches_text cache_text set_text
caches_text-same v w same = rw (same.harts, same.sets, same.tags, same.line_bytes) refl

notes_text-same : (v w : View) → ShowSame v w → notes_text v ≡ notes_text w
unfolding notes_text
notes_text-same v w same = rw (same.trace, same.line_bytes) refl

report_text-same : (v w : View) (events out : ℕ) → ShowSame v w → report_text v events out ≡ report_text w events out
report_text-same v w events out same =
    rw (
      harts_text-same v w same,
      cores_text-same v w same,
      caches_text-same v w same,
      changes_text-same v w same,
      notes_text-same v w same,
      same.trace,
    ) refl

core-of : (d : Design) (shape : Shape) (c : PlainView) (w : World) (j : ℕ) → ShowsPlain d shape c w
    → j < d.config.cores → (view_of_plain c).core j ≡ w.flat.cores j
core-of d shape c w j s u =
    both (get-at c.regs j (w.flat.cores j).regs (start_regs 0) (s.regs j u))
    (get-at c.statuses j (w.flat.cores j).status Core_is.Idle
    (s.statuses j ∙ cond-true (ltb j d.config.cores) (Some (w.flat.cores j).status) None (lt-ltb j d.config.cores u)))
  where
    both : {r q : Regs} {s t : CoreStatus} → r ≡ q → s ≡ t
        → ◌≡◌ {A = Core} (record { regs = r; status = s }) (record { regs = q; status = t })
    both e f = cc

status-there : (b : Bool) (s : CoreStatus) → is_some (cond b (Some s) None) ≡ b
status-there true s = refl
status-there false s = refl

shown-same : (d : Design) (shape : Shape) (c : PlainView) (w : World) → shape.sets ≡ d.config.hart_sets
    → ShowsPlain d shape c w → ShowSame (view_of_plain c) (view_of_world d w)
shown-same d shape c w sets s = record {
  harts = s.many;
  cores = same-length c.statuses d.config.cores
      (λ k. ap is_some (s.statuses k) ∙ status-there (nat_lt k d.config.cores) (w.flat.cores k).status);
  hart = λ i u. get-at c.harts i (w.flat.harts i) no_hart (s.harts i u);
  core = λ j u. core-of d shape c w j s u;
  base = s.base;
  line_bytes = s.lines;
  memory = s.view;
  loaded = ap (λ (x : CodeView). x.bytes) s.code;
  sets = ap (λ (x : Shape). x.sets) s.shape_is ∙ sets;
  tags = s.tags;
  trace = s.log;
}

pub reports_are_of_events : (d : Design) (shape : Shape) (r : Rules) (c : PlainView) (events : List Actor)
    → shape.sets ≡ d.config.hart_sets → ShowsPlain d shape c (world r events)
    → report_text (view_of_plain c) (length events) (length (output_of r events)) ≡ report_of_events d r events
reports_are_of_events d shape r c events sets s =
    report_text-same (view_of_plain c) (view_of_world d (world r events)) (length events)
    (length (world r events).flat.output)
    (shown-same d shape c (world r events) sets s)
