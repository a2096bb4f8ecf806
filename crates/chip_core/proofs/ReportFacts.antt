-- What every chip that a report shows keeps, and that its report is that of its events.
use Rattle.std.proofs.Common.{◌≡◌, ◌<◌, ◌≤◌, ◌++◌, ℕ, zero, suc, Bool, true, false, List, length, ltb, cond, refl, sym, ap, ◌∙◌, subst, arith, Option, Some, None}
use Rattle.std.specs.Prelude.{slice_index_or, nat_lt}
use Rattle.std.specs.Option.{is_some}
use Rattle.std.proofs.lemmas.Bool.{cond-true, lt-ltb}
use Rattle.line_memory.specs.Tags.{Shape}
use Rattle.conda_base.specs.declared.Line.{Line}
use Rattle.conda_base.proofs.LineLemmas.{line_bytes_in_memory, line_size_positive}
use Rattle.line_memory.specs.Backing.{BackingView, IsBacking, IsInRange}
use Rattle.run_report.specs.View.{IsAddressed}
use Rattle.chip_core.specs.Views.{ChipView}
use Rattle.chip_core.specs.declared.stage.Stage.{Stage}
use Rattle.chip_core.specs.declared.stage.Stage.TheVariants as Stage_is
use Rattle.chip_core.specs.Shows.{HoldsAt, HoldsOpen, Shows}
use Rattle.chip_core.specs.Reports.{view_of_chip, view_of_world, regs_at, no_hart, ReportsAreOfEvents}
use Rattle.chip_core.proofs.CallFacts.{same-length}
use Rattle.chip_core.proofs.FitFacts.{get-inside}
use Rattle.chip_core.proofs.TurnFacts.{get-at}
use Rattle.chip_laws.specs.Design.{Design}
use Rattle.chip_laws.specs.Rules.{World, Seat, Opening}
use Rattle.chip_laws.specs.Worlds.{world}
use Rattle.rv32_hart.specs.declared.regs.Regs.{Regs}
use Rattle.rv32_hart.specs.Code.{CodeView}
use Rattle.offload_calls.specs.declared.status.Core.{Core}
use Rattle.offload_calls.specs.declared.status.CoreStatus.{CoreStatus}
use Rattle.offload_calls.specs.declared.status.CoreStatus.TheVariants as Core_is
use Rattle.run_report.specs.View.{View}
use Rattle.run_report.specs.Texts.{report_text, texts_below, hart_text, core_text, harts_text, cores_text, changes_text, changed_text, caches_text, cache_text, set_text, notes_text}

-- a line of memory has an address
addressed : (b : BackingView) (l : Line) → IsBacking b → IsInRange b l → IsAddressed b.line_bytes l
addressed b l is range =
    let m = is.memory in
    let span = line_bytes_in_memory b.base (length b.view) b.line_bytes l.0 m.size m.whole_base m.whole_bytes range in
    let some = line_size_positive b.line_bytes m.size in
    omega (arith, span.1, some, m.top)

-- ---- the report is that of the events

texts_below-same : (f g : ℕ → List ℕ) (n : ℕ) → ((i : ℕ) → i < n → f i ≡ g i) → texts_below f n ≡ texts_below g n
unfolding texts_below
texts_below-same f g zero same = refl
texts_below-same f g (suc n) same =
    ap (λ t. t ++ f n) (texts_below-same f g n (λ i below. same i (omega arith))) ∙ ap (λ t. texts_below g n ++ t) (same n (omega arith))

-- two views that show the same
record ShowSame (v w : View) : Type 0 where
  pub harts : v.harts ≡ w.harts
  pub cores : v.cores ≡ w.cores
  pub hart : (i : ℕ) → i < w.harts → v.hart i ≡ w.hart i
  pub core : (j : ℕ) → j < w.cores → v.core j ≡ w.core j
  pub base : v.base ≡ w.base
  pub line_bytes : v.line_bytes ≡ w.line_bytes
  pub memory : v.memory ≡ w.memory
  pub loaded : v.loaded ≡ w.loaded
  pub sets : v.sets ≡ w.sets
  pub tags : v.tags ≡ w.tags
  pub trace : v.trace ≡ w.trace

hart_text-same : (v w : View) (i : ℕ) → v.hart i ≡ w.hart i → hart_text v i ≡ hart_text w i
unfolding hart_text
hart_text-same v w i same = rw same refl

core_text-same : (v w : View) (j : ℕ) → v.core j ≡ w.core j → core_text v j ≡ core_text w j
unfolding core_text
core_text-same v w j same = rw same refl

harts_text-same : (v w : View) → ShowSame v w → harts_text v ≡ harts_text w
unfolding harts_text
harts_text-same v w same =
    ap (texts_below (hart_text v)) same.harts
    ∙ texts_below-same (hart_text v) (hart_text w) w.harts (λ i below. hart_text-same v w i (same.hart i below))

cores_text-same : (v w : View) → ShowSame v w → cores_text v ≡ cores_text w
unfolding cores_text
cores_text-same v w same =
    ap (texts_below (core_text v)) same.cores
    ∙ texts_below-same (core_text v) (core_text w) w.cores (λ j below. core_text-same v w j (same.core j below))

changes_text-same : (v w : View) → ShowSame v w → changes_text v ≡ changes_text w
unfolding changes_text changed_text
changes_text-same v w same = rw (same.base, same.line_bytes, same.memory, same.loaded) refl

caches_text-same : (v w : View) → ShowSame v w → caches_text v ≡ caches_text w
unfolding caches_text cache_text set_text
caches_text-same v w same = rw (same.harts, same.sets, same.tags, same.line_bytes) refl

notes_text-same : (v w : View) → ShowSame v w → notes_text v ≡ notes_text w
unfolding notes_text
notes_text-same v w same = rw (same.trace, same.line_bytes) refl

report_text-same : (v w : View) (events out : ℕ) → ShowSame v w → report_text v events out ≡ report_text w events out
report_text-same v w events out same =
    rw (harts_text-same v w same, cores_text-same v w same, caches_text-same v w same, changes_text-same v w same, notes_text-same v w same, same.trace) refl

-- what a core holds has its registers
held-regs : (d : Design) (j : ℕ) (r : Regs) (seat : Seat) (p : Stage) → HoldsAt d j r seat p → regs_at p ≡ r
held-regs d j r seat (Stage_is.Ready s) h = h.regs
held-regs d j r seat (Stage_is.Open s) h = opening seat.opening h
  where
    opening : (x : Option Opening) → HoldsOpen d j r x s → s.opening ≡ r
    opening None e = absurd e
    opening (Some o) e = e.stands.opening ∙ e.opening
held-regs d j r seat (Stage_is.Flushing s) h = h.regs
held-regs d j r seat Stage_is.Moved h = absurd h

core-of : (d : Design) (chip : ChipView) (w : World) (j : ℕ) → Shows d chip w → j < d.config.cores → (view_of_chip chip).core j ≡ w.flat.cores j
core-of d chip w j shows u =
    both (held-regs d j (w.flat.cores j).regs (w.seats j) (slice_index_or chip.portions j Stage_is.Moved)
    (shows.cores.portions j (slice_index_or chip.portions j Stage_is.Moved) (get-inside chip.portions j Stage_is.Moved (subst (λ n. j < n) (sym shows.cores.many) u))))
    (get-at chip.statuses j (w.flat.cores j).status Core_is.Idle
    (shows.cores.statuses j ∙ cond-true (ltb j d.config.cores) (Some (w.flat.cores j).status) None (lt-ltb j d.config.cores u)))
  where
    both : {r q : Regs} {s t : CoreStatus} → r ≡ q → s ≡ t → ◌≡◌ {A = Core} (record { regs = r; status = s }) (record { regs = q; status = t })
    both e f = cc

status-there : (b : Bool) (s : CoreStatus) → is_some (cond b (Some s) None) ≡ b
status-there true s = refl
status-there false s = refl

shown-same : (d : Design) (chip : ChipView) (w : World) → Shows d chip w → ShowSame (view_of_chip chip) (view_of_world d w)
shown-same d chip w shows = record {
  harts = shows.harts.many;
  cores = same-length chip.statuses d.config.cores (λ k. ap is_some (shows.cores.statuses k) ∙ status-there (nat_lt k d.config.cores) (w.flat.cores k).status);
  hart = λ i u. get-at chip.harts i (w.flat.harts i) no_hart (shows.harts.each i u);
  core = λ j u. core-of d chip w j shows u;
  base = shows.memory.numbers.base;
  line_bytes = shows.memory.numbers.line_bytes;
  memory = shows.memory.view;
  loaded = ap (λ (x : CodeView). x.bytes) shows.code;
  sets = ap (λ (x : Shape). x.sets) shows.memory.numbers.shape;
  tags = shows.memory.tags;
  trace = shows.memory.log;
}

pub reports_are_of_events : ReportsAreOfEvents
reports_are_of_events d chip events stands =
    report_text-same (view_of_chip chip) (view_of_world d (world d events)) (length events) (length (world d events).flat.output)
    (shown-same d chip (world d events) stands.shows)
