-- The flat text that a checker shows is that of its order.
use Rattle.std.proofs.Common.{◌≡◌, ◌<◌, ◌++◌, ℕ, zero, suc, List, length, refl, sym, ap, ◌∙◌, subst, arith}
use Rattle.rv32_hart.specs.Code.{CodeView}
use Rattle.schedule_log.specs.declared.entry.Entry.{Entry}
use Rattle.offload_calls.specs.State.{State}
use Rattle.run_report.specs.View.{View}
use Rattle.run_report.specs.Texts.{texts_below, hart_text, core_text, harts_text, cores_text, changes_text, changed_text}
use Rattle.chip_laws.specs.Design.{Design, setup_of}
use Rattle.flat_check.specs.Checkers.{CheckerView, HasWalked, CheckersShowFlatTexts, view_of_checker, no_hart}
use Rattle.run_report.specs.FlatText.{flat_text_of}
use Rattle.flat_check.specs.FlatText.{flat_view}
use Rattle.flat_check.specs.Walks.{walk, walk_start}
use Rattle.flat_check.proofs.ListFacts.{read_is}
use Rattle.flat_check.proofs.MachineFacts.{core-is}
use Rattle.flat_check.proofs.WalkFacts.{flat_from}

texts_below-same : (f g : ℕ → List ℕ) (n : ℕ) → ((i : ℕ) → i < n → f i ≡ g i) → texts_below f n ≡ texts_below g n
unfolding texts_below
texts_below-same f g zero same = refl
texts_below-same f g (suc n) same =
    ap (λ t. t ++ f n) (texts_below-same f g n (λ i below. same i (omega arith))) ∙ ap (λ t. texts_below g n ++ t) (same n (omega arith))

-- two views that show the same of harts, cores and memory
record ShowSame (v w : View) : Type 0 where
  pub harts : v.harts ≡ w.harts
  pub cores : v.cores ≡ w.cores
  pub hart : (i : ℕ) → i < w.harts → v.hart i ≡ w.hart i
  pub core : (j : ℕ) → j < w.cores → v.core j ≡ w.core j
  pub base : v.base ≡ w.base
  pub line_bytes : v.line_bytes ≡ w.line_bytes
  pub memory : v.memory ≡ w.memory
  pub loaded : v.loaded ≡ w.loaded

hart_text-same : (v w : View) (i : ℕ) → v.hart i ≡ w.hart i → hart_text v i ≡ hart_text w i
unfolding hart_text
hart_text-same v w i same = rw same refl

core_text-same : (v w : View) (j : ℕ) → v.core j ≡ w.core j → core_text v j ≡ core_text w j
unfolding core_text
core_text-same v w j same = rw same refl

harts_text-same : (v w : View) → ShowSame v w → harts_text v ≡ harts_text w
unfolding harts_text
harts_text-same v w same =
    ap (texts_below (hart_text v)) same.harts
    ∙ texts_below-same (hart_text v) (hart_text w) w.harts (λ i below. hart_text-same v w i (same.hart i below))

cores_text-same : (v w : View) → ShowSame v w → cores_text v ≡ cores_text w
unfolding cores_text
cores_text-same v w same =
    ap (texts_below (core_text v)) same.cores
    ∙ texts_below-same (core_text v) (core_text w) w.cores (λ j below. core_text-same v w j (same.core j below))

changes_text-same : (v w : View) → ShowSame v w → changes_text v ≡ changes_text w
unfolding changes_text changed_text
changes_text-same v w same = rw (same.base, same.line_bytes, same.memory, same.loaded) refl

flat_text-same : (v w : View) (events out : ℕ) → ShowSame v w → flat_text_of v events out ≡ flat_text_of w events out
flat_text-same v w events out same =
    rw (harts_text-same v w same, cores_text-same v w same, changes_text-same v w same) refl

shown-same : (d : Design) (c : CheckerView) (order : List Entry) → HasWalked d c order → ShowSame (view_of_checker c) (flat_view d (walk (setup_of d) order).flat)
shown-same d c order h = record {
  harts = h.shows.flat.many_harts;
  cores = h.shows.flat.many_statuses;
  hart = λ i u.
      read_is c.walker.flat.harts i no_hart ((walk (setup_of d) order).flat.harts i) (subst (λ n. i < n) (sym h.shows.flat.many_harts) u) (h.shows.flat.harts i u);
  core = λ j u. core-is (setup_of d) c.walker.flat (walk (setup_of d) order).flat j h.shows.flat (subst (λ n. j < n) (sym h.shows.flat.many_statuses) u);
  base = ap (λ (x : CodeView). x.base) h.code;
  line_bytes = h.line_bytes;
  memory = h.shows.flat.memory;
  loaded = ap (λ (x : CodeView). x.bytes) h.code;
}

pub checkers_show : CheckersShowFlatTexts
checkers_show d c order h =
    flat_text-same (view_of_checker c) (flat_view d (walk (setup_of d) order).flat) c.entries c.walker.flat.output (shown-same d c order h)
    ∙ ap (λ n. flat_text_of (flat_view d (walk (setup_of d) order).flat) n c.walker.flat.output) h.entries
    ∙ ap (flat_text_of (flat_view d (walk (setup_of d) order).flat) (length order)) h.shows.flat.output
    ∙ ap (λ (f : State). flat_text_of (flat_view d f) (length order) (length f.output)) (flat_from (setup_of d) (walk_start (setup_of d)) order)
