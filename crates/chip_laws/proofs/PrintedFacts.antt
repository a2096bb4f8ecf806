-- What a report prints of notes is counts; and the Balance law whole.
use Rattle.std.proofs.Common.{◌≡◌, ◌+◌, ◌-◌, ◌^◌, ◌<◌, ◌≤◌, ℕ, zero, suc, min, Bool, true, false, List, [], ◌∷◌, ◌++◌, append-nil, append_assoc, drop, length, refl, sym, ap, ◌∙◌, subst, arith, eqb, cond, Option, Some, None}
use Rattle.std.specs.List.{AllByRecursion}
use Rattle.std.proofs.Math.Nat.{min-eq_left, min-le_left, min-le_right}
use Rattle.std.proofs.lemmas.Bool.{eqb-true, eqb-false}
use Rattle.std.proofs.lemmas.List.{drop-append-le, drop-drop, length-append, length-drop, length-set, get_or-set_other}
use Rattle.std.proofs.lemmas.Grind.{get_or-set_at}
use Rattle.std.specs.Prelude.{slice_index_or}
use Rattle.conda_base.specs.declared.Line.{Line}
use Rattle.conda_base.specs.declared.actor.Actor.{Actor}
use Rattle.conda_base.specs.declared.Mesi.{Mesi}
use Rattle.conda_base.specs.declared.Mesi.TheVariants.{M, E, S}
use Rattle.schedule_log.specs.declared.entry.Entry.{Entry}
use Rattle.schedule_log.specs.declared.entry.Entry.TheVariants.{Step, Waits, Idle, Held, Open, Lock, Spec, Commit, Back, Flush, Kern}
use Rattle.traffic_trace.specs.declared.note.Kind.{Kind}
use Rattle.traffic_trace.specs.declared.note.Kind.TheVariants as Kind_is
use Rattle.traffic_trace.specs.declared.note.Note.{Note}
use Rattle.traffic_trace.specs.Notes.{Trace, no_notes, noted, place_of, total_of}
use Rattle.line_memory.specs.Notes.{all_noted, flushes_notes, leave_notes, load_notes, note_of, store_notes}
use Rattle.line_memory.specs.Tags.{Tags, Shape, held_state}
use Rattle.offload_calls.specs.LineUses.{LineUse}
use Rattle.conda_base.specs.LineLists.{line_list}
use Rattle.try_runs.specs.Fills.{corefill_notes}
use Rattle.chip_laws.specs.Design.{Design, IsDesign, IsActorOf, hart_shape}
use Rattle.chip_laws.specs.Rules.{World, next, writes_of, dirty_of, flush_line}
use Rattle.chip_laws.specs.Worlds.{happens, start_world, world_from, world}
use Rattle.chip_laws.specs.Notes.{filled_of, hart_use, notes_of}
use Rattle.chip_laws.specs.Uses.{use_notes}
use Rattle.chip_laws.specs.Balance.{notes_that, is_kind, kind_count, all_tags, all_writes, AlwaysBalanced, FillsBalance, Printed, printed_total, printed_trace}
use Rattle.chip_laws.proofs.DesignFacts.{caches-fit}
use Rattle.chip_laws.proofs.LockFacts.{start-sound}
use Rattle.chip_laws.proofs.TagShapes.{start-fits}
use Rattle.chip_laws.proofs.NoteCounts.{that-append, others-none, flush-none}
use Rattle.chip_laws.proofs.LineBalance.{one, bal-empty}
use Rattle.chip_laws.proofs.BalanceFacts.{world-bal, world-corefills, world-merges, none_open, zero_plus as plus_none}
use Rattle.chip_laws.proofs.TotalFacts.{commit-kind, count, downs-total, fill-fills, fills-leave, skip, then-count, totals}

-- ---- totals

abbrev top : ℕ
top = 2 ^ 64 - 1

place-small : (kind : Kind) → place_of kind < 7
place-small Kind_is.Fill = omega arith
place-small Kind_is.Back = omega arith
place-small Kind_is.Down = omega arith
place-small Kind_is.Drop = omega arith
place-small Kind_is.Evict = omega arith
place-small Kind_is.CoreFill = omega arith
place-small Kind_is.Merge = omega arith

-- one note more counts in the total of its kind
noted-total : (t : Trace) (note : Note) (kind : Kind) → length t.totals ≡ 7 → total_of t kind ≤ top
    → total_of (noted t note) kind ≡ min (total_of t kind + one (is_kind kind note)) top
noted-total t note kind seven small = go (is_kind kind note) refl
  where
    more : ℕ
    more = min (total_of t note.kind + 1) top

    go : (b : Bool) → is_kind kind note ≡ b → total_of (noted t note) kind ≡ min (total_of t kind + one b) top
    go true e =
        let at : place_of note.kind ≡ place_of kind = eqb-true (place_of note.kind) (place_of kind) e in
        get_or-set_at t.totals (place_of note.kind) (place_of kind) (min (total_of t note.kind + 1) top) 0 (sym at)
        (omega (arith, place-small note.kind))
        ∙ ap (λ k. min (slice_index_or t.totals k 0 + 1) top) at
    go false e =
        get_or-set_other t.totals (place_of note.kind) (place_of kind) (min (total_of t note.kind + 1) top) 0
        (λ at. eqb-false (place_of note.kind) (place_of kind) e (sym at))
        ∙ sym (min-eq_left (omega arith) ∙ plus-none (total_of t kind))
      where
        plus-none : (n : ℕ) → n + 0 ≡ n
        plus-none n = omega arith

-- a sum that is cut twice is cut once
cut-twice : (a b c : ℕ) → min (min (a + b) top + c) top ≡ min (a + (b + c)) top
cut-twice a b c = omega arith

-- all of them count
all-total : (t : Trace) (notes : List Note) (kind : Kind) → length t.totals ≡ 7 → total_of t kind ≤ top
    → total_of (all_noted t notes) kind ≡ min (total_of t kind + notes_that (is_kind kind) notes) top
all-total t [] kind seven small = sym (min-eq_left (omega arith) ∙ plus-none (total_of t kind))
  where
    plus-none : (n : ℕ) → n + 0 ≡ n
    plus-none n = omega arith
all-total t (note ∷ notes) kind seven small =
    let here = noted-total t note kind seven small in
    let within : total_of (noted t note) kind ≤ top = rw here (min-le_right (total_of t kind + one (is_kind kind note)) top) in
    all-total (noted t note) notes kind (length-set t.totals (place_of note.kind) _ ∙ seven) within
    ∙ ap (λ n. min (n + notes_that (is_kind kind) notes) top) here
    ∙ cut-twice (total_of t kind) (one (is_kind kind note)) (notes_that (is_kind kind) notes)

none-total : (kept : ℕ) (kind : Kind) → total_of (no_notes kept) kind ≡ 0
none-total kept Kind_is.Fill = refl
none-total kept Kind_is.Back = refl
none-total kept Kind_is.Down = refl
none-total kept Kind_is.Drop = refl
none-total kept Kind_is.Evict = refl
none-total kept Kind_is.CoreFill = refl
none-total kept Kind_is.Merge = refl

printed-counts : (d : Design) (w : World) (kind : Kind) → printed_total d w kind ≡ min (kind_count w kind) top
printed-counts d w kind =
    let none = none-total d.config.trace_last kind in
    all-total (no_notes d.config.trace_last) w.notes kind refl (omega arith)
    ∙ ap (λ n. min (n + kind_count w kind) top) none ∙ ap (λ n. min n top) (none-plus (kind_count w kind))
  where
    none-plus : (n : ℕ) → 0 + n ≡ n
    none-plus n = omega arith

-- ---- the last notes

abbrev last_of : ℕ → List Note → List Note
last_of kept notes = drop (length notes - kept) notes

-- the last of the last ones and more are the last of all
last-twice : (kept : ℕ) (xs ys : List Note) → last_of kept (last_of kept xs ++ ys) ≡ last_of kept (xs ++ ys)
last-twice kept xs ys =
    let cut : ℕ = length xs - kept in
    let whole : drop cut (xs ++ ys) ≡ drop cut xs ++ ys = drop-append-le cut xs ys (omega arith) in
    let many = length-append xs ys in
    let left : length (drop cut (xs ++ ys)) ≡ length (xs ++ ys) - cut = length-drop cut (xs ++ ys) in
    ap (last_of kept) (sym whole)
    ∙ drop-drop (length (drop cut (xs ++ ys)) - kept) cut (xs ++ ys)
    ∙ ap (λ n. drop n (xs ++ ys)) (omega arith)

all-last : (t : Trace) (notes : List Note) → length t.notes ≤ t.kept → (all_noted t notes).notes ≡ last_of t.kept (t.notes ++ notes)
all-last t [] short =
    let none : length t.notes - t.kept ≡ 0 = omega arith in
    sym (ap (λ n. drop n t.notes) none) ∙ ap (last_of t.kept) (sym (append-nil t.notes))
all-last t (note ∷ notes) short =
    all-last (noted t note) notes (omega (arith, length-drop (length (t.notes ++ note ∷ []) - t.kept) (t.notes ++ note ∷ [])))
    ∙ last-twice t.kept (t.notes ++ note ∷ []) notes
    ∙ ap (last_of t.kept) (append_assoc t.notes (note ∷ []) notes)

-- ---- an event has at most one fill

abbrev few : List Note → Type 0
few notes = count Kind_is.Fill notes ≤ 1

few-none : (notes : List Note) → count Kind_is.Fill notes ≡ 0 → few notes
few-none notes none = omega arith

few-one : (notes : List Note) → count Kind_is.Fill notes ≡ 0 + 1 → few notes
few-one notes one = omega arith

load-few : (c : Shape) (tags : Tags) (i : ℕ) (n : Line) (x : Option Mesi) → few (load_notes c tags i n x)
load-few c tags i n (Some m) = few-none [] refl
load-few c tags i n None = few-one _ (then-count (is_kind Kind_is.Fill) _ _ 0 1
    (downs-total _ (skip _ Kind_is.Back (λ k m. refl)) (skip _ Kind_is.Down (λ k m. refl)) c tags i n) (fill-fills c tags i n))

store-few : (c : Shape) (tags : Tags) (i : ℕ) (n : Line) (x : Option Mesi) → few (store_notes c tags i n x)
store-few c tags i n (Some M) = few-none [] refl
store-few c tags i n (Some E) = few-none [] refl
store-few c tags i n (Some S) = few-none _ (others-none (is_kind Kind_is.Fill) leave_notes fills-leave c tags i n)
store-few c tags i n None = few-one _ (then-count (is_kind Kind_is.Fill) _ _ 0 1
    (others-none (is_kind Kind_is.Fill) leave_notes fills-leave c tags i n) (fill-fills c tags i n))

use-few : (c : Shape) (tags : Tags) (i : ℕ) (u : Option LineUse) → few (use_notes c tags i u)
use-few c tags i None = few-none [] refl
use-few c tags i (Some u) = go u.stores
  where
    go : (b : Bool) → few (cond b (store_notes c tags i u.line (held_state c tags i u.line)) (load_notes c tags i u.line (held_state c tags i u.line)))
    go true = store-few c tags i u.line (held_state c tags i u.line)
    go false = load-few c tags i u.line (held_state c tags i u.line)

flushes-few : (c : Shape) (tags : Tags) (lines : List Line) → few (flushes_notes c tags lines)
flushes-few c tags lines = few-none _ (flush-none (is_kind Kind_is.Fill) (skip _ Kind_is.Back (λ k n. refl)) c tags lines)

corefill-few : (j : ℕ) (x : Option Line) → few (corefill_notes j x)
corefill-few j None = few-none [] refl
corefill-few j (Some l) = few-none (note_of Kind_is.CoreFill j l ∷ []) refl

entry-few : (d : Design) (w : World) (e : Entry) → few (notes_of d w e)
unfolding notes_of
entry-few d w (Step h) = use-few (hart_shape d) w.tags h (hart_use d w h)
entry-few d w (Commit j n c) = few-none _ (commit-kind Kind_is.Fill fills-leave (λ k l. refl) (hart_shape d) w.tags j (writes_of d (w.seats j).opening))
entry-few d w (Lock j) = flushes-few (hart_shape d) w.tags (dirty_of d w)
entry-few d w (Flush j) = flushes-few (hart_shape d) w.tags (line_list (flush_line d w j))
entry-few d w (Spec j) = corefill-few j (filled_of d (w.seats j).opening)
entry-few d w (Waits h) = few-none [] refl
entry-few d w (Idle a) = few-none [] refl
entry-few d w (Held a) = few-none [] refl
entry-few d w (Open j) = few-none [] refl
entry-few d w (Back j n c) = few-none [] refl
entry-few d w (Kern j) = few-none [] refl

fills-few : (d : Design) (w : World) (events : List Actor) → kind_count (world_from d w events) Kind_is.Fill ≤ kind_count w Kind_is.Fill + length events
unfolding world_from happens
fills-few d w [] = omega arith
fills-few d w (a ∷ events) =
    let here = entry-few d w (next d w a) in
    let both : count Kind_is.Fill (w.notes ++ notes_of d w (next d w a)) ≡ count Kind_is.Fill w.notes + count Kind_is.Fill (notes_of d w (next d w a)) =
    that-append (is_kind Kind_is.Fill) w.notes (notes_of d w (next d w a)) in
    let later : kind_count (world_from d (happens d w a) events) Kind_is.Fill ≤ count Kind_is.Fill (w.notes ++ notes_of d w (next d w a)) + length events =
    fills-few d (happens d w a) events in
    omega arith

-- ---- the law

-- where fills are few, no total of a balance is cut
uncut : (f e p n : ℕ) → f ≡ e + p + n → f ≤ top → min f top ≡ min p top + min e top + n
uncut f e p n even small = omega arith

printed : (d : Design) (events : List Actor) → IsDesign d → AllByRecursion (IsActorOf d) events → Printed d events
printed d events is actors = record {
  totals = printed-counts d (world d events);
  last = all-last (no_notes d.config.trace_last) (world d events).notes (omega arith);
  fills = λ small.
      let w = world d events in
      let few_fills : kind_count w Kind_is.Fill ≤ 0 + length events = fills-few d (start_world d) events in
      let even = uncut (kind_count w Kind_is.Fill) (kind_count w Kind_is.Evict) (kind_count w Kind_is.Drop) (length (all_tags (hart_shape d) w.tags))
      (totals d events is actors) (omega arith) in
      rw (printed-counts d w Kind_is.Fill, printed-counts d w Kind_is.Drop, printed-counts d w Kind_is.Evict) even;
}

pub balanced : AlwaysBalanced
balanced d events is actors =
    record {
      lines = λ h l below.
          let b = (world-bal d (start_world d) events h l (caches-fit d is) (start-fits d) below (bal-empty h l false false refl)).even in omega arith;
      corefills =
          let all = world-corefills d (start_world d) events (start-sound d is) actors in
          let none = none_open d d.config.cores in
          omega arith;
      merges = world-merges d (start_world d) events ∙ sym (plus_none (all_writes d events));
      totals = totals d events is actors;
      printed = printed d events is actors;
    }
