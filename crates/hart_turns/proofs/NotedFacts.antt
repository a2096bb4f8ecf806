-- Every note is of a line of memory.
use Rattle.std.proofs.Common.{◌≡◌, ℕ, zero, suc, ◌<◌, ◌≤◌, ◌+◌, Bool, true, false, List, [], ◌∷◌, ◌++◌, length, eqb, refl, sym, subst, arith, Option, Some, None}
use Rattle.std.specs.Prelude.{All, nat_le}
use Rattle.std.specs.Option.{IfSome}
use Rattle.std.proofs.lemmas.Bool.{or_left, or_right, eq-eqb, cond_both}
use Rattle.std.proofs.lemmas.List.Elements.{All-nil, All-cons, All-append, All-head, All-tail, All-drop}
use Rattle.conda_base.specs.declared.Line.{Line}
use Rattle.conda_base.specs.declared.Mesi.{Mesi}
use Rattle.conda_base.specs.declared.Mesi.TheVariants.{M, E, S}
use Rattle.conda_base.specs.LineLists.{names, same_line, line_at}
use Rattle.conda_base.specs.Lines.{IsAccessSize}
use Rattle.conda_base.proofs.LineLemmas.{line_in_memory}
use Rattle.rv32_hart.specs.Code.{CodeView}
use Rattle.rv32_hart.specs.Act.{AccessFits, IsAccess}
use Rattle.rv32_hart.specs.declared.act.Access.{Access}
use Rattle.rv32_hart.specs.declared.act.Access.TheVariants as Access_is
use Rattle.traffic_trace.specs.Notes.{Trace, noted}
use Rattle.traffic_trace.specs.declared.note.Note.{Note}
use Rattle.traffic_trace.specs.declared.note.Kind.{Kind}
use Rattle.traffic_trace.specs.declared.note.Kind.TheVariants.{Fill, Back, Down, Drop, Evict, CoreFill, Merge}
use Rattle.line_memory.specs.Tags.{Tag, Tags, Shape, held_state, set_number, each_below}
use Rattle.line_memory.specs.Backing.{BackingView, HasSameNumbers, IsBacking, IsInRange, shape_of}
use Rattle.line_memory.specs.Notes.{note_of, all_noted, back_notes, leave_notes, down_notes, evict_notes, last_notes, room_notes, fill_notes, load_notes, store_notes, access_notes, flush_notes, flushes_notes, commit_notes, others_notes, all_notes}
use Rattle.try_runs.specs.Fills.{corefill_notes}
use Rattle.offload_calls.specs.LineUses.{LineUse, use_of_access}
use Rattle.hart_turns.specs.Steps.{FitsCode, AreNotedIn, KeepsNoted, used_notes}

pub range-new : (b new : BackingView) (l : Line) → HasSameNumbers b new → IsInRange b l → IsInRange new l
range-new b new l n r = rw (n.base, n.line_bytes, n.size) r

-- ---- the notes of lines of which something is known

module _ (P : Line → Type 0) where
  abbrev pub Are : List Note → Type 0
  Are notes = All (λ (note : Note). P note.line) notes

  pub no-notes : Are []
  no-notes = All-nil (λ (note : Note). P note.line)

  pub one : (k : Kind) (h : ℕ) (l : Line) (notes : List Note) → P l → Are notes → Are (note_of k h l ∷ notes)
  one k h l notes p all = All-cons (λ (note : Note). P note.line) (note_of k h l) notes p all

  pub two : (k j : Kind) (h : ℕ) (l : Line) → P l → Are (note_of k h l ∷ note_of j h l ∷ [])
  two k j h l p = one k h l (note_of j h l ∷ []) p (one j h l [] p no-notes)

  pub both : (xs ys : List Note) → Are xs → Are ys → Are (xs ++ ys)
  both xs ys f g = All-append (λ (note : Note). P note.line) xs ys f g

  pub all-noted : (trace : Trace) (notes : List Note) → Are trace.notes → Are notes → Are (all_noted trace notes).notes
  all-noted trace [] old new = old
  all-noted trace (n ∷ notes) old new =
      all-noted (noted trace n) notes
      (All-drop (λ (note : Note). P note.line) _ (trace.notes ++ n ∷ [])
      (both trace.notes (n ∷ []) old
      (All-cons (λ (note : Note). P note.line) n [] (All-head (λ (note : Note). P note.line) n notes new) no-notes)))
      (All-tail (λ (note : Note). P note.line) n notes new)

  back-on : (l : Line) (h : ℕ) (s : Option Mesi) → P l → Are (back_notes l h s)
  back-on l h None p = no-notes
  back-on l h (Some M) p = one Back h l [] p no-notes
  back-on l h (Some E) p = no-notes
  back-on l h (Some S) p = no-notes

  pub leave-on : (l : Line) (h : ℕ) (s : Option Mesi) → P l → Are (leave_notes l h s)
  leave-on l h None p = no-notes
  leave-on l h (Some M) p = two Back Drop h l p
  leave-on l h (Some E) p = one Drop h l [] p no-notes
  leave-on l h (Some S) p = one Drop h l [] p no-notes

  down-on : (l : Line) (h : ℕ) (s : Option Mesi) → P l → Are (down_notes l h s)
  down-on l h None p = no-notes
  down-on l h (Some M) p = two Back Down h l p
  down-on l h (Some E) p = one Down h l [] p no-notes
  down-on l h (Some S) p = no-notes

  evict-on : (h : ℕ) (l : Line) (s : Mesi) → P l → Are (evict_notes h l s)
  evict-on h l M p = two Back Evict h l p
  evict-on h l E p = one Evict h l [] p no-notes
  evict-on h l S p = one Evict h l [] p no-notes

  pub each-on : (n : ℕ) (notes : ℕ → List Note) → ((k : ℕ) → Are (notes k)) → Are (each_below n notes)
  each-on zero notes all = no-notes
  each-on (suc n) notes all = both (each_below n notes) (notes n) (each-on n notes all) (all n)

  others-on : (notes : Line → ℕ → Option Mesi → List Note) (c : Shape) (tags : Tags) (h : ℕ) (l : Line)
      → ((k : ℕ) (s : Option Mesi) → Are (notes l k s)) → Are (others_notes notes c tags h l)
  others-on notes c tags h l all =
      each-on c.holders _ (λ k. cond_both (eqb k h) [] (notes l k (held_state c tags k l)) Are (λ _. no-notes)
      (λ _. all k (held_state c tags k l)))

  last-on : (h : ℕ) (tags : List Tag) → All (λ (tag : Tag). P tag.0) tags → Are (last_notes h tags)
  last-on h [] all = no-notes
  last-on h (tag ∷ []) all = evict-on h tag.0 tag.1 (All-head (λ (tag : Tag). P tag.0) tag [] all)
  last-on h (tag ∷ next ∷ tags) all = last-on h (next ∷ tags) (All-tail (λ (tag : Tag). P tag.0) tag (next ∷ tags) all)

  fill-on : (c : Shape) (tags : Tags) (h : ℕ) (l : Line) → P l → ((k s : ℕ) → All (λ (tag : Tag). P tag.0) (tags k s))
      → Are (fill_notes c tags h l)
  fill-on c tags h l p held =
      both (room_notes c.ways h (tags h (set_number c l))) (note_of Fill h l ∷ [])
      (cond_both (nat_le c.ways (length (tags h (set_number c l)))) (last_notes h (tags h (set_number c l))) [] Are
      (λ _. last-on h (tags h (set_number c l)) (held h (set_number c l))) (λ _. no-notes))
      (one Fill h l [] p no-notes)

  load-on : (c : Shape) (tags : Tags) (h : ℕ) (l : Line) (s : Option Mesi) → P l
      → ((k i : ℕ) → All (λ (tag : Tag). P tag.0) (tags k i)) → Are (load_notes c tags h l s)
  load-on c tags h l (Some s) p held = no-notes
  load-on c tags h l None p held =
      both (others_notes down_notes c tags h l) (fill_notes c tags h l)
      (others-on down_notes c tags h l (λ k s. down-on l k s p)) (fill-on c tags h l p held)

  store-on : (c : Shape) (tags : Tags) (h : ℕ) (l : Line) (s : Option Mesi) → P l
      → ((k i : ℕ) → All (λ (tag : Tag). P tag.0) (tags k i)) → Are (store_notes c tags h l s)
  store-on c tags h l (Some M) p held = no-notes
  store-on c tags h l (Some E) p held = no-notes
  store-on c tags h l (Some S) p held = others-on leave_notes c tags h l (λ k s. leave-on l k s p)
  store-on c tags h l None p held =
      both (others_notes leave_notes c tags h l) (fill_notes c tags h l)
      (others-on leave_notes c tags h l (λ k s. leave-on l k s p)) (fill-on c tags h l p held)

  access-on : (c : Shape) (tags : Tags) (h : ℕ) (l : Line) (stores : Bool) → P l
      → ((k s : ℕ) → All (λ (tag : Tag). P tag.0) (tags k s)) → Are (access_notes c tags h l stores)
  access-on c tags h l true p held = store-on c tags h l (held_state c tags h l) p held
  access-on c tags h l false p held = load-on c tags h l (held_state c tags h l) p held

  pub flush-on : (c : Shape) (tags : Tags) (l : Line) → P l → Are (flush_notes c tags l)
  flush-on c tags l p = each-on c.holders _ (λ k. back-on l k (held_state c tags k l) p)

  pub flushes-on : (c : Shape) (tags : Tags) (lines : List Line) → All P lines → Are (flushes_notes c tags lines)
  flushes-on c tags [] all = no-notes
  flushes-on c tags (l ∷ lines) all =
      both (flush_notes c tags l) (flushes_notes c tags lines) (flush-on c tags l (All-head P l lines all))
      (flushes-on c tags lines (All-tail P l lines all))

  pub commit-on : (c : Shape) (tags : Tags) (core : ℕ) (lines : List Line) → All P lines
      → Are (commit_notes c tags core lines)
  commit-on c tags core [] all = no-notes
  commit-on c tags core (l ∷ lines) all =
      both (all_notes leave_notes c tags l) (note_of Merge core l ∷ commit_notes c tags core lines)
      (each-on c.holders _ (λ k. leave-on l k (held_state c tags k l) (All-head P l lines all)))
      (one Merge core l (commit_notes c tags core lines) (All-head P l lines all)
      (commit-on c tags core lines (All-tail P l lines all)))

  pub corefill-on : (core : ℕ) (x : Option Line) → ((l : Line) → x ≡ Some l → P l) → Are (corefill_notes core x)
  corefill-on core None p = no-notes
  corefill-on core (Some l) p = one CoreFill core l [] (p l refl) no-notes

  pub all-named : (lines : List Line) → ((l : Line) → names lines l ≡ true → P l) → All P lines
  all-named [] each = All-nil P
  all-named (l ∷ lines) each =
      All-cons P l lines (each l (or_left (same_line l l) (names lines l) (eq-eqb l.0 l.0 refl)))
      (all-named lines (λ k there. each k (or_right (same_line l k) (names lines k) there)))

-- ---- the notes of an event

pub noted-with : (b new : BackingView) (log later : Trace) (notes : List Note) → HasSameNumbers b new
    → later ≡ all_noted log notes
    → All (λ (note : Note). IsInRange b note.line) notes → KeepsNoted b log new later
noted-with b new log later notes n is all old =
    let now = all-noted (IsInRange b) log notes old all in
    subst (AreNotedIn new) (sym is) (λ i d u. range-new b new _ n (now i d u))

use-notes-on : (b : BackingView) (h : ℕ) (used : Option LineUse) → IsBacking b
    → IfSome used (λ (u : LineUse). IsInRange b u.line)
    → All (λ (note : Note). IsInRange b note.line) (used_notes b h used)
use-notes-on b h None is range = no-notes (IsInRange b)
use-notes-on b h (Some u) is range = access-on (IsInRange b) (shape_of b) b.tags h u.line u.stores range is.in_range

pub accessed : (code : CodeView) (b : BackingView) (addr size : ℕ) → FitsCode code b → IsAccess code addr size
    → IsInRange b (line_at b.line_bytes addr)
accessed code b addr size fits access =
    line_in_memory b.base (length b.view) b.line_bytes addr fits.coherent.backing.memory.size
    fits.coherent.backing.memory.whole_base fits.coherent.backing.memory.whole_bytes
    (subst (λ n. n ≤ addr) (sym fits.base) access.from)
    (subst (λ n. addr < n + length b.view) (sym fits.base) (subst (λ n. addr < code.base + n) (sym fits.bytes) below))
  where
    some : (n : ℕ) → IsAccessSize n → 0 < n
    some n is = grind arith

    below : addr < code.base + length code.bytes
    below = let s = some size access.size in omega (arith, s, access.to)

use-in-range : (code : CodeView) (b : BackingView) (access : Access) → FitsCode code b → AccessFits code access
    → IfSome (use_of_access b.line_bytes access) (λ (u : LineUse). IsInRange b u.line)
use-in-range code b Access_is.Nothing fits is = tt
use-in-range code b (Access_is.Load addr size signed rd) fits is = accessed code b addr size fits is.0
use-in-range code b (Access_is.Store addr size value) fits is = accessed code b addr size fits is
use-in-range code b (Access_is.Amo addr op rd value) fits is = accessed code b addr 4 fits is.0
use-in-range code b Access_is.Call fits is = tt

-- an act of a hart
pub used-noted : (code : CodeView) (b new : BackingView) (h : ℕ) (access : Access) (log later : Trace)
    → FitsCode code b → AccessFits code access → HasSameNumbers b new
    → later ≡ all_noted log (used_notes b h (use_of_access b.line_bytes access)) → KeepsNoted b log new later
used-noted code b new h access log later fits is n notes =
    noted-with b new log later (used_notes b h (use_of_access b.line_bytes access)) n notes
    (use-notes-on b h (use_of_access b.line_bytes access) fits.coherent.backing (use-in-range code b access fits is))
