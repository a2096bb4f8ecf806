-- Walks that flush, and signatures of the lines that a walk meets.
use Rattle.std.proofs.Common.{◌≡◌, ◌≢◌, ◌<◌, ℕ, suc, arith, length, get_or, ◌+◌, Bool, true, false, cond, eqb, List, [], ◌∷◌, ◌++◌, refl, sym, ap, subst, ◌∙◌, append_assoc, Option, Some}
use Rattle.std.specs.List.{AllPairs}
use Rattle.std.proofs.lemmas.Bool.{eqb-true, ne_eqb}
use Rattle.std.proofs.lemmas.List.{append-nil}
use Rattle.std.proofs.lemmas.List.Sums.{fold-append}
use Rattle.set_assoc.specs.Entries.{lookup}
use Rattle.conda_base.specs.declared.Line.{Line}
use Rattle.conda_base.specs.declared.Mesi.{Mesi}
use Rattle.line_memory.specs.Access.{after_flush}
use Rattle.line_memory.specs.Backing.{BackingView, IsBacking, IsFirstDirty, dirty_from, flushed, shape_of}
use Rattle.line_memory.specs.Notes.{all_noted, back_notes, flush_notes, flushes_notes}
use Rattle.line_memory.specs.Tags.{Tag, Tags, Shape, set_number, cleaned_state, cleaned_line}
use Rattle.line_memory.proofs.WalkLemmas.{dirty_after_flush, each_same}
use Rattle.traffic_trace.specs.declared.note.Note.{Note}
use Rattle.traffic_trace.specs.Notes.{Trace, noted}
use Rattle.bloom_sig.specs.Images.{IsImage}
use Rattle.bloom_sig.specs.Signatures.{Sets, inserted}
use Rattle.bloom_sig.proofs.ImageLemmas.{inserted_is_image}
use Rattle.portion_ctl.specs.Walks.{all_flushed, all_inserted}

-- the notes of flushes of these lines, each from the tags that the earlier ones left
abbrev pub all_flush_notes : BackingView → List Line → List Note
all_flush_notes memory [] = []
all_flush_notes memory (l ∷ lines) = flush_notes (shape_of memory) memory.tags l ++ all_flush_notes (flushed memory l) lines

pub record FlushStep (b : BackingView) (from place : ℕ) (l : Line) (log : Trace) : Type 0 where
  pub memory : all_flushed (flushed b l) (dirty_from (flushed b l) (place + 1)) ≡ all_flushed b (dirty_from b from)
  pub notes : all_noted (all_noted log (flush_notes (shape_of b) b.tags l)) (all_flush_notes (flushed b l) (dirty_from (flushed b l) (place + 1))) ≡ all_noted log (all_flush_notes b (dirty_from b from))

pub flush-step : (b : BackingView) (from place : ℕ) (l : Line) (log : Trace) → IsBacking b → IsFirstDirty b from place l → FlushStep b from place l log
flush-step b from place l log is first =
    let here : dirty_from b from ≡ l ∷ dirty_from b (place + 1) = first.skipped ∙ first.first in
    let after : dirty_from (flushed b l) (place + 1) ≡ dirty_from b (place + 1) = dirty_after_flush b from place l is first in
    record {
      memory = ap (all_flushed (flushed b l)) after ∙ ap (all_flushed b) (sym here);
      notes =
          sym (fold-append noted log (flush_notes (shape_of b) b.tags l) (all_flush_notes (flushed b l) (dirty_from (flushed b l) (place + 1))))
          ∙ ap (λ ls. all_noted log (flush_notes (shape_of b) b.tags l ++ all_flush_notes (flushed b l) ls)) after
          ∙ ap (λ ls. all_noted log (all_flush_notes b ls)) (sym here);
    }

-- ---- the notes are those from the tags before

-- the flush of a line leaves the state of another
lookup-cleaned : (l k : Line) (tags : List Tag) → l.0 ≢ k.0 → lookup k (cleaned_line l tags) ≡ lookup k tags
lookup-cleaned l k [] apart = refl
lookup-cleaned l k (tag ∷ tags) apart = go (eqb tag.0.0 l.0) refl (lookup-cleaned l k tags apart)
  where
    go : (b : Bool) → eqb tag.0.0 l.0 ≡ b → lookup k (cleaned_line l tags) ≡ lookup k tags
        → lookup k (cond b (tag.0, cleaned_state tag.1) tag ∷ cleaned_line l tags) ≡ cond (eqb tag.0.0 k.0) (Some tag.1) (lookup k tags)
    go false e rest = ap (λ o. cond (eqb tag.0.0 k.0) (Some tag.1) o) rest
    go true e rest =
        let off : eqb tag.0.0 k.0 ≡ false = ne_eqb tag.0.0 k.0 (λ same. apart (sym (eqb-true tag.0.0 l.0 e) ∙ same)) in
        ap (λ b. cond b (Some (cleaned_state tag.1)) (lookup k (cleaned_line l tags))) off
        ∙ rest
        ∙ sym (ap (λ b. cond b (Some tag.1) (lookup k tags)) off)

flush_notes-apart : (shape : Shape) (tags : Tags) (l k : Line) → l.0 ≢ k.0 → flush_notes shape (after_flush tags l) k ≡ flush_notes shape tags k
flush_notes-apart shape tags l k apart =
    each_same shape.holders _ _ (λ h within. ap (λ (state : Option Mesi). back_notes k h state) (lookup-cleaned l k (tags h (set_number shape k)) apart))

flushes_notes-apart : (shape : Shape) (tags : Tags) (l : Line) (lines : List Line)
    → ((j : ℕ) (d : Line) → j < length lines → l.0 ≢ (get_or lines j d).0)
    → flushes_notes shape (after_flush tags l) lines ≡ flushes_notes shape tags lines
flushes_notes-apart shape tags l [] apart = refl
flushes_notes-apart shape tags l (k ∷ lines) apart =
    ap (λ notes. notes ++ flushes_notes shape (after_flush tags l) lines) (flush_notes-apart shape tags l k (apart 0 l (omega arith)))
    ∙ ap (λ notes. flush_notes shape tags k ++ notes)
    (flushes_notes-apart shape tags l lines (λ j d below. let more : j + 1 < length lines + 1 = omega arith in apart (suc j) d (omega arith)))

-- flushes of lines of which none comes twice
pub all_flush_notes-before : (memory : BackingView) (lines : List Line) → AllPairs (λ (a : Line) (b : Line). a.0 ≢ b.0) lines
    → all_flush_notes memory lines ≡ flushes_notes (shape_of memory) memory.tags lines
all_flush_notes-before memory [] once = refl
all_flush_notes-before memory (l ∷ lines) once =
    ap (λ notes. flush_notes (shape_of memory) memory.tags l ++ notes)
    (all_flush_notes-before (flushed memory l) lines (λ i j d before below. once (suc i) (suc j) d (omega arith) (omega arith))
    ∙ flushes_notes-apart (shape_of memory) memory.tags l lines (λ j d below. once 0 (suc j) d (omega arith) (omega arith)))

-- ---- signatures

pub all_inserted-bits : (s : Sets) (lines : List Line) → (all_inserted s lines).bits ≡ s.bits
all_inserted-bits s [] = refl
all_inserted-bits s (l ∷ lines) = all_inserted-bits (inserted s l) lines

pub all_inserted-image : (s : Sets) (earlier lines : List Line) → IsImage s earlier → IsImage (all_inserted s lines) (earlier ++ lines)
all_inserted-image s earlier [] is = subst (λ ls. IsImage s ls) (sym (append-nil earlier)) is
all_inserted-image s earlier (l ∷ lines) is =
    subst (λ ls. IsImage (all_inserted (inserted s l) lines) ls) (append_assoc earlier (l ∷ []) lines)
    (all_inserted-image (inserted s l) (earlier ++ l ∷ []) lines (inserted_is_image s earlier l is))
