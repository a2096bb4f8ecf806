-- What memory under caches shows after an entry.
use Rattle.std.proofs.Common.{◌≡◌, ℕ, Bool, true, false, ◌&&◌, List, [], ◌∷◌, ◌++◌, refl, sym, ap, ◌∙◌}
use Rattle.std.proofs.Math.Path.{fun_ext}
use Rattle.conda_base.specs.declared.Line.{Line}
use Rattle.schedule_log.specs.declared.entry.Entry.{Entry}
use Rattle.line_memory.specs.Tags.{Tags, Shape, held_state, is_in_m, some_below}
use Rattle.line_memory.specs.Backing.{BackingView, HasSameNumbers, IsBacking, IsInRange, shape_of, copy_of, view_of}
use Rattle.line_memory.specs.Copies.{has_same_owner, copy_after}
use Rattle.line_memory.specs.Notes.{all_noted}
use Rattle.traffic_trace.specs.Notes.{Trace, no_notes, noted}
use Rattle.traffic_trace.specs.declared.note.Note.{Note}
use Rattle.coherent_mem.specs.Steps.{StepsTo}
use Rattle.coherent_mem.proofs.DirtyFacts.{is_dirty, copy_next, follows}
use Rattle.coherent_mem.proofs.StepFacts.{clean_by_test}
use Rattle.chip_laws.specs.Design.{Design, hart_shape}
use Rattle.chip_laws.specs.Rules.{World}
use Rattle.chip_laws.specs.Notes.{notes_of}
use Rattle.chip_laws.specs.Worlds.{flat_after, flat_line, tags_after, copies_after, took}
use Rattle.chip_core.specs.Shows.{ShowsMemory}

-- some notes and then some more
noted_twice : (trace : Trace) (first second : List Note) → all_noted trace (first ++ second) ≡ all_noted (all_noted trace first) second
noted_twice trace [] second = refl
noted_twice trace (note ∷ first) second = noted_twice (noted trace note) first second

picked : Shape → Tags → Tags → Line → List ℕ → List ℕ → List ℕ → List ℕ
picked c old new l copy before now = copy_after c old new l copy before now

range-back : (b new : BackingView) (l : Line) → HasSameNumbers b new → IsInRange new l → IsInRange b l
range-back b new l n r = rw (n.base, n.line_bytes, n.size) at r

pub memory-took : (d : Design) (w : World) (e : Entry) (b new : BackingView) (log after : Trace) → ShowsMemory d b log w
    → StepsTo (tags_after d w e) (flat_after d w.flat e).memory b new → after ≡ all_noted log (notes_of d w e)
    → ShowsMemory d new after (took d w e)
unfolding picked
memory-took d w e b new log after shows changed noted_is =
    record {
      numbers = record {
        line_bytes = changed.numbers.line_bytes ∙ shows.numbers.line_bytes;
        base = changed.numbers.base ∙ shows.numbers.base;
        shape = same_shape ∙ shows.numbers.shape;
      };
      view = changed.view;
      copies = copies;
      tags = changed.tags;
      log = noted_is ∙ ap (λ t. all_noted t (notes_of d w e)) shows.log ∙ sym (noted_twice (no_notes d.config.trace_last) w.notes (notes_of d w e));
    }
  where
    same_shape : shape_of new ≡ shape_of b
    same_shape = rw (changed.numbers.holders, changed.numbers.sets, changed.numbers.ways) refl

    seen : (l : Line) → view_of new l ≡ flat_line d (flat_after d w.flat e) l
    seen l = rw (changed.numbers.base, changed.numbers.line_bytes, shows.numbers.base, shows.numbers.line_bytes, changed.view) refl

    was : (l : Line) → view_of b l ≡ flat_line d w.flat l
    was l = rw (shows.numbers.base, shows.numbers.line_bytes, shows.view) refl

    copies : (l : Line) → IsInRange new l → copy_of new l ≡ copies_after d w (flat_after d w.flat e) (tags_after d w e) l
    copies l range =
        let inside : IsInRange b l = range-back b new l changed.numbers range in
        let is : copy_of new l ≡ picked (shape_of new) b.tags new.tags l (copy_of b l) (view_of b l) (view_of new l) = changed.copies l inside in
        let to : picked (shape_of new) b.tags new.tags l (copy_of b l) (view_of b l) (view_of new l)
        ≡ picked (hart_shape d) w.tags (tags_after d w e) l (w.copies l) (flat_line d w.flat l) (flat_line d (flat_after d w.flat e) l)
        = go (same_shape ∙ shows.numbers.shape) shows.tags changed.tags (shows.copies l inside) (was l) (seen l) in
        is ∙ to
      where
        go : {c k : Shape} {o p n m : Tags} {x y z u v t : List ℕ} → c ≡ k → o ≡ p → n ≡ m → x ≡ y → z ≡ u → v ≡ t
            → picked c o n l x z v ≡ picked k p m l y u t
        go a f g h i j = cc

-- ---- memory that stays

and_same : (b : Bool) → (b && b) ≡ b
and_same true = refl
and_same false = refl

pub unchanged : (b : BackingView) → IsBacking b → StepsTo b.tags b.view b b
unchanged b is =
    record {
      numbers = record { line_bytes = refl; base = refl; holders = refl; sets = refl; ways = refl; size = refl };
      tags = refl;
      view = refl;
      copies = λ l range. follows b b l is (go l range (is_dirty (shape_of b) b.tags l) refl);
    }
  where
    stays : (l : Line) → has_same_owner (shape_of b) b.tags b.tags l ≡ is_dirty (shape_of b) b.tags l
    stays l = ap (λ (test : ℕ → Bool). some_below b.holders test) (fun_ext (λ k. and_same (is_in_m (held_state (shape_of b) b.tags k l))))

    go : (l : Line) → IsInRange b l → (x : Bool) → is_dirty (shape_of b) b.tags l ≡ x → copy_of b l ≡ copy_next b b l
    go l range true e = rw (stays l, e) refl
    go l range false e = rw e (is.clean l range (clean_by_test b l is e))

pub record LeavesMemory (d : Design) (w : World) (e : Entry) : Type 0 where
  pub tags : tags_after d w e ≡ w.tags
  pub flat : (flat_after d w.flat e).memory ≡ w.flat.memory
  pub notes : notes_of d w e ≡ []

-- memory shows a world after an entry that leaves it
pub memory-stays : (d : Design) (w : World) (e : Entry) (b : BackingView) (log : Trace) → IsBacking b → ShowsMemory d b log w
    → LeavesMemory d w e → ShowsMemory d b log (took d w e)
memory-stays d w e b log is shows quiet =
    memory-took d w e b b log log shows
    (rw (quiet.tags, quiet.flat, ← shows.tags, ← shows.view) (unchanged b is))
    (rw quiet.notes refl)
