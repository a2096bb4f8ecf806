-- Memory that stays as it is.
use Rattle.std.proofs.Common.{◌≡◌, ℕ, Bool, true, false, ◌&&◌, refl, ap}
use Rattle.std.proofs.Math.Path.{fun_ext}
use Rattle.conda_base.specs.declared.Line.{Line}
use Rattle.line_memory.specs.Tags.{held_state, is_in_m, some_below}
use Rattle.line_memory.specs.Backing.{BackingView, IsBacking, IsInRange, shape_of, copy_of}
use Rattle.line_memory.specs.Copies.{has_same_owner}
use Rattle.coherent_mem.specs.Steps.{StepsTo}
use Rattle.coherent_mem.proofs.DirtyFacts.{is_dirty, copy_next, follows}
use Rattle.coherent_mem.proofs.StepFacts.{clean_by_test}

and_same : (b : Bool) → (b && b) ≡ b
and_same true = refl
and_same false = refl

pub unchanged : (b : BackingView) → IsBacking b → StepsTo b.tags b.view b b
unchanged b is =
    record {
      numbers = record { line_bytes = refl; base = refl; holders = refl; sets = refl; ways = refl; size = refl };
      tags = refl;
      view = refl;
      copies = λ l range. follows b b l is (go l range (is_dirty (shape_of b) b.tags l) refl);
    }
  where
    stays : (l : Line) → has_same_owner (shape_of b) b.tags b.tags l ≡ is_dirty (shape_of b) b.tags l
    stays l = ap (λ (test : ℕ → Bool). some_below b.holders test)
        (fun_ext (λ k. and_same (is_in_m (held_state (shape_of b) b.tags k l))))

    go : (l : Line) → IsInRange b l → (x : Bool) → is_dirty (shape_of b) b.tags l ≡ x → copy_of b l ≡ copy_next b b l
    go l range true e = rw (stays l, e) refl
    go l range false e = rw e (is.clean l range (clean_by_test b l is e))
