-- Memory whose tags are those after a lock: the copies follow.
use Rattle.std.proofs.Common.{◌≡◌, ◌%◌, Bool, true, false, List, [], ◌∷◌, map, cond, eqb, refl, ap, ◌∙◌, Some}
use Rattle.set_assoc.specs.Entries.{lookup}
use Rattle.conda_base.specs.declared.Line.{Line}
use Rattle.conda_base.specs.declared.Mesi.{Mesi}
use Rattle.conda_base.specs.declared.Mesi.TheVariants.{M, E, S}
use Rattle.line_memory.specs.Tags.{Tag, Tags, held_state, is_in_m, cleaned_state}
use Rattle.line_memory.specs.Access.{after_lock, cleaned_tag}
use Rattle.line_memory.specs.Backing.{BackingView, HasSameNumbers, IsBacking, IsInRange, shape_of}
use Rattle.coherent_mem.specs.Steps.{StepsTo}
use Rattle.coherent_mem.proofs.DirtyFacts.{is_dirty, follows}
use Rattle.coherent_mem.proofs.StepFacts.{clean_by_test}
use Rattle.line_memory.proofs.BelowLemmas.{none_found}

clean-state : (l : Line) (ts : List Tag) → is_in_m (lookup l (map cleaned_tag ts)) ≡ false
clean-state l [] = refl
clean-state l (t ∷ ts) = go (eqb t.0.0 l.0) t.1 (clean-state l ts)
  where
    go : (b : Bool) (s : Mesi) → is_in_m (lookup l (map cleaned_tag ts)) ≡ false
        → is_in_m (cond b (Some (cleaned_state s)) (lookup l (map cleaned_tag ts))) ≡ false
    go true M ih = refl
    go true E ih = refl
    go true S ih = refl
    go false s ih = ih

pub range-new : (old new : BackingView) (l : Line) → HasSameNumbers old new → IsInRange old l → IsInRange new l
range-new old new l n r = rw (n.base, n.line_bytes, n.size) r

pub lock-steps : (old new : BackingView) → IsBacking new → HasSameNumbers old new
    → new.tags ≡ after_lock old.tags → new.view ≡ old.view → StepsTo (after_lock old.tags) old.view old new
lock-steps old new is numbers tags view = record {
  numbers = numbers;
  tags = tags;
  view = view;
  copies = λ l range. follows old new l is
      (rw (off l) (is.clean l (range-new old new l numbers range) (clean_by_test new l is (off l))));
}
  where
    off : (l : Line) → is_dirty (shape_of new) new.tags l ≡ false
    off l = none_found new.holders (λ k. is_in_m (held_state (shape_of new) new.tags k l))
        (λ k u. ap (λ (t : Tags). is_in_m (lookup l (t k (l.0 % new.sets)))) tags ∙ clean-state l (old.tags k (l.0 % new.sets)))
