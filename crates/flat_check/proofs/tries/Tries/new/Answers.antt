use Rattle.std.proofs.Common.{◌<◌, ◌+◌, ◌++◌, ◌∷◌, [], ◌∙◌, sym, ap, subst, length, List, ℕ}
use Rattle.std.proofs.lemmas.List.{length_push}
use Rattle.flat_check.proofs.TryFacts.{all-fit-as, all-fit-push}
use Rattle.flat_check.proofs.tries.Tries.new.Goals as goal

pub loop-j-preserved : goal.loop-j-preserved
loop-j-preserved c = record {
  many = ap length c.in_ok-push.ensures.items ∙ length_push c.loop-j.marks.items c.in_ok-new.field-0 ∙ ap (λ n. n + 1) c.loop-j.invariant.many;
  fit =
      all-fit-as c.push.new.self.items (c.loop-j.marks.items ++ c.in_ok-new.field-0 ∷ []) c.args.code.now c.in_ok-push.ensures.items
      (all-fit-push c.loop-j.marks.items c.in_ok-new.field-0 c.args.code.now c.loop-j.invariant.fit
      (record {
        places = λ place u. c.in_ok-new.ensures.room place (subst (λ (bytes : List ℕ). place < length bytes) (sym c.bytes.ensures.value) u);
        even = c.requires.even;
      }));
}
