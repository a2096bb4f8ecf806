use Rattle.std.proofs.Common.{◌∙◌, sym, subst, arith, add-one}
use Rattle.flat_check.specs.Portions.{HasActed}
use Rattle.flat_check.proofs.portions.run_portion.Goals as goal

pub loop-k-preserved : goal.loop-k-preserved
loop-k-preserved c = record {
  acts = λ s f stored same start.
      subst (λ n. HasActed s f c.args.j n stored c.args.marks.now c.act_on-found.new.memory c.act_on-found.new.core c.act_on-found.new.marks c.act_on-found.result.lowest c.act_on-found.result.puts)
      (sym (add-one c.loop-k._k))
      (c.act_on-found.ensures.acts s f c.loop-k._k stored c.args.marks.now same c.loop-k.invariant.many (c.loop-k.invariant.acts s f stored same start));
  long = c.act_on-found.ensures.long ∙ c.loop-k.invariant.long;
  same = c.act_on-found.ensures.long ∙ c.loop-k.invariant.same;
  many = c.act_on-found.auto.marks ∙ c.loop-k.invariant.many;
  marks = c.act_on-found.ensures.marks;
  few = omega (arith, c.act_on-found.ensures.few, c.loop-k.invariant.few);
}
