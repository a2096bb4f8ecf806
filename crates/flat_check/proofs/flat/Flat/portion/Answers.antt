use Rattle.std.proofs.Common.{◌∙◌, ap}
use Rattle.std.proofs.lemmas.List.{with_items_is}
use Rattle.flat_check.specs.Flats.{flat_parts}
use Rattle.flat_check.proofs.MachineFacts.{core-is, made_portion}
use Rattle.flat_check.proofs.StepFacts.{acted_start}
use Rattle.flat_check.proofs.flat.Flat.portion.Goals as goal

pub returns-clause-acts : goal.returns-clause-acts
returns-clause-acts c = λ s f stored same sh own.
    made_portion s (flat_parts c.args.self.now) (flat_parts c.put_core.new.self) f c.args.j c.args.n stored c.args.marks.now c.run_portion-found.new.marks
    c.run_portion-found.new.memory c.run_portion-found.new.core c.run_portion-found.result.lowest c.run_portion-found.result.puts sh
    (c.run_portion-found.ensures.acts s f stored same
    (acted_start s f c.args.j stored c.deref_mut.result.now c.core-core.result c.args.marks.now (c.deref_mut.ensures.value ∙ sh.memory)
    (c.core-core.ensures ∙ core-is s (flat_parts c.args.self.now) f c.args.j sh c.requires.there) own))
    (ap (λ v. v.items) c.put_core.ensures.memory
    ∙ with_items_is c.args.self.now.memory c.run_portion-found.new.memory (c.run_portion-found.ensures.long ∙ c.deref_mut.ensures.len))
    (record {
      harts = ap (λ v. v.items) c.put_core.ensures.harts;
      statuses = c.put_core.ensures.statuses;
      regs = c.put_core.ensures.regs;
      output = c.put_core.ensures.output;
    })
