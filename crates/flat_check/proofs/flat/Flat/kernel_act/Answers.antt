use Rattle.std.proofs.Common.{◌+◌, ◌∙◌, sym, ap}
use Rattle.std.proofs.lemmas.List.{with_items_is}
use Rattle.offload_calls.specs.declared.status.Core.{Core}
use Rattle.offload_calls.specs.CoreActs.{core_runs}
use Rattle.flat_check.specs.Flats.{flat_parts}
use Rattle.flat_check.proofs.MachineFacts.{core-is, made_act, no_act}
use Rattle.flat_check.proofs.flat.Flat.kernel_act.Goals as goal

pub returns-then-not-is_running_core-clause-acts : goal.returns-then-not-is_running_core-clause-acts
returns-then-not-is_running_core-clause-acts c = λ s f same sh.
    no_act s (flat_parts c.args.self.now) f c.args.j sh
    (ap (λ (x : Core). core_runs x.status) (sym (c.core-core.ensures ∙ core-is s (flat_parts c.args.self.now) f c.args.j sh c.requires.there))
    ∙ sym c.is_running_core.ensures ∙ c.if-not-is_running_core.true)

pub returns-clause-acts : goal.returns-clause-acts
returns-clause-acts c = λ s f same sh.
    made_act s c.args.code.now (flat_parts c.args.self.now) (flat_parts c.put_core.new.self) f c.args.j c.deref_mut.result.now c.core_act-act.new.memory c.core-core.result c.core_act-act.new.core
    c.core_act-act.result.access c.core_act-act.result.put same sh c.deref_mut.ensures.value
    (c.core-core.ensures ∙ core-is s (flat_parts c.args.self.now) f c.args.j sh c.requires.there)
    (record {
      runs = sym c.is_running_core.ensures ∙ c.if-not-is_running_core.false;
      core_is = c.core_act-act.ensures.core;
      memory_is = c.core_act-act.ensures.memory;
      access_is = c.core_act-act.ensures.access;
      puts_are = c.core_act-act.ensures.put;
      fits = c.core_act-act.ensures.fits;
    })
    (ap (λ v. v.items) c.put_core.ensures.memory
    ∙ with_items_is c.args.self.now.memory c.core_act-act.new.memory (c.core_act-act.ensures.long ∙ c.deref_mut.ensures.len))
    (record {
      harts = ap (λ v. v.items) c.put_core.ensures.harts;
      statuses = c.put_core.ensures.statuses;
      regs = c.put_core.ensures.regs;
      output = c.put_core.ensures.output ∙ ap (λ n. c.args.self.now.output + n) c.count_of.ensures;
    })
