use Rattle.std.proofs.Common.{◌+◌, ◌∙◌, refl, ap, length, set}
use Rattle.std.proofs.lemmas.Option.{slice_get_read}
use Rattle.std.specs.Vec.{with_items}
use Rattle.std.proofs.lemmas.List.{with_items_is}
use Rattle.flat_check.specs.Acts.{count_of_put}
use Rattle.flat_check.specs.Flats.{flat_parts, with_launch}
use Rattle.flat_check.proofs.MachineFacts.{stepped_from}
use Rattle.flat_check.proofs.flat.Flat.step.Goals as goal

pub returns-clause-steps : goal.returns-clause-steps
returns-clause-steps c = λ s f same sh.
    stepped_from s c.args.code.now (flat_parts c.args.self.now) (record {
      memory = (with_items c.args.self.now.memory c.hart_turn-acted.new.memory).items;
      harts = set c.args.self.now.harts.items c.args.h c.hart_turn-acted.new.hart;
      statuses = c.hart_turn-acted.new.cores.items;
      regs = (with_items c.args.self.now.regs c.start_core.new.regs).items;
      output = c.args.self.now.output + c.from.result;
    }) f c.args.h c.deref_mut.result.now c.index_mut.result.now c.hart_turn-acted.new.hart
    c.hart_turn-acted.result.launch (count_of_put c.hart_turn-acted.result.act.put) c.hart_turn-acted.result.act.access same sh c.deref_mut.ensures.value
    (slice_get_read c.args.self.now.harts.items (length c.args.self.now.harts.items) c.args.h c.index_mut.result.now refl c.requires.there c.index_mut.ensures.value)
    c.hart_turn-acted.ensures.effect
    (with_items_is c.args.self.now.memory c.hart_turn-acted.new.memory (c.hart_turn-acted.ensures.long ∙ c.deref_mut.ensures.len) ∙ c.hart_turn-acted.ensures.memory)
    c.hart_turn-acted.ensures.stores refl
    (with_items_is c.args.self.now.regs c.start_core.new.regs (c.start_core.auto.regs ∙ c.deref_mut-2.ensures.len) ∙ c.start_core.ensures ∙ ap (with_launch c.hart_turn-acted.result.launch) c.deref_mut-2.ensures.value)
    (ap (λ n. c.args.self.now.output + n) (c.from.ensures ∙ c.count_of.ensures))
