use Rattle.std.proofs.Common.{ap, sym, ◌∙◌}
use Rattle.line_memory.specs.Memory.{IsIn}
use Rattle.line_memory.specs.Notes.{all_noted}
use Rattle.coherent_mem.specs.Parts.{Parts}
use Rattle.coherent_mem.proofs.ShareFacts.{owner_state, shared_nobody, noted_nobody, shared_sharers, noted_sharers, shared_owner, noted_owner, some_bits}
use Rattle.coherent_mem.proofs.PartFacts.{fields}
use Rattle.coherent_mem.proofs.coherent.Coherent.share_line.Goals as goal

pub give_down-requires : goal.give_down-requires
give_down-requires c =
    let p : Parts = fields c.self.view_is in
    let there : IsIn p.memory c.args.l = rw (← c.self.view_is) at c.requires in
    rw (← c.self.view_is) (owner_state p c.args.l c.in-Owner.o c.self.invariant.1 there (sym c.row.ensures.value ∙ c.in-Owner.is))

pub returns-in-Nobody : goal.returns-in-Nobody
returns-in-Nobody c =
    let p : Parts = fields c.self.view_is in
    let there : IsIn p.memory c.args.l = rw (← c.self.view_is) at c.requires in
    record {
      shared = rw (← c.self.view_is) (shared_nobody p c.args.l c.self.invariant.1 there (sym c.row.ensures.value ∙ c.in-Nobody.is));
      notes = rw (← c.self.view_is) (sym (ap (λ ns. all_noted c.args.log.now ns) (noted_nobody p c.args.l c.self.invariant.1 there (sym c.row.ensures.value ∙ c.in-Nobody.is))));
    }

pub returns-in-Shared : goal.returns-in-Shared
returns-in-Shared c =
    let p : Parts = fields c.self.view_is in
    let there : IsIn p.memory c.args.l = rw (← c.self.view_is) at c.requires in
    record {
      shared = rw (← c.self.view_is) (shared_sharers p c.args.l c.in-Shared.field-0 c.self.invariant.1 there (sym c.row.ensures.value ∙ c.in-Shared.is) (some_bits c.row.result c.in-Shared.field-0 c.in-Shared.is c.row.ensures.valid));
      notes = rw (← c.self.view_is) (sym (ap (λ ns. all_noted c.args.log.now ns) (noted_sharers p c.args.l c.in-Shared.field-0 c.self.invariant.1 there (sym c.row.ensures.value ∙ c.in-Shared.is))));
    }

pub returns-in-Owner : goal.returns-in-Owner
returns-in-Owner c =
    let p : Parts = fields c.self.view_is in
    let there : IsIn p.memory c.args.l = rw (← c.self.view_is) at c.requires in
    let told = rw (← c.self.view_is) at c.give_down.ensures.notes in
    record {
      shared = rw (← c.self.view_is) (shared_owner p c.give_down.new.self c.args.l c.in-Owner.o c.self.invariant.1 there (sym c.row.ensures.value ∙ c.in-Owner.is) (rw (← c.self.view_is) at c.give_down.ensures.moved));
      notes = rw (← c.self.view_is) (told ∙ sym (ap (λ ns. all_noted c.args.log.now ns) (noted_owner p c.args.l c.in-Owner.o c.self.invariant.1 there (sym c.row.ensures.value ∙ c.in-Owner.is))));
    }
