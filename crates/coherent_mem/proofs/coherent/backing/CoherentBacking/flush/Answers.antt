use Rattle.std.specs.Prelude.{option_copied}
use Rattle.conda_base.specs.Bytes.{handed_out}
use Rattle.coherent_mem.specs.Moves.{backed, backed_notes}
use Rattle.std.proofs.Common.{◌≡◌, Some, ◌<◌, List, length, ap, sym, subst, ◌∙◌, rules}
use Rattle.std.proofs.lemmas.List.{length-set}
use Rattle.traffic_trace.specs.declared.note.Note.{Note}
use Rattle.line_memory.specs.Memory.{Memory}
use Rattle.line_memory.specs.Backing.{BackingView, IsBacking, IsDirty}
use Rattle.line_memory.specs.Notes.{all_noted}
use Rattle.line_memory.specs.Access.{after_flush}
use Rattle.coherent_mem.specs.Steps.{StepsTo}
use Rattle.coherent_mem.specs.Marked.{AreMarked}
use Rattle.coherent_mem.specs.Parts.{Parts, shown}
use Rattle.coherent_mem.proofs.StepFacts.{flushed_steps}
use Rattle.coherent_mem.proofs.CopyFacts.{range_of}
use Rattle.coherent_mem.proofs.MarkFacts.{marked_flushed}
use Rattle.coherent_mem.proofs.PartFacts.{row_in}
use Rattle.coherent_mem.proofs.ViewFacts.{held_inside}
use Rattle.coherent_mem.proofs.CoherentFacts.{coherent}
use Rattle.coherent_mem.proofs.FlushFacts.{back_of, IsDirtyAt, dirty_at, dirty_owner, can_clean, flushing}
use Rattle.coherent_mem.proofs.PartFacts.{fields}
use Rattle.coherent_mem.proofs.coherent.backing.CoherentBacking.flush.Goals as goal

pub row-requires : goal.row-requires
row-requires c =
    let p : Parts = fields c.self.view_is in
    let dirty : IsDirty (shown p) c.args.l = rw (← c.self.view_is) at c.requires in
    row_in p c.self.invariant.1 c.args.l (dirty_at p c.args.l c.self.invariant.1 dirty).1.inside

pub index-requires : goal.index-requires
index-requires c =
    let p : Parts = fields c.self.view_is in
    let dirty : IsDirty (shown p) c.args.l = rw (← c.self.view_is) at c.requires in
    let owner : IsDirtyAt p c.args.l c.in-Owner.o = dirty_owner p c.args.l c.in-Owner.o c.self.invariant.1 dirty (sym c.row.ensures.value ∙ c.in-Owner.is) in
    let inside : c.in-Owner.o < length c.self.inside.caches.items = held_inside p c.args.l c.in-Owner.o owner.content owner.held in
    search rules

pub index_mut-requires : goal.index_mut-requires
index_mut-requires c =
    let p : Parts = fields c.self.view_is in
    let dirty : IsDirty (shown p) c.args.l = rw (← c.self.view_is) at c.requires in
    let owner : IsDirtyAt p c.args.l c.in-Owner.o = dirty_owner p c.args.l c.in-Owner.o c.self.invariant.1 dirty (sym c.row.ensures.value ∙ c.in-Owner.is) in
    let inside : c.in-Owner.o < length c.self.inside.caches.items = held_inside p c.args.l c.in-Owner.o owner.content owner.held in
    search rules

pub keep_exclusive-requires : goal.keep_exclusive-requires
keep_exclusive-requires c =
    let p : Parts = fields c.self.view_is in
    let dirty : IsDirty (shown p) c.args.l = rw (← c.self.view_is) at c.requires in
    let owner : IsDirtyAt p c.args.l c.in-Owner.o = dirty_owner p c.args.l c.in-Owner.o c.self.invariant.1 dirty (sym c.row.ensures.value ∙ c.in-Owner.is) in
    can_clean p c.in-Owner.o c.args.l c.index_mut.result.now c.self.invariant.1 owner c.index_mut.ensures.value

pub write_back-requires : goal.write_back-requires
write_back-requires c =
    let p : Parts = fields c.self.view_is in
    let dirty : IsDirty (shown p) c.args.l = rw (← c.self.view_is) at c.requires in
    let owner : IsDirtyAt p c.args.l c.in-Owner.o = dirty_owner p c.args.l c.in-Owner.o c.self.invariant.1 dirty (sym c.row.ensures.value ∙ c.in-Owner.is) in
    owner.inside

pub invariant_of-self : goal.invariant_of-self
invariant_of-self c =
    let p : Parts = fields c.self.view_is in
    let dirty : IsDirty (shown p) c.args.l = rw (← c.self.view_is) at c.requires in
    let owner : IsDirtyAt p c.args.l c.in-Owner.o = dirty_owner p c.args.l c.in-Owner.o c.self.invariant.1 dirty (sym c.row.ensures.value ∙ c.in-Owner.is) in
    let handed : option_copied c.modified_bytes-bytes.result ≡ Some (handed_out owner.content.bytes) = back_of p c.in-Owner.o c.args.l c.index.result.now _ c.self.invariant.1 owner c.index.ensures c.modified_bytes-bytes.ensures.bytes in
    let all = flushing p c.in-Owner.o c.args.l c.index_mut.result.now c.keep_exclusive.new.self (option_copied c.modified_bytes-bytes.result) c.write_back.new.memory c.self.invariant.1 owner c.index_mut.ensures.value handed c.keep_exclusive.ensures.exclusive c.write_back.ensures.memory in
    (c.self.invariant.0 ∙ sym (ap (λ (m : Memory). m.line_bytes) (c.write_back.ensures.memory ∙ ap (λ b. backed p.memory c.args.l b) handed)), all.are, subst (λ (b : BackingView). AreMarked b c.self.inside.marks.items) (sym all.flushed) (marked_flushed (shown p) c.args.l c.self.inside.marks.items c.self.invariant.2))

pub returns-in-Owner : goal.returns-in-Owner
returns-in-Owner c =
    let p : Parts = fields c.self.view_is in
    let dirty : IsDirty (shown p) c.args.l = rw (← c.self.view_is) at c.requires in
    let owner : IsDirtyAt p c.args.l c.in-Owner.o = dirty_owner p c.args.l c.in-Owner.o c.self.invariant.1 dirty (sym c.row.ensures.value ∙ c.in-Owner.is) in
    let handed : option_copied c.modified_bytes-bytes.result ≡ Some (handed_out owner.content.bytes) = back_of p c.in-Owner.o c.args.l c.index.result.now _ c.self.invariant.1 owner c.index.ensures c.modified_bytes-bytes.ensures.bytes in
    let all = flushing p c.in-Owner.o c.args.l c.index_mut.result.now c.keep_exclusive.new.self (option_copied c.modified_bytes-bytes.result) c.write_back.new.memory c.self.invariant.1 owner c.index_mut.ensures.value handed c.keep_exclusive.ensures.exclusive c.write_back.ensures.memory in
    record {
      flushed = rw (c.settle.ensures, ← c.self.view_is) all.flushed;
      steps = rw (c.settle.ensures, ← c.self.view_is) (subst (λ (b : BackingView). StepsTo (after_flush (shown p).tags c.args.l) (shown p).view (shown p) b) (sym all.flushed)
          (flushed_steps (shown p) c.args.l (coherent p c.self.invariant.1).backing (subst (λ (b : BackingView). IsBacking b) all.flushed (coherent _ all.are).backing) (range_of p c.self.invariant.1 c.args.l owner.inside)));
      notes = rw (← c.self.view_is) (c.write_back.ensures.notes ∙ ap (λ b. all_noted c.args.log.now (backed_notes c.in-Owner.o c.args.l b)) handed ∙ sym (ap (λ (ns : List Note). all_noted c.args.log.now ns) all.notes));
      kept = rw c.settle.ensures (coherent _ all.are);
    }

pub returns-in_default : goal.returns-in_default
returns-in_default c =
    let p : Parts = fields c.self.view_is in
    let dirty : IsDirty (shown p) c.args.l = rw (← c.self.view_is) at c.requires in
    let found = dirty_at p c.args.l c.self.invariant.1 dirty in
    absurd (c.in_default.not-Owner found.0 (c.row.ensures.value ∙ found.1.row))

pub settle-requires : goal.settle-requires
settle-requires c =
    let p : Parts = fields c.self.view_is in
    let dirty : IsDirty (shown p) c.args.l = rw (← c.self.view_is) at c.requires in
    let owner : IsDirtyAt p c.args.l c.in-Owner.o = dirty_owner p c.args.l c.in-Owner.o c.self.invariant.1 dirty (sym c.row.ensures.value ∙ c.in-Owner.is) in
    let inside : c.in-Owner.o < length c.self.inside.caches.items = held_inside p c.args.l c.in-Owner.o owner.content owner.held in
    rw (length-set p.caches c.in-Owner.o c.keep_exclusive.new.self) inside
