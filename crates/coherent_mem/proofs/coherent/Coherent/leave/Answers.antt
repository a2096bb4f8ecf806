use Rattle.std.specs.Prelude.{option_copied}
use Rattle.std.proofs.Common.{◌<◌, length, ap, sym, ◌∙◌, rules}
use Rattle.cpu_cache.specs.Contents.{Contents, content_of, written_back}
use Rattle.line_memory.specs.Notes.{all_noted}
use Rattle.coherent_mem.specs.Parts.{Parts, shown}
use Rattle.coherent_mem.proofs.MarkFacts.{marked_same}
use Rattle.coherent_mem.proofs.MoveFacts.{same_read, IsLeaving, can_leave, holder_of, leaving, leaving_noted}
use Rattle.coherent_mem.proofs.PartFacts.{fields}
use Rattle.coherent_mem.proofs.coherent.Coherent.leave.Goals as goal

pub drop_line-requires : goal.drop_line-requires
drop_line-requires c =
    let p : Parts = fields c.self.view_is in
    (can_leave p c.args.h c.args.l c.index_mut.result.now c.self.invariant.1 (rw (← c.self.view_is) at c.requires) c.index_mut.ensures.value).held

pub write_back-requires : goal.write_back-requires
write_back-requires c =
    let p : Parts = fields c.self.view_is in
    (can_leave p c.args.h c.args.l c.index.result.now c.self.invariant.1 (rw (← c.self.view_is) at c.requires) c.index.ensures).inside

pub leave-requires : goal.leave-requires
leave-requires c =
    let p : Parts = fields c.self.view_is in
    record {
      line = (can_leave p c.args.h c.args.l c.index_mut.result.now c.self.invariant.1 (rw (← c.self.view_is) at c.requires) c.index_mut.ensures.value).row;
      held = (can_leave p c.args.h c.args.l c.index_mut.result.now c.self.invariant.1 (rw (← c.self.view_is) at c.requires) c.index_mut.ensures.value).has;
    }

pub index_mut-requires : goal.index_mut-requires
index_mut-requires c =
    let p : Parts = fields c.self.view_is in
    let inside : c.args.h < length c.self.inside.caches.items = holder_of p c.args.h c.args.l c.self.invariant.1 (rw (← c.self.view_is) at c.requires) in
    search rules

pub invariant_of-self : goal.invariant_of-self
invariant_of-self c =
    let p : Parts = fields c.self.view_is in
    let does : IsLeaving p c.args.h c.args.l c.index_mut.result.now (option_copied c.modified_bytes-bytes.result) c.drop_line.new.self c.write_back.new.memory c.leave.new.self =
    record { read = c.index_mut.ensures.value; bytes = c.modified_bytes-bytes.ensures.bytes ∙ ap (λ (x : Contents). written_back (content_of x c.args.l)) (same_read p c.args.h c.index.result.now c.index_mut.result.now (can_leave p c.args.h c.args.l c.index_mut.result.now c.self.invariant.1 (rw (← c.self.view_is) at c.requires) c.index_mut.ensures.value).holder c.index.ensures c.index_mut.ensures.value); dropped = c.drop_line.ensures.dropped; written = c.write_back.ensures.memory; rowed = c.leave.ensures.others } in
    let all = leaving _ _ _ _ _ _ _ _ c.self.invariant.1 (rw (← c.self.view_is) at c.requires) does in
    (c.self.invariant.0 ∙ sym all.edits.numbers.line_bytes, all.are, marked_same (shown p) _ _ all.edits.numbers all.quiet.dirty c.self.invariant.2)

pub returns : goal.returns
returns c =
    let p : Parts = fields c.self.view_is in
    let does : IsLeaving p c.args.h c.args.l c.index_mut.result.now (option_copied c.modified_bytes-bytes.result) c.drop_line.new.self c.write_back.new.memory c.leave.new.self =
    record { read = c.index_mut.ensures.value; bytes = c.modified_bytes-bytes.ensures.bytes ∙ ap (λ (x : Contents). written_back (content_of x c.args.l)) (same_read p c.args.h c.index.result.now c.index_mut.result.now (can_leave p c.args.h c.args.l c.index_mut.result.now c.self.invariant.1 (rw (← c.self.view_is) at c.requires) c.index_mut.ensures.value).holder c.index.ensures c.index_mut.ensures.value); dropped = c.drop_line.ensures.dropped; written = c.write_back.ensures.memory; rowed = c.leave.ensures.others } in
    record {
      moved = rw (c.settle.ensures, ← c.self.view_is) (leaving _ _ _ _ _ _ _ _ c.self.invariant.1 (rw (← c.self.view_is) at c.requires) does);
      notes = rw (← c.self.view_is)
          (c.write_back.ensures.notes ∙ ap (λ ns. all_noted c.args.log.now ns)
          (leaving_noted p c.args.h c.args.l c.index.result.now (option_copied c.modified_bytes-bytes.result) c.self.invariant.1 (rw (← c.self.view_is) at c.requires) c.index.ensures c.modified_bytes-bytes.ensures.bytes));
    }
