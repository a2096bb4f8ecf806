use Rattle.std.specs.Prelude.{option_copied}
use Rattle.std.proofs.Common.{ap, sym, ◌∙◌}
use Rattle.traffic_trace.specs.declared.note.Kind.TheVariants.{Down}
use Rattle.traffic_trace.specs.Notes.{noted}
use Rattle.cpu_cache.specs.Contents.{Contents, content_of, written_back}
use Rattle.coherent_mem.specs.Parts.{Parts, shown}
use Rattle.coherent_mem.proofs.MarkFacts.{marked_same}
use Rattle.coherent_mem.proofs.MoveFacts.{same_read}
use Rattle.coherent_mem.proofs.DownFacts.{IsSharing, can_share, sharing, sharing_noted}
use Rattle.coherent_mem.proofs.PartFacts.{fields}
use Rattle.coherent_mem.proofs.coherent.Coherent.give_down.Goals as goal

pub keep_shared-requires : goal.keep_shared-requires
keep_shared-requires c =
    let p : Parts = fields c.self.view_is in
    (can_share p c.args.o c.args.l c.index_mut.result.now c.self.invariant.1 (rw (← c.self.view_is) at c.requires) c.index_mut.ensures.value).held

pub write_back-requires : goal.write_back-requires
write_back-requires c =
    let p : Parts = fields c.self.view_is in
    (can_share p c.args.o c.args.l c.index.result.now c.self.invariant.1 (rw (← c.self.view_is) at c.requires) c.index.ensures).inside

pub share-requires-clause-line : goal.share-requires-clause-line
share-requires-clause-line c =
    let p : Parts = fields c.self.view_is in
    (can_share p c.args.o c.args.l c.index_mut.result.now c.self.invariant.1 (rw (← c.self.view_is) at c.requires) c.index_mut.ensures.value).row

pub invariant_of-self : goal.invariant_of-self
invariant_of-self c =
    let p : Parts = fields c.self.view_is in
    let does : IsSharing p c.args.o c.args.l c.index_mut.result.now (option_copied c.modified_bytes-bytes.result) c.keep_shared.new.self c.write_back.new.memory c.share.new.self =
    record { read = c.index_mut.ensures.value; bytes = c.modified_bytes-bytes.ensures.bytes ∙ ap (λ (x : Contents). written_back (content_of x c.args.l)) (same_read p c.args.o c.index.result.now c.index_mut.result.now (can_share p c.args.o c.args.l c.index_mut.result.now c.self.invariant.1 (rw (← c.self.view_is) at c.requires) c.index_mut.ensures.value).holder c.index.ensures c.index_mut.ensures.value); shared = c.keep_shared.ensures.shared; written = c.write_back.ensures.memory; rowed = c.share.ensures.others } in
    let all = sharing _ _ _ _ _ _ _ _ c.self.invariant.1 (rw (← c.self.view_is) at c.requires) does in
    (c.self.invariant.0 ∙ sym all.edits.numbers.line_bytes, all.are, marked_same (shown p) _ _ all.edits.numbers all.quiet.dirty c.self.invariant.2)

pub returns : goal.returns
returns c =
    let p : Parts = fields c.self.view_is in
    let does : IsSharing p c.args.o c.args.l c.index_mut.result.now (option_copied c.modified_bytes-bytes.result) c.keep_shared.new.self c.write_back.new.memory c.share.new.self =
    record { read = c.index_mut.ensures.value; bytes = c.modified_bytes-bytes.ensures.bytes ∙ ap (λ (x : Contents). written_back (content_of x c.args.l)) (same_read p c.args.o c.index.result.now c.index_mut.result.now (can_share p c.args.o c.args.l c.index_mut.result.now c.self.invariant.1 (rw (← c.self.view_is) at c.requires) c.index_mut.ensures.value).holder c.index.ensures c.index_mut.ensures.value); shared = c.keep_shared.ensures.shared; written = c.write_back.ensures.memory; rowed = c.share.ensures.others } in
    record {
      moved = rw (c.settle.ensures, ← c.self.view_is) (sharing _ _ _ _ _ _ _ _ c.self.invariant.1 (rw (← c.self.view_is) at c.requires) does);
      notes = rw (← c.self.view_is)
          (c.note.ensures ∙ ap (λ t. noted t (record { kind = Down; who = c.args.o; line = c.args.l })) c.write_back.ensures.notes ∙
          sharing_noted p c.args.o c.args.l c.index.result.now (option_copied c.modified_bytes-bytes.result) c.args.log.now c.self.invariant.1 (rw (← c.self.view_is) at c.requires) c.index.ensures c.modified_bytes-bytes.ensures.bytes);
    }
