use Rattle.std.proofs.Common.{◌-◌, ◌<◌, length, ap, subst, ◌∙◌}
use Rattle.std.specs.List.{slice_get}
use Rattle.conda_base.specs.declared.Line.{Line}
use Rattle.traffic_trace.specs.declared.note.Kind.TheVariants.{Fill}
use Rattle.traffic_trace.specs.Notes.{noted, Trace}
use Rattle.line_memory.specs.Notes.{all_noted, note_of}
use Rattle.coherent_mem.specs.Moves.{gone_notes, IsDropped, list_at}
use Rattle.coherent_mem.specs.Parts.{Parts, AreParts, shown}
use Rattle.coherent_mem.proofs.CopyFacts.{numbers_twice, range_new, range_of}
use Rattle.coherent_mem.proofs.MissFacts.{IsRoomy, roomy, room_size}
use Rattle.coherent_mem.proofs.AloneFacts.{free_to_store, is_free, alone_filled, brought_notes}
use Rattle.coherent_mem.proofs.coherent.Coherent.bring.Goals as goal

pub make_room-requires : goal.make_room-requires
make_room-requires c = rw c.drop_beside.ensures.dropped.numbers.holders c.requires.holder

pub fill-requires : goal.fill-requires
fill-requires c =
    let p : Parts = c.args.self.now in
    let q : Parts = c.drop_beside.new.self in
    let r : Parts = c.make_room.new.self in
    let l : Line = c.args.l in
    let dropped : IsDropped c.args.h l (length p.caches) p q = c.drop_beside.ensures.dropped in
    let inside : c.args.h < length q.caches = rw dropped.numbers.holders c.requires.holder in
    let room : IsRoomy c.args.h l q r = roomy q r c.args.h l dropped.are inside c.make_room.ensures.room in
    let are : AreParts p = subst (λ (x : Parts). AreParts x) c.self.view_is c.self.invariant.1 in
    record {
      holder = rw room.numbers.holders inside;
      line = range_new p r are room.are (numbers_twice (shown p) (shown q) (shown r) dropped.numbers room.numbers) l (range_of p are l c.requires.line);
      free = is_free r c.args.h l (free_to_store p q r c.args.h l are c.requires.absent dropped room);
      room = room_size q r c.args.h l dropped.are room;
      clean = λ same. cc;
    }

pub returns : goal.returns
returns c =
    let p : Parts = c.args.self.now in
    let are : AreParts p = subst (λ (x : Parts). AreParts x) c.self.view_is c.self.invariant.1 in
    let q : Parts = c.drop_beside.new.self in
    let r : Parts = c.make_room.new.self in
    let l : Line = c.args.l in
    let dropped : IsDropped c.args.h l (length p.caches) p q = c.drop_beside.ensures.dropped in
    let inside : c.args.h < length q.caches = rw dropped.numbers.holders c.requires.holder in
    let room : IsRoomy c.args.h l q r = roomy q r c.args.h l dropped.are inside c.make_room.ensures.room in
    record {
      alone = alone_filled p q r c.fill.new.self c.args.h l are c.requires.absent dropped room c.fill.ensures.moved;
      notes = c.fill.ensures.notes ∙
          ap (λ (t : Trace). noted t (note_of Fill c.args.h l)) (c.make_room.ensures.notes ∙ ap (λ (t : Trace). all_noted t (gone_notes c.args.h (slice_get (list_at (shown q) c.args.h l) (q.ways - 1)))) c.drop_beside.ensures.notes) ∙
          brought_notes p q c.args.h l c.args.log.now are c.requires.holder c.requires.absent dropped;
    }
