use Rattle.traffic_trace.specs.Notes.{noted}
use Rattle.traffic_trace.specs.declared.note.Kind.TheVariants.{Evict}
use Rattle.line_memory.specs.Notes.{note_of}
use Rattle.std.proofs.Common.{ap, ◌∙◌, ◌≡◌, ◌-◌, ◌<◌, length, Some}
use Rattle.std.specs.List.{slice_get}
use Rattle.line_memory.specs.Tags.{Tag}
use Rattle.coherent_mem.specs.Parts.{Parts, shown}
use Rattle.coherent_mem.specs.Moves.{list_at}
use Rattle.coherent_mem.proofs.RoomFacts.{last_line, last_state, room_made, room_noted}
use Rattle.coherent_mem.proofs.PartFacts.{fields}
use Rattle.coherent_mem.proofs.coherent.Coherent.make_room.Goals as goal

pub leave-requires : goal.leave-requires
leave-requires c =
    let p : Parts = fields c.self.view_is in
    let tag : Tag = (c.in-Some.k, c.in-Some.field-0-1) in
    let inside : c.args.h < length p.caches = rw (← c.self.view_is) at c.requires in
    let at : slice_get (list_at (shown p) c.args.h c.args.l) (p.ways - 1) ≡ Some tag =
    last_line p c.args.h c.args.l c.index.result.now c.at.result tag inside c.index.ensures c.at.ensures c.in-Some.is in
    rw (← c.self.view_is) (last_state p c.self.invariant.1 c.args.h c.args.l tag inside at)

pub returns-in-Some : goal.returns-in-Some
returns-in-Some c =
    let p : Parts = fields c.self.view_is in
    let tag : Tag = (c.in-Some.k, c.in-Some.field-0-1) in
    let inside : c.args.h < length p.caches = rw (← c.self.view_is) at c.requires in
    let at : slice_get (list_at (shown p) c.args.h c.args.l) (p.ways - 1) ≡ Some tag =
    last_line p c.args.h c.args.l c.index.result.now c.at.result tag inside c.index.ensures c.at.ensures c.in-Some.is in
    record {
      room = rw (← c.self.view_is) (rw at (room_made p c.leave.new.self c.args.h c.args.l tag c.self.invariant.1 inside at (rw (← c.self.view_is) at c.leave.ensures.moved)));
      notes = rw (← c.self.view_is) (room_noted p c.args.h c.args.l tag c.args.log.now c.note.new.self c.self.invariant.1 inside at
          (c.note.ensures ∙ ap (λ t. noted t (note_of Evict c.args.h c.in-Some.k)) (rw (← c.self.view_is) at c.leave.ensures.notes)));
    }
