use Rattle.std.proofs.Common.{false, ◌≡◌, ◌-◌, ◌<◌, ℕ, None, length, ap, sym, subst, ◌∙◌}
use Rattle.std.specs.List.{slice_get}
use Rattle.conda_base.specs.Bytes.{value_at, handed_out}
use Rattle.conda_base.specs.Lines.{line_offset}
use Rattle.conda_base.specs.declared.Line.{Line}
use Rattle.conda_base.specs.declared.Mesi.{Mesi}
use Rattle.conda_base.specs.LineLists.{line_at}
use Rattle.traffic_trace.specs.declared.note.Kind.TheVariants.{Fill}
use Rattle.traffic_trace.specs.Notes.{noted, Trace}
use Rattle.line_memory.specs.Memory.{IsIn}
use Rattle.line_memory.specs.Backing.{view_of, shape_of}
use Rattle.line_memory.specs.Notes.{all_noted, note_of, access_notes}
use Rattle.coherent_mem.specs.Moves.{gone_notes, IsShared, list_at}
use Rattle.coherent_mem.specs.Parts.{Parts, AreParts, shown, held}
use Rattle.coherent_mem.proofs.HitFacts.{access_line, value_of_buffer}
use Rattle.coherent_mem.proofs.MissFacts.{IsRoomy, roomy, line_is, absent_line, range_along, free_to_load, room_size, missed_steps, missed_notes, filled_bytes, loads_clean}
use Rattle.coherent_mem.proofs.coherent.Coherent.load_missed.Goals as goal

pub share_line-state-requires : goal.share_line-state-requires
share_line-state-requires c =
    let p : Parts = c.args.self.now in
    let are : AreParts p = subst (λ (x : Parts). AreParts x) c.self.view_is c.self.invariant.1 in
    let l : Line = c.line_of-l.result in
    let size : c.self.inside.memory.line_bytes ≡ p.memory.line_bytes = ap (λ (x : Parts). x.memory.line_bytes) c.self.view_is in
    let line : l ≡ line_at (shown p).line_bytes c.args.addr = line_is p c.args.addr c.self.inside.line_bytes c.self.inside.memory.line_bytes l c.self.invariant.0 size c.line_of-l.ensures in
    let there : IsIn p.memory l = subst (λ (x : Line). IsIn p.memory x) (sym line) (access_line p are c.args.addr c.args.size c.requires.access) in
    there

pub fill-requires : goal.fill-requires
fill-requires c =
    let p : Parts = c.args.self.now in
    let are : AreParts p = subst (λ (x : Parts). AreParts x) c.self.view_is c.self.invariant.1 in
    let l : Line = c.line_of-l.result in
    let size : c.self.inside.memory.line_bytes ≡ p.memory.line_bytes = ap (λ (x : Parts). x.memory.line_bytes) c.self.view_is in
    let line : l ≡ line_at (shown p).line_bytes c.args.addr = line_is p c.args.addr c.self.inside.line_bytes c.self.inside.memory.line_bytes l c.self.invariant.0 size c.line_of-l.ensures in
    let there : IsIn p.memory l = subst (λ (x : Line). IsIn p.memory x) (sym line) (access_line p are c.args.addr c.args.size c.requires.access) in
    let q : Parts = c.share_line-state.new.self in
    let r : Parts = c.make_room.new.self in
    let state : Mesi = c.share_line-state.result in
    let sharing : IsShared l state p q = c.share_line-state.ensures.shared in
    let count : length q.caches ≡ length p.caches = sharing.numbers.holders in
    let inside : c.args.h < length q.caches = rw count c.requires.holder in
    let room : IsRoomy c.args.h l q r = roomy q r c.args.h l sharing.are inside c.make_room.ensures.room in
    let absent : held p l c.args.h ≡ None = absent_line p c.args.h l (line_at (shown p).line_bytes c.args.addr) line c.requires.absent in
    record {
      line = range_along p q r c.args.h l state are there sharing room;
      free = free_to_load p q r c.args.h l state are absent sharing room;
      room = room_size q r c.args.h l sharing.are room;
      clean = loads_clean c.line_of-l.result c.share_line-state.result c.args.self.now c.share_line-state.new.self c.share_line-state.ensures.shared;
      holder = rw room.numbers.holders inside;
    }

pub make_room-requires : goal.make_room-requires
make_room-requires c = rw c.share_line-state.ensures.shared.numbers.holders c.requires.holder

pub returns : goal.returns
returns c =
    let p : Parts = c.args.self.now in
    let are : AreParts p = subst (λ (x : Parts). AreParts x) c.self.view_is c.self.invariant.1 in
    let l : Line = c.line_of-l.result in
    let size : c.self.inside.memory.line_bytes ≡ p.memory.line_bytes = ap (λ (x : Parts). x.memory.line_bytes) c.self.view_is in
    let line : l ≡ line_at (shown p).line_bytes c.args.addr = line_is p c.args.addr c.self.inside.line_bytes c.self.inside.memory.line_bytes l c.self.invariant.0 size c.line_of-l.ensures in
    let q : Parts = c.share_line-state.new.self in
    let r : Parts = c.make_room.new.self in
    let state : Mesi = c.share_line-state.result in
    let sharing : IsShared l state p q = c.share_line-state.ensures.shared in
    let count : length q.caches ≡ length p.caches = sharing.numbers.holders in
    let inside : c.args.h < length q.caches = rw count c.requires.holder in
    let room : IsRoomy c.args.h l q r = roomy q r c.args.h l sharing.are inside c.make_room.ensures.room in
    let bytes : c.fill.new.line ≡ handed_out (view_of (shown p) (line_at (shown p).line_bytes c.args.addr)) =
    c.fill.ensures.bytes ∙ ap (λ b. handed_out b) (filled_bytes p q r c.args.h l state sharing room ∙ ap (λ x. view_of (shown p) x) line) in
    let absent : held p l c.args.h ≡ None = absent_line p c.args.h l (line_at (shown p).line_bytes c.args.addr) line c.requires.absent in
    record {
      value = c.read_value.ensures ∙ ap (λ (o : ℕ). value_at c.fill.new.line o c.args.size)
          (c.offset_of-offset.ensures.place ∙ ap (λ (n : ℕ). line_offset c.args.addr n) (c.self.invariant.0 ∙ size)) ∙
          value_of_buffer p are c.args.addr c.args.size c.fill.new.line c.requires.access bytes;
      steps = missed_steps p q r c.fill.new.self c.args.h l (line_at (shown p).line_bytes c.args.addr) state line are c.requires.holder absent sharing room c.fill.ensures.moved;
      kept = c.fill.ensures.moved.are;
      notes = c.fill.ensures.notes ∙
          ap (λ (t : Trace). noted t (note_of Fill c.args.h l)) (c.make_room.ensures.notes ∙ ap (λ (t : Trace). all_noted t (gone_notes c.args.h (slice_get (list_at (shown q) c.args.h l) (q.ways - 1)))) c.share_line-state.ensures.notes) ∙
          missed_notes p q c.args.h l state c.args.log.now are c.requires.holder absent sharing ∙
          ap (λ (x : Line). all_noted c.args.log.now (access_notes (shape_of (shown p)) (shown p).tags c.args.h x false)) line;
    }
