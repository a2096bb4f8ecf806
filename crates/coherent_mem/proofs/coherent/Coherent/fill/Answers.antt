use Rattle.std.proofs.Common.{◌<◌, length, ap, ◌∙◌}
use Rattle.conda_base.specs.Bytes.{handed_out}
use Rattle.line_memory.specs.Memory.{IsIn}
use Rattle.coherent_mem.specs.Parts.{Parts, shown}
use Rattle.coherent_mem.specs.Moves.{list_at, IsFree}
use Rattle.coherent_mem.proofs.MarkFacts.{marked_same}
use Rattle.coherent_mem.proofs.FillFacts.{IsFilling, filling, seen_shared}
use Rattle.coherent_mem.proofs.PartFacts.{fields}
use Rattle.coherent_mem.proofs.coherent.Coherent.fill.Goals as goal

pub invariant_of-self : goal.invariant_of-self
invariant_of-self c =
    let p : Parts = fields c.self.view_is in
    let inside : c.args.h < length p.caches = rw (← c.self.view_is) at c.requires.holder in
    let there : IsIn p.memory c.args.l = rw (← c.self.view_is) at c.requires.line in
    let free : IsFree p c.args.l c.args.h c.args.state = rw (← c.self.view_is) at c.requires.free in
    let room : length (list_at (shown p) c.args.h c.args.l) < p.ways = rw (← c.self.view_is) at c.requires.room in
    let does : IsFilling p c.args.h c.args.l c.args.state c.read.new.out c.index_mut.result.now c.fill.new.self c.take_row.new.directory =
    record { read = c.index_mut.ensures.value; from = c.read.ensures; put = c.fill.ensures.front; rowed = c.take_row.ensures } in
    let all = filling _ _ _ _ _ _ _ _ c.self.invariant.1 inside there c.requires.clean free room does in
    (c.self.invariant.0, all.are, marked_same (shown p) _ _ all.edits.numbers all.quiet.dirty c.self.invariant.2)

pub returns : goal.returns
returns c =
    let p : Parts = fields c.self.view_is in
    let inside : c.args.h < length p.caches = rw (← c.self.view_is) at c.requires.holder in
    let there : IsIn p.memory c.args.l = rw (← c.self.view_is) at c.requires.line in
    let free : IsFree p c.args.l c.args.h c.args.state = rw (← c.self.view_is) at c.requires.free in
    let room : length (list_at (shown p) c.args.h c.args.l) < p.ways = rw (← c.self.view_is) at c.requires.room in
    let does : IsFilling p c.args.h c.args.l c.args.state c.read.new.out c.index_mut.result.now c.fill.new.self c.take_row.new.directory =
    record { read = c.index_mut.ensures.value; from = c.read.ensures; put = c.fill.ensures.front; rowed = c.take_row.ensures } in
    record {
      moved = rw (← c.self.view_is) (filling _ _ _ _ _ _ _ _ c.self.invariant.1 inside there c.requires.clean free room does);
      bytes = rw (← c.self.view_is) (c.read.ensures ∙ ap handed_out (seen_shared p c.self.invariant.1 c.args.l there free.shared));
      notes = c.note.ensures;
    }
