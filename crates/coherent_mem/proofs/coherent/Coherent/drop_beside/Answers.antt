use Rattle.std.proofs.Common.{inl, inr, subst, ap, ◌∙◌}
use Rattle.traffic_trace.specs.Notes.{noted}
use Rattle.traffic_trace.specs.declared.note.Kind.TheVariants.{Drop}
use Rattle.line_memory.specs.Notes.{note_of}
use Rattle.line_memory.specs.Memory.{IsIn}
use Rattle.coherent_mem.specs.Parts.{Parts, AreParts}
use Rattle.coherent_mem.proofs.CopyFacts.{range_new, range_of}
use Rattle.coherent_mem.proofs.DropFacts.{IsNext, next_more, next_skip, some_by_test, state_by_test}
use Rattle.coherent_mem.proofs.coherent.Coherent.drop_beside.Goals.{then-k-h+then-is_holder, else-k-h, else-k-h-via-then-k-h+else-is_holder, else-k-h-via-else-k-h}
use Rattle.coherent_mem.proofs.coherent.Coherent.drop_beside.Goals as goal

pub is_holder-requires-clause-line : goal.is_holder-requires-clause-line
is_holder-requires-clause-line c =
    let p : Parts = c.args.self.now in
    let are : AreParts p = subst (λ (x : Parts). AreParts x) c.self.view_is c.self.invariant.1 in
    let so_far = c.loop-k.invariant.dropped in
    range_new p c.loop-k.self are so_far.are so_far.numbers c.args.l (range_of p are c.args.l c.requires)

pub loop-k-preserved : goal.loop-k-preserved
loop-k-preserved c =
    let p : Parts = c.args.self.now in
    let so_far = c.loop-k.invariant.dropped in
    let notes = c.loop-k.invariant.notes in
    let are : AreParts p = subst (λ (x : Parts). AreParts x) c.self.view_is c.self.invariant.1 in
    let there : IsIn c.loop-k.self.memory c.args.l = range_new p c.loop-k.self are so_far.are so_far.numbers c.args.l (range_of p are c.args.l c.requires) in
    let all : IsNext p c.if-k-h.self c.args.h c.loop-k.k c.args.l c.args.log.now c.if-k-h.log =
    elim c.if-k-h.branch [
      | then-k-h+then-is_holder w ↦ next_more p c.loop-k.self w.leave.new.self c.if-k-h.self c.args.h c.loop-k.k c.args.l c.args.log.now c.loop-k.log w.note.new.self c.if-k-h.log so_far there notes w.if-k-h.true w.leave.ensures.moved (some_by_test _ _ w.is_holder.ensures w.if-is_holder.true) (w.note.ensures ∙ ap (λ t. noted t (note_of Drop c.loop-k.k c.args.l)) w.leave.ensures.notes) w.self-is w.log-is
      | else-k-h w ↦ elim w.else-k-h.branch [
        | else-k-h-via-then-k-h+else-is_holder v ↦ next_skip p c.loop-k.self c.if-k-h.self c.args.h c.loop-k.k c.args.l c.args.log.now c.loop-k.log c.if-k-h.log so_far notes (inr (state_by_test _ _ v.is_holder.ensures v.if-is_holder.false)) w.self-is w.log-is
        | else-k-h-via-else-k-h v ↦ next_skip p c.loop-k.self c.if-k-h.self c.args.h c.loop-k.k c.args.l c.args.log.now c.loop-k.log c.if-k-h.log so_far notes (inl v.if-k-h.false) w.self-is w.log-is
      ]
    ] in
    record { dropped = all.dropped; notes = all.notes }
