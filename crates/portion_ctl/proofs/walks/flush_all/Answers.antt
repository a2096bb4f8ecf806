use Rattle.std.proofs.Common.{ap, sym, ◌∙◌, ◌+◌}
use Rattle.line_memory.specs.Backing.{BackingView, dirty_from, dirty_in, flushed}
use Rattle.line_memory.specs.Notes.{all_noted}
use Rattle.line_memory.proofs.WalkLemmas.{dirty_from-zero}
use Rattle.traffic_trace.specs.Notes.{Trace}
use Rattle.portion_ctl.specs.Walks.{all_flushed}
use Rattle.portion_ctl.proofs.WalkFacts.{all_flush_notes, all_flush_notes-before, flush-step}
use Rattle.portion_ctl.proofs.walks.flush_all.Goals as goal

pub loop-place-init : goal.loop-place-init
loop-place-init g c =
    let b : BackingView = g.B.Backing.shown c.args.mem.now in
    record {
      memory = ap (all_flushed b) (dirty_from-zero b);
      notes = ap (λ ls. all_noted c.args.log.now (all_flush_notes b ls)) (dirty_from-zero b);
    }

pub loop-place-preserved : goal.loop-place-preserved
loop-place-preserved g c =
    let b : BackingView = g.B.Backing.shown c.loop-place.mem in
    let step = flush-step b c.loop-place.from c.in-Some.place c.in-Some.l c.loop-place.log c.in-Some.ensures.kept c.in-Some.ensures.first in
    record {
      memory = ap (λ (m : BackingView). all_flushed m (dirty_from m (c.in-Some.place + 1))) c.flush.ensures.flushed ∙ step.memory ∙ c.loop-place.invariant.memory;
      notes =
          ap (λ (m : BackingView). all_noted c.flush.new.log (all_flush_notes m (dirty_from m (c.in-Some.place + 1)))) c.flush.ensures.flushed
          ∙ ap (λ (log : Trace). all_noted log (all_flush_notes (flushed b c.in-Some.l) (dirty_from (flushed b c.in-Some.l) (c.in-Some.place + 1)))) c.flush.ensures.notes
          ∙ step.notes ∙ c.loop-place.invariant.notes;
    }

pub returns-clause-notes : goal.returns-clause-notes
returns-clause-notes g c =
    let b : BackingView = g.B.Backing.shown c.args.mem.now in
    let m : BackingView = g.B.Backing.shown c.loop-place.mem in
    ap (λ ls. all_noted c.loop-place.log (all_flush_notes m ls)) (sym c.in_default.ensures.first)
    ∙ c.loop-place.invariant.notes
    ∙ ap (all_noted c.args.log.now) (all_flush_notes-before b (dirty_in b) c.line_bytes-whole_lines.ensures.kept.single)
