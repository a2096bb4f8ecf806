use Rattle.std.proofs.Common.{◌≡◌, ◌≤◌, ◌<◌, length, sym, ap, ◌∙◌, arith}
use Rattle.write_masks.specs.declared.Masked.{Masked}
use Rattle.conda_base.specs.declared.Line.{Line}
use Rattle.nda_cache.specs.Tried.{Tried, IsTried, known_of}
use Rattle.line_memory.specs.Backing.{BackingView, IsInRange, merged}
use Rattle.line_memory.specs.Notes.{all_noted}
use Rattle.conflict_resolve.specs.Merges.{stored_in, all_merged, all_merge_notes}
use Rattle.conflict_resolve.proofs.MergeFacts.{merged-long}
use Rattle.conflict_resolve.proofs.MergeSteps.{AtPlace, at-place, line-in-range, merge-step, merged-marked, no-more}
use Rattle.conflict_resolve.proofs.merging.merge_all.Goals as goal

pub loop-l-preserved : goal.loop-l-preserved
loop-l-preserved g c =
    let b : BackingView = g.B.Backing.shown c.loop-l.mem in
    let cache : Tried = c.args.c.now.try.cache in
    let l : Line = c.in-Some.l in
    let line : Masked = c.in-Some.line.now in
    let known : Masked = known_of cache l in
    let at : AtPlace cache c.loop-l.place l = at-place cache c.loop-l.place l c.in-Some.ensures.line.0 in
    let inv = c.loop-l.invariant in
    let tried : IsTried cache = c.in-Some.ensures.kept in
    let room : length known.bytes ≡ 128 = (tried.whole l).room in
    let range : IsInRange b l = line-in-range (g.B.Backing.shown c.args.mem.now) b cache c.loop-l.place l at c.requires.in_range inv.lines inv.base inv.long in
    let merge : g.B.Backing.shown c.merge.new.self ≡ merged b l known.bytes known.mask =
    c.merge.ensures.merged ∙ merged-marked b l line known inv.backing.memory range room c.in-Some.ensures.line.1 in
    let step =
    merge-step b (g.B.Backing.shown c.merge.new.self) c.core-core.result c.loop-l.place (stored_in cache) l known c.loop-l.log c.merge.new.log at.entry merge c.merge.ensures.notes in
    let few : length cache.stored ≤ 2048 = tried.few_stored in
    let within : c.loop-l.place < length cache.stored = at.within in
    record {
      memory = step.memory ∙ inv.memory;
      notes = step.notes ∙ inv.notes;
      within = omega arith;
      few = omega arith;
      backing = c.merge.ensures.kept;
      lines = ap (λ (m : BackingView). m.line_bytes) c.merge.ensures.merged ∙ inv.lines;
      base = ap (λ (m : BackingView). m.base) c.merge.ensures.merged ∙ inv.base;
      long = ap (λ (m : BackingView). length m.view) merge ∙ merged-long b (l, known) inv.backing.memory range room ∙ inv.long;
    }

pub returns-clause-memory : goal.returns-clause-memory
returns-clause-memory g c =
    ap (all_merged (g.B.Backing.shown c.loop-l.mem)) (sym (no-more c.args.c.now.try.cache c.loop-l.place c.in_default.ensures.line))
    ∙ c.loop-l.invariant.memory

pub returns-clause-notes : goal.returns-clause-notes
returns-clause-notes g c =
    ap (λ es. all_noted c.loop-l.log (all_merge_notes (g.B.Backing.shown c.loop-l.mem) c.core-core.result es)) (sym (no-more c.args.c.now.try.cache c.loop-l.place c.in_default.ensures.line))
    ∙ c.loop-l.invariant.notes
    ∙ ap (λ j. all_noted c.args.log.now (all_merge_notes (g.B.Backing.shown c.args.mem.now) j (stored_in c.args.c.now.try.cache))) c.core-core.ensures
