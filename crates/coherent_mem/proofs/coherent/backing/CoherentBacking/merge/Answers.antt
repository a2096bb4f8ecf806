use Rattle.std.proofs.Common.{◌≡◌, ℕ, length, ap, sym, subst, ◌∙◌, rules}
use Rattle.conda_base.specs.declared.Line.{Line}
use Rattle.traffic_trace.specs.Notes.{Trace, noted}
use Rattle.traffic_trace.specs.declared.note.Kind.TheVariants.{Merge}
use Rattle.line_memory.specs.Memory.{Memory}
use Rattle.line_memory.specs.Backing.{BackingView, IsBacking, merged}
use Rattle.line_memory.specs.Notes.{all_noted, note_of}
use Rattle.line_memory.specs.Access.{after_merge}
use Rattle.coherent_mem.specs.Parts.{Parts, AreParts, shown}
use Rattle.coherent_mem.specs.Steps.{StepsTo}
use Rattle.coherent_mem.specs.Moves.{IsDropped, dropped_notes}
use Rattle.coherent_mem.proofs.StepFacts.{merged_steps}
use Rattle.coherent_mem.proofs.MarkFacts.{marked_mixed}
use Rattle.coherent_mem.proofs.CopyFacts.{range_in, range_new}
use Rattle.coherent_mem.proofs.CoherentFacts.{coherent}
use Rattle.coherent_mem.proofs.MergeFacts.{merging, merge_noted}
use Rattle.coherent_mem.proofs.PartFacts.{fields}
use Rattle.coherent_mem.proofs.coherent.backing.CoherentBacking.merge.Goals as goal

pub drop_beside-requires : goal.drop_beside-requires
drop_beside-requires c =
    let p : Parts = c.args.self.now in
    let are : AreParts p = subst (λ (x : Parts). AreParts x) c.self.view_is c.self.invariant.1 in
    range_in p are c.args.l c.requires

pub mix-requires : goal.mix-requires
mix-requires c =
    let p : Parts = c.args.self.now in
    let q : Parts = fields c.self-2.view_is in
    let are : AreParts p = subst (λ (x : Parts). AreParts x) c.self.view_is c.self.invariant.1 in
    let l : Line = c.args.l in
    let len : c.len-nobody.result ≡ length c.self.inside.caches.items = search rules in
    let count : c.len-nobody.result ≡ length p.caches = len ∙ ap (λ (x : Parts). length x.caches) c.self.view_is in
    let told : IsDropped (length p.caches) l (length p.caches) p c.drop_beside.new.self = subst (λ (n : ℕ). IsDropped n l (length p.caches) p c.drop_beside.new.self) count c.drop_beside.ensures.dropped in
    let dropped : IsDropped (length p.caches) l (length p.caches) p q = subst (λ (x : Parts). IsDropped (length p.caches) l (length p.caches) p x) (sym c.self-2.view_is) told in
    range_new p q are dropped.are dropped.numbers l c.requires

pub invariant_of-self : goal.invariant_of-self
invariant_of-self c =
    let p : Parts = c.args.self.now in
    let q : Parts = fields c.self-2.view_is in
    let are : AreParts p = subst (λ (x : Parts). AreParts x) c.self.view_is c.self.invariant.1 in
    let l : Line = c.args.l in
    let len : c.len-nobody.result ≡ length c.self.inside.caches.items = search rules in
    let count : c.len-nobody.result ≡ length p.caches = len ∙ ap (λ (x : Parts). length x.caches) c.self.view_is in
    let told : IsDropped (length p.caches) l (length p.caches) p c.drop_beside.new.self = subst (λ (n : ℕ). IsDropped n l (length p.caches) p c.drop_beside.new.self) count c.drop_beside.ensures.dropped in
    let dropped : IsDropped (length p.caches) l (length p.caches) p q = subst (λ (x : Parts). IsDropped (length p.caches) l (length p.caches) p x) (sym c.self-2.view_is) told in
    let all = merging p q l c.args.bytes.now c.args.mask c.mix.new.self are c.requires c.told-bytes dropped c.mix.ensures in
    (c.self-2.invariant.0 ∙ sym (ap (λ (m : Memory). m.line_bytes) c.mix.ensures), all.are, marked_mixed q c.mix.new.self _ c.self-2.invariant.2)

pub returns : goal.returns
returns c =
    let p : Parts = c.args.self.now in
    let q : Parts = fields c.self-2.view_is in
    let are : AreParts p = subst (λ (x : Parts). AreParts x) c.self.view_is c.self.invariant.1 in
    let l : Line = c.args.l in
    let len : c.len-nobody.result ≡ length c.self.inside.caches.items = search rules in
    let count : c.len-nobody.result ≡ length p.caches = len ∙ ap (λ (x : Parts). length x.caches) c.self.view_is in
    let told : IsDropped (length p.caches) l (length p.caches) p c.drop_beside.new.self = subst (λ (n : ℕ). IsDropped n l (length p.caches) p c.drop_beside.new.self) count c.drop_beside.ensures.dropped in
    let dropped : IsDropped (length p.caches) l (length p.caches) p q = subst (λ (x : Parts). IsDropped (length p.caches) l (length p.caches) p x) (sym c.self-2.view_is) told in
    let all = merging p q l c.args.bytes.now c.args.mask c.mix.new.self are c.requires c.told-bytes dropped c.mix.ensures in
    let told_notes : c.drop_beside.new.log ≡ all_noted c.args.log.now (dropped_notes (shown p) (length p.caches) l (length p.caches)) =
    c.drop_beside.ensures.notes ∙ ap (λ (n : ℕ). all_noted c.args.log.now (dropped_notes (shown p) n l (length p.caches))) count in
    record {
      merged = all.merged;
      notes = c.note.ensures ∙ ap (λ (t : Trace). noted t (note_of Merge c.args.core l)) told_notes ∙ merge_noted p c.args.core l c.args.log.now;
      kept = coherent _ all.are;
      steps = subst (λ (b : BackingView). StepsTo (after_merge (shown p).tags l) (merged (shown p) l c.args.bytes.now c.args.mask).view (shown p) b) (sym all.merged) (merged_steps (shown p) l c.args.bytes.now c.args.mask (coherent p are).backing (subst (λ (b : BackingView). IsBacking b) all.merged (coherent _ all.are).backing) c.requires c.told-bytes);
    }
