-- The mark of a set without modified lines.
use Rattle.std.proofs.Common.{◌%◌, List, sym, subst}
use Rattle.line_memory.specs.Tags.{Tag}
use Rattle.coherent_mem.specs.Parts.{Parts, shown}
use Rattle.coherent_mem.specs.Marked.{IsCleanFrom}
use Rattle.coherent_mem.proofs.MarkFacts.{marked_less, none_given}
use Rattle.coherent_mem.proofs.PartFacts.{fields}
use Rattle.coherent_mem.proofs.coherent.Coherent.settle.Goals as goal

pub invariant_of-self : goal.invariant_of-self
invariant_of-self c =
    let p : Parts = fields c.self.view_is in
    let tags : Parts → List Tag = λ x. (shown x).tags c.args.h (c.args.l.0 % c.self.inside.sets) in
    let told = none_given c.first_modified.result (IsCleanFrom (tags c.args.self.now) 0 c.args.self.now.ways) _ c.if-is_none.ensures c.first_modified.ensures in
    let clean : IsCleanFrom (tags p) 0 p.ways = subst (λ (x : Parts). IsCleanFrom (tags x) 0 x.ways) (sym c.self.view_is) told in
    (c.self.invariant.0, c.self.invariant.1, marked_less p c.args.h c.mark_of-mark.result c.args.l _ c.self.invariant.1 c.mark_of-mark.ensures.place clean c.self.invariant.2)
