use Rattle.coherent_mem.specs.Parts.{Parts}
use Rattle.coherent_mem.proofs.CopyFacts.{range_in}
use Rattle.coherent_mem.proofs.CoherentFacts.{coherent}
use Rattle.coherent_mem.proofs.PartFacts.{fields}
use Rattle.coherent_mem.proofs.coherent.backing.CoherentBacking.copy.Goals as goal

pub read-requires : goal.read-requires
read-requires c =
    let p : Parts = fields c.self.view_is in
    range_in p c.self.invariant.1 c.args.l (rw (← c.self.view_is) at c.requires)

pub returns-clause-kept : goal.returns-clause-kept
returns-clause-kept c = rw (← c.self.view_is) (coherent _ c.self.invariant.1)
