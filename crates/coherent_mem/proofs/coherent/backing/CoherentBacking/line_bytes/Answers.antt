use Rattle.coherent_mem.specs.Parts.{Parts}
use Rattle.coherent_mem.proofs.CoherentFacts.{coherent}
use Rattle.coherent_mem.proofs.PartFacts.{fields}
use Rattle.coherent_mem.proofs.coherent.backing.CoherentBacking.line_bytes.Goals as goal

pub returns-clause-kept : goal.returns-clause-kept
returns-clause-kept c =
    let p : Parts = fields c.self.view_is in
    rw (← c.self.view_is) (coherent p c.self.invariant.1)
