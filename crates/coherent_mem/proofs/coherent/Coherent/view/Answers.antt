use Rattle.std.proofs.Common.{◌<◌, length, ap, sym, ◌∙◌, rules}
use Rattle.conda_base.specs.Bytes.{handed_out}
use Rattle.line_memory.specs.Memory.{IsIn}
use Rattle.coherent_mem.specs.Parts.{Parts, AreParts}
use Rattle.coherent_mem.proofs.PartFacts.{row_in}
use Rattle.coherent_mem.proofs.LineFacts.{none_not_some}
use Rattle.coherent_mem.proofs.ViewFacts.{held_inside}
use Rattle.coherent_mem.proofs.CopyFacts.{range_in}
use Rattle.coherent_mem.proofs.FillFacts.{seen_shared}
use Rattle.coherent_mem.proofs.ShareFacts.{row_owner, row_shared, row_nobody, apart_of_shared}
use Rattle.coherent_mem.proofs.CoherentFacts.{coherent, cache_of, owner_is_held}
use Rattle.coherent_mem.proofs.PartFacts.{fields}
use Rattle.coherent_mem.proofs.coherent.Coherent.view.Goals as goal

pub row-requires : goal.row-requires
row-requires c =
    let p : Parts = fields c.self.view_is in
    let are : AreParts p = c.self.invariant.1 in
    let there : IsIn p.memory c.args.l = range_in p are c.args.l (rw (← c.self.view_is) at c.requires) in
    row_in p are c.args.l there

pub read-requires : goal.read-requires
read-requires c =
    let p : Parts = fields c.self.view_is in
    let are : AreParts p = c.self.invariant.1 in
    let there : IsIn p.memory c.args.l = range_in p are c.args.l (rw (← c.self.view_is) at c.requires) in
    there

pub read-requires-in-Shared : goal.read-requires-in-Shared
read-requires-in-Shared c =
    let p : Parts = fields c.self.view_is in
    let are : AreParts p = c.self.invariant.1 in
    let there : IsIn p.memory c.args.l = range_in p are c.args.l (rw (← c.self.view_is) at c.requires) in
    there

pub index-requires : goal.index-requires
index-requires c =
    let p : Parts = fields c.self.view_is in
    let are : AreParts p = c.self.invariant.1 in
    let there : IsIn p.memory c.args.l = range_in p are c.args.l (rw (← c.self.view_is) at c.requires) in
    let a = row_owner p c.args.l c.in-Owner.o are there (sym c.row.ensures.value ∙ c.in-Owner.is) in
    let inside : c.in-Owner.o < length c.self.inside.caches.items = held_inside p c.args.l c.in-Owner.o a.0 a.1 in
    search rules

pub bytes-requires : goal.bytes-requires
bytes-requires c =
    let p : Parts = fields c.self.view_is in
    let are : AreParts p = c.self.invariant.1 in
    let there : IsIn p.memory c.args.l = range_in p are c.args.l (rw (← c.self.view_is) at c.requires) in
    let a = row_owner p c.args.l c.in-Owner.o are there (sym c.row.ensures.value ∙ c.in-Owner.is) in
    let inside : c.in-Owner.o < length c.self.inside.caches.items = held_inside p c.args.l c.in-Owner.o a.0 a.1 in
    owner_is_held p c.in-Owner.o c.args.l c.index.result.now a.0 inside c.index.ensures a.1

pub returns-in-Nobody : goal.returns-in-Nobody
returns-in-Nobody c =
    let p : Parts = fields c.self.view_is in
    let are : AreParts p = c.self.invariant.1 in
    let there : IsIn p.memory c.args.l = range_in p are c.args.l (rw (← c.self.view_is) at c.requires) in
    record {
      bytes = rw (← c.self.view_is) (c.read.ensures ∙ ap handed_out (seen_shared p are c.args.l there (λ k a at. absurd (none_not_some _ a (row_nobody p c.args.l are there (sym c.row.ensures.value ∙ c.in-Nobody.is) k) at))));
      kept = rw (← c.self.view_is) (coherent _ c.self.invariant.1);
    }

pub returns-in-Shared : goal.returns-in-Shared
returns-in-Shared c =
    let p : Parts = fields c.self.view_is in
    let are : AreParts p = c.self.invariant.1 in
    let there : IsIn p.memory c.args.l = range_in p are c.args.l (rw (← c.self.view_is) at c.requires) in
    record {
      bytes = rw (← c.self.view_is) (c.read-in-Shared.ensures ∙ ap handed_out (seen_shared p are c.args.l there (row_shared p c.args.l are there (apart_of_shared p c.args.l c.in-Shared.field-0 (sym c.row.ensures.value ∙ c.in-Shared.is)))));
      kept = rw (← c.self.view_is) (coherent _ c.self.invariant.1);
    }

pub returns-in-Owner : goal.returns-in-Owner
returns-in-Owner c =
    let p : Parts = fields c.self.view_is in
    let are : AreParts p = c.self.invariant.1 in
    let there : IsIn p.memory c.args.l = range_in p are c.args.l (rw (← c.self.view_is) at c.requires) in
    let a = row_owner p c.args.l c.in-Owner.o are there (sym c.row.ensures.value ∙ c.in-Owner.is) in
    let inside : c.in-Owner.o < length c.self.inside.caches.items = held_inside p c.args.l c.in-Owner.o a.0 a.1 in
    record {
      bytes = rw (← c.self.view_is) (c.bytes.ensures ∙ ap handed_out ((cache_of p c.in-Owner.o c.index.result.now are inside c.index.ensures).bytes c.args.l (owner_is_held p c.in-Owner.o c.args.l c.index.result.now a.0 inside c.index.ensures a.1)));
      kept = rw (← c.self.view_is) (coherent _ c.self.invariant.1);
    }
