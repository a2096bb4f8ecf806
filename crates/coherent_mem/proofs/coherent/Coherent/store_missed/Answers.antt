use Rattle.std.proofs.Common.{true, ◌≡◌, ◌<◌, length, ap, sym, subst, ◌∙◌}
use Rattle.conda_base.specs.declared.Line.{Line}
use Rattle.conda_base.specs.LineLists.{line_at}
use Rattle.line_memory.specs.Memory.{IsIn}
use Rattle.line_memory.specs.Notes.{all_noted, access_notes}
use Rattle.line_memory.specs.Backing.{shape_of}
use Rattle.coherent_mem.specs.Parts.{Parts, AreParts, shown}
use Rattle.coherent_mem.specs.Moves.{IsAlone}
use Rattle.coherent_mem.proofs.MoveFacts.{moved}
use Rattle.coherent_mem.proofs.MarkFacts.{marked_stored}
use Rattle.coherent_mem.proofs.PartFacts.{row_in}
use Rattle.coherent_mem.proofs.HitFacts.{access_line}
use Rattle.coherent_mem.proofs.MissFacts.{line_is}
use Rattle.coherent_mem.proofs.CopyFacts.{range_new, range_of}
use Rattle.coherent_mem.proofs.StoreFacts.{IsStoring, storing, can_store, line_of_u}
use Rattle.coherent_mem.proofs.coherent.Coherent.store_missed.Goals as goal

pub isolate-requires-clause-line : goal.isolate-requires-clause-line
isolate-requires-clause-line c =
    let p : Parts = c.args.self.now in
    let are : AreParts p = subst (λ (x : Parts). AreParts x) c.self.view_is c.self.invariant.1 in
    let size : c.self.inside.memory.line_bytes ≡ p.memory.line_bytes = ap (λ (x : Parts). x.memory.line_bytes) c.self.view_is in
    let l : Line = c.line_of-l.result in
    let line : l ≡ line_at (shown p).line_bytes c.args.addr = line_is p c.args.addr c.self.inside.line_bytes c.self.inside.memory.line_bytes l c.self.invariant.0 size c.line_of-l.ensures in
    let there : IsIn p.memory l = subst (λ (x : Line). IsIn p.memory x) (sym line) (access_line p are c.args.addr c.args.size c.requires.access) in
    there

pub store-requires-clause-held : goal.store-requires-clause-held
store-requires-clause-held c =
    let p : Parts = c.args.self.now in
    let size : c.self.inside.memory.line_bytes ≡ p.memory.line_bytes = ap (λ (x : Parts). x.memory.line_bytes) c.self.view_is in
    let l : Line = c.line_of-l.result in
    let line : l ≡ line_at (shown p).line_bytes c.args.addr = line_is p c.args.addr c.self.inside.line_bytes c.self.inside.memory.line_bytes l c.self.invariant.0 size c.line_of-l.ensures in
    let u : Parts = record { sets = c.self-2.inside.sets; ways = c.self-2.inside.ways; memory = c.self-2.inside.memory; rows = c.self-2.inside.directory; caches = c.self-2.inside.caches.items } in
    let alone : IsAlone c.args.h l p u = rw (← c.self-2.view_is) at c.isolate.ensures.alone in
    let inside : c.args.h < length u.caches = rw alone.numbers.holders c.requires.holder in
    can_store u c.args.h c.args.addr c.index_mut.result.now alone.are inside c.index_mut.ensures.value (line_of_u p u c.args.h c.args.addr l line alone)

pub own-requires-clause-line : goal.own-requires-clause-line
own-requires-clause-line c =
    let p : Parts = c.args.self.now in
    let are : AreParts p = subst (λ (x : Parts). AreParts x) c.self.view_is c.self.invariant.1 in
    let size : c.self.inside.memory.line_bytes ≡ p.memory.line_bytes = ap (λ (x : Parts). x.memory.line_bytes) c.self.view_is in
    let l : Line = c.line_of-l.result in
    let line : l ≡ line_at (shown p).line_bytes c.args.addr = line_is p c.args.addr c.self.inside.line_bytes c.self.inside.memory.line_bytes l c.self.invariant.0 size c.line_of-l.ensures in
    let there : IsIn p.memory l = subst (λ (x : Line). IsIn p.memory x) (sym line) (access_line p are c.args.addr c.args.size c.requires.access) in
    let u : Parts = record { sets = c.self-2.inside.sets; ways = c.self-2.inside.ways; memory = c.self-2.inside.memory; rows = c.self-2.inside.directory; caches = c.self-2.inside.caches.items } in
    let alone : IsAlone c.args.h l p u = rw (← c.self-2.view_is) at c.isolate.ensures.alone in
    row_in u alone.are l (range_new p u are alone.are alone.numbers l (range_of p are l there))

pub invariant_of-self : goal.invariant_of-self
invariant_of-self c =
    let p : Parts = c.args.self.now in
    let are : AreParts p = subst (λ (x : Parts). AreParts x) c.self.view_is c.self.invariant.1 in
    let size : c.self.inside.memory.line_bytes ≡ p.memory.line_bytes = ap (λ (x : Parts). x.memory.line_bytes) c.self.view_is in
    let l : Line = c.line_of-l.result in
    let line : l ≡ line_at (shown p).line_bytes c.args.addr = line_is p c.args.addr c.self.inside.line_bytes c.self.inside.memory.line_bytes l c.self.invariant.0 size c.line_of-l.ensures in
    let u : Parts = record { sets = c.self-2.inside.sets; ways = c.self-2.inside.ways; memory = c.self-2.inside.memory; rows = c.self-2.inside.directory; caches = c.self-2.inside.caches.items } in
    let alone : IsAlone c.args.h l p u = rw (← c.self-2.view_is) at c.isolate.ensures.alone in
    let inside : c.args.h < length u.caches = rw alone.numbers.holders c.requires.holder in
    let does : IsStoring u c.args.h c.args.addr c.args.size c.args.value l c.index_mut.result.now c.store.new.self c.own.new.self =
    record { read = c.index_mut.ensures.value; put = c.store.ensures.lines; rowed = c.own.ensures.others } in
    let all = storing p u c.args.h c.args.addr c.args.size c.args.value l _ _ _ are c.requires.holder c.requires.access line alone does in
    (c.self-2.invariant.0, all.are, marked_stored p u (moved u c.args.h c.store.new.self u.memory c.own.new.self) c.args.h c.mark_of.result c.args.addr l _ _ c.self-2.invariant.1.some_sets inside line alone all.steps c.mark_of.ensures.place c.self-2.invariant.2)

pub returns : goal.returns
returns c =
    let p : Parts = c.args.self.now in
    let are : AreParts p = subst (λ (x : Parts). AreParts x) c.self.view_is c.self.invariant.1 in
    let size : c.self.inside.memory.line_bytes ≡ p.memory.line_bytes = ap (λ (x : Parts). x.memory.line_bytes) c.self.view_is in
    let l : Line = c.line_of-l.result in
    let line : l ≡ line_at (shown p).line_bytes c.args.addr = line_is p c.args.addr c.self.inside.line_bytes c.self.inside.memory.line_bytes l c.self.invariant.0 size c.line_of-l.ensures in
    let u : Parts = record { sets = c.self-2.inside.sets; ways = c.self-2.inside.ways; memory = c.self-2.inside.memory; rows = c.self-2.inside.directory; caches = c.self-2.inside.caches.items } in
    let alone : IsAlone c.args.h l p u = rw (← c.self-2.view_is) at c.isolate.ensures.alone in
    let does : IsStoring u c.args.h c.args.addr c.args.size c.args.value l c.index_mut.result.now c.store.new.self c.own.new.self =
    record { read = c.index_mut.ensures.value; put = c.store.ensures.lines; rowed = c.own.ensures.others } in
    let all = storing p u c.args.h c.args.addr c.args.size c.args.value l _ _ _ are c.requires.holder c.requires.access line alone does in
    record {
      steps = all.steps;
      kept = all.are;
      notes = c.isolate.ensures.notes ∙ ap (λ (x : Line). all_noted c.args.log.now (access_notes (shape_of (shown p)) (shown p).tags c.args.h x true)) line;
    }
