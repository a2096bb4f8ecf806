use Rattle.std.proofs.Common.{true, ◌≡◌, ◌<◌, ℕ, length, ap, sym, subst, ◌∙◌}
use Rattle.conda_base.specs.Bytes.{value_at}
use Rattle.conda_base.specs.Lines.{line_offset}
use Rattle.conda_base.specs.declared.Line.{Line}
use Rattle.conda_base.specs.LineLists.{line_at}
use Rattle.line_memory.specs.Memory.{IsIn}
use Rattle.line_memory.specs.Notes.{all_noted, access_notes}
use Rattle.line_memory.specs.Backing.{shape_of}
use Rattle.coherent_mem.specs.Parts.{Parts, AreParts, shown}
use Rattle.coherent_mem.specs.Moves.{IsAlone}
use Rattle.coherent_mem.proofs.MoveFacts.{moved}
use Rattle.coherent_mem.proofs.MarkFacts.{marked_stored}
use Rattle.coherent_mem.proofs.CoherentFacts.{coherent}
use Rattle.coherent_mem.proofs.PartFacts.{row_in}
use Rattle.coherent_mem.proofs.HitFacts.{access_line, value_of_buffer}
use Rattle.coherent_mem.proofs.MissFacts.{line_is}
use Rattle.coherent_mem.proofs.CopyFacts.{range_new, range_of}
use Rattle.coherent_mem.proofs.StoreFacts.{IsOwning, owning, can_own, taken_bytes}
use Rattle.coherent_mem.proofs.coherent.Coherent.take.Goals as goal

pub isolate-requires-clause-line : goal.isolate-requires-clause-line
isolate-requires-clause-line c =
    let p : Parts = c.args.self.now in
    let are : AreParts p = subst (λ (x : Parts). AreParts x) c.self.view_is c.self.invariant.1 in
    let size : c.self.inside.memory.line_bytes ≡ p.memory.line_bytes = ap (λ (x : Parts). x.memory.line_bytes) c.self.view_is in
    let l : Line = c.line_of-l.result in
    let line : l ≡ line_at (shown p).line_bytes c.args.addr = line_is p c.args.addr c.self.inside.line_bytes c.self.inside.memory.line_bytes l c.self.invariant.0 size c.line_of-l.ensures in
    let there : IsIn p.memory l = subst (λ (x : Line). IsIn p.memory x) (sym line) (access_line p are c.args.addr 4 c.requires.access) in
    there

pub bytes-requires : goal.bytes-requires
bytes-requires c =
    let p : Parts = c.args.self.now in
    let l : Line = c.line_of-l.result in
    let u : Parts = record { sets = c.self-2.inside.sets; ways = c.self-2.inside.ways; memory = c.self-2.inside.memory; rows = c.self-2.inside.directory; caches = c.self-2.inside.caches.items } in
    let alone : IsAlone c.args.h l p u = rw (← c.self-2.view_is) at c.isolate.ensures.alone in
    let inside : c.args.h < length u.caches = rw alone.numbers.holders c.requires.holder in
    can_own p u c.args.h l c.index.result.now alone inside c.index.ensures

pub own-requires : goal.own-requires
own-requires c =
    let p : Parts = c.args.self.now in
    let l : Line = c.line_of-l.result in
    let u : Parts = record { sets = c.self-2.inside.sets; ways = c.self-2.inside.ways; memory = c.self-2.inside.memory; rows = c.self-2.inside.directory; caches = c.self-2.inside.caches.items } in
    let alone : IsAlone c.args.h l p u = rw (← c.self-2.view_is) at c.isolate.ensures.alone in
    let inside : c.args.h < length u.caches = rw alone.numbers.holders c.requires.holder in
    can_own p u c.args.h l c.index_mut.result.now alone inside c.index_mut.ensures.value

pub own-requires-2-clause-line : goal.own-requires-2-clause-line
own-requires-2-clause-line c =
    let p : Parts = c.args.self.now in
    let are : AreParts p = subst (λ (x : Parts). AreParts x) c.self.view_is c.self.invariant.1 in
    let size : c.self.inside.memory.line_bytes ≡ p.memory.line_bytes = ap (λ (x : Parts). x.memory.line_bytes) c.self.view_is in
    let l : Line = c.line_of-l.result in
    let line : l ≡ line_at (shown p).line_bytes c.args.addr = line_is p c.args.addr c.self.inside.line_bytes c.self.inside.memory.line_bytes l c.self.invariant.0 size c.line_of-l.ensures in
    let there : IsIn p.memory l = subst (λ (x : Line). IsIn p.memory x) (sym line) (access_line p are c.args.addr 4 c.requires.access) in
    let u : Parts = record { sets = c.self-2.inside.sets; ways = c.self-2.inside.ways; memory = c.self-2.inside.memory; rows = c.self-2.inside.directory; caches = c.self-2.inside.caches.items } in
    let alone : IsAlone c.args.h l p u = rw (← c.self-2.view_is) at c.isolate.ensures.alone in
    row_in u alone.are l (range_new p u are alone.are alone.numbers l (range_of p are l there))

pub invariant_of-self : goal.invariant_of-self
invariant_of-self c =
    let p : Parts = c.args.self.now in
    let are : AreParts p = subst (λ (x : Parts). AreParts x) c.self.view_is c.self.invariant.1 in
    let size : c.self.inside.memory.line_bytes ≡ p.memory.line_bytes = ap (λ (x : Parts). x.memory.line_bytes) c.self.view_is in
    let l : Line = c.line_of-l.result in
    let line : l ≡ line_at (shown p).line_bytes c.args.addr = line_is p c.args.addr c.self.inside.line_bytes c.self.inside.memory.line_bytes l c.self.invariant.0 size c.line_of-l.ensures in
    let u : Parts = record { sets = c.self-2.inside.sets; ways = c.self-2.inside.ways; memory = c.self-2.inside.memory; rows = c.self-2.inside.directory; caches = c.self-2.inside.caches.items } in
    let alone : IsAlone c.args.h l p u = rw (← c.self-2.view_is) at c.isolate.ensures.alone in
    let inside : c.args.h < length u.caches = rw alone.numbers.holders c.requires.holder in
    let does : IsOwning u c.args.h l c.index_mut.result.now c.own.new.self c.own-2.new.self =
    record { read = c.index_mut.ensures.value; put = c.own.ensures.lines; rowed = c.own-2.ensures.others } in
    let all = owning p u c.args.h c.args.addr 4 l _ _ _ are c.requires.holder c.requires.access line alone does in
    (c.self-2.invariant.0, all.are, marked_stored p u (moved u c.args.h c.own.new.self u.memory c.own-2.new.self) c.args.h c.mark_of.result c.args.addr l _ _ c.self-2.invariant.1.some_sets inside line alone all.steps c.mark_of.ensures.place c.self-2.invariant.2)

pub returns : goal.returns
returns c =
    let p : Parts = c.args.self.now in
    let are : AreParts p = subst (λ (x : Parts). AreParts x) c.self.view_is c.self.invariant.1 in
    let size : c.self.inside.memory.line_bytes ≡ p.memory.line_bytes = ap (λ (x : Parts). x.memory.line_bytes) c.self.view_is in
    let l : Line = c.line_of-l.result in
    let line : l ≡ line_at (shown p).line_bytes c.args.addr = line_is p c.args.addr c.self.inside.line_bytes c.self.inside.memory.line_bytes l c.self.invariant.0 size c.line_of-l.ensures in
    let there : IsIn p.memory l = subst (λ (x : Line). IsIn p.memory x) (sym line) (access_line p are c.args.addr 4 c.requires.access) in
    let u : Parts = record { sets = c.self-2.inside.sets; ways = c.self-2.inside.ways; memory = c.self-2.inside.memory; rows = c.self-2.inside.directory; caches = c.self-2.inside.caches.items } in
    let alone : IsAlone c.args.h l p u = rw (← c.self-2.view_is) at c.isolate.ensures.alone in
    let inside : c.args.h < length u.caches = rw alone.numbers.holders c.requires.holder in
    let does : IsOwning u c.args.h l c.index_mut.result.now c.own.new.self c.own-2.new.self =
    record { read = c.index_mut.ensures.value; put = c.own.ensures.lines; rowed = c.own-2.ensures.others } in
    let all = owning p u c.args.h c.args.addr 4 l _ _ _ are c.requires.holder c.requires.access line alone does in
    record {
      value = c.read_value.ensures ∙ ap (λ (o : ℕ). value_at c.bytes.new.out o 4)
          (c.offset_of-offset.ensures.place ∙ ap (λ (n : ℕ). line_offset c.args.addr n) (c.self.invariant.0 ∙ size)) ∙
          value_of_buffer p are c.args.addr 4 c.bytes.new.out c.requires.access (taken_bytes p u c.args.h c.args.addr l c.index.result.now c.bytes.new.out are there line alone inside c.index.ensures c.bytes.ensures);
      steps = all.steps;
      kept = coherent _ all.are;
      notes = c.isolate.ensures.notes ∙ ap (λ (x : Line). all_noted c.args.log.now (access_notes (shape_of (shown p)) (shown p).tags c.args.h x true)) line;
    }
