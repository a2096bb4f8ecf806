use Rattle.std.proofs.Common.{false, ◌≡◌, ◌<◌, None, length, ap, sym, subst, ◌∙◌}
use Rattle.conda_base.specs.LineLists.{line_at}
use Rattle.line_memory.specs.Notes.{all_noted, access_notes}
use Rattle.line_memory.specs.Access.{after_load}
use Rattle.line_memory.specs.Backing.{shape_of}
use Rattle.coherent_mem.specs.Marked.{AreMarked}
use Rattle.coherent_mem.specs.Parts.{Parts, AreParts, shown, held}
use Rattle.coherent_mem.specs.Steps.{IsAccessTo, StepsTo, value_seen}
use Rattle.coherent_mem.proofs.MarkFacts.{marked_same}
use Rattle.coherent_mem.proofs.CoherentFacts.{coherent}
use Rattle.coherent_mem.proofs.HitFacts.{IsLoadTry, hit_load, no_hit}
use Rattle.coherent_mem.proofs.PartFacts.{fields}
use Rattle.coherent_mem.proofs.coherent.Coherent.load.Goals as goal

pub invariant_of-self : goal.invariant_of-self
invariant_of-self c =
    let p : Parts = fields c.self.view_is in
    let inside : c.args.h < length p.caches = rw (← c.self.view_is) at c.requires.holder in
    let access : IsAccessTo (shown p) c.args.addr c.args.size = rw (← c.self.view_is) at c.requires.access in
    let does : IsLoadTry p c.args.h c.args.addr c.args.size c.index_mut.result.now c.load_held.result c.load_held.new.self =
    record { read = c.index_mut.ensures.value; value = c.load_held.ensures.value; front = c.load_held.ensures.front } in
    let all = hit_load p c.args.h c.args.addr c.args.size c.in-Some.value _ _ _ c.self.invariant.1 inside access does c.in-Some.is in
    (c.self.invariant.0, all.are, marked_same (shown p) _ _ all.steps.numbers all.quiet.dirty c.self.invariant.2)

pub invariant_of-self-in-None : goal.invariant_of-self-in-None
invariant_of-self-in-None c =
    let p : Parts = fields c.self.view_is in
    let inside : c.args.h < length p.caches = rw (← c.self.view_is) at c.requires.holder in
    let does : IsLoadTry p c.args.h c.args.addr c.args.size c.index_mut.result.now c.load_held.result c.load_held.new.self =
    record { read = c.index_mut.ensures.value; value = c.load_held.ensures.value; front = c.load_held.ensures.front } in
    let none = no_hit p c.args.h c.args.addr c.args.size _ _ _ c.self.invariant.1 inside does c.in-None.is in
    (c.self.invariant.0, subst (λ (x : Parts). AreParts x) (sym none.same) c.self.invariant.1, subst (λ (x : Parts). AreMarked (shown x) c.self.inside.marks.items) (sym none.same) c.self.invariant.2)

pub returns-in-Some : goal.returns-in-Some
returns-in-Some c =
    let p : Parts = fields c.self.view_is in
    let inside : c.args.h < length p.caches = rw (← c.self.view_is) at c.requires.holder in
    let access : IsAccessTo (shown p) c.args.addr c.args.size = rw (← c.self.view_is) at c.requires.access in
    let does : IsLoadTry p c.args.h c.args.addr c.args.size c.index_mut.result.now c.load_held.result c.load_held.new.self =
    record { read = c.index_mut.ensures.value; value = c.load_held.ensures.value; front = c.load_held.ensures.front } in
    let all = hit_load p c.args.h c.args.addr c.args.size c.in-Some.value _ _ _ c.self.invariant.1 inside access does c.in-Some.is in
    record {
      value = rw (← c.self.view_is) all.value;
      steps = rw (← c.self.view_is) all.steps;
      notes = rw (← c.self.view_is) (sym (ap (λ ns. all_noted c.args.log.now ns) all.notes));
      kept = coherent _ all.are;
    }

pub load_missed-requires : goal.load_missed-requires
load_missed-requires c =
    let p : Parts = fields c.self.view_is in
    let inside : c.args.h < length p.caches = rw (← c.self.view_is) at c.requires.holder in
    let does : IsLoadTry p c.args.h c.args.addr c.args.size c.index_mut.result.now c.load_held.result c.load_held.new.self =
    record { read = c.index_mut.ensures.value; value = c.load_held.ensures.value; front = c.load_held.ensures.front } in
    let none = no_hit p c.args.h c.args.addr c.args.size _ _ _ c.self.invariant.1 inside does c.in-None.is in
    let access : IsAccessTo (shown p) c.args.addr c.args.size = rw (← c.self.view_is) at c.requires.access in
    record {
      holder = subst (λ (x : Parts). c.args.h < length x.caches) (sym none.same) inside;
      access = subst (λ (x : Parts). IsAccessTo (shown x) c.args.addr c.args.size) (sym none.same) access;
      absent = subst (λ (x : Parts). held x (line_at (shown x).line_bytes c.args.addr) c.args.h ≡ None) (sym none.same) none.absent;
    }

pub returns-in-None : goal.returns-in-None
returns-in-None c =
    let p : Parts = fields c.self.view_is in
    let inside : c.args.h < length p.caches = rw (← c.self.view_is) at c.requires.holder in
    let does : IsLoadTry p c.args.h c.args.addr c.args.size c.index_mut.result.now c.load_held.result c.load_held.new.self =
    record { read = c.index_mut.ensures.value; value = c.load_held.ensures.value; front = c.load_held.ensures.front } in
    let none = no_hit p c.args.h c.args.addr c.args.size _ _ _ c.self.invariant.1 inside does c.in-None.is in
    record {
      value = c.load_missed.ensures.value ∙ ap (λ (x : Parts). value_seen (shown x) c.args.addr c.args.size) (none.same ∙ c.self.view_is);
      steps = subst (λ (x : Parts). StepsTo (after_load (shape_of (shown x)) (shown x).tags c.args.h (line_at (shown x).line_bytes c.args.addr)) (shown x).view (shown x) (shown c.load_missed.new.self)) (none.same ∙ c.self.view_is) c.load_missed.ensures.steps;
      notes = c.load_missed.ensures.notes ∙ ap (λ (x : Parts). all_noted c.args.log.now (access_notes (shape_of (shown x)) (shown x).tags c.args.h (line_at (shown x).line_bytes c.args.addr) false)) (none.same ∙ c.self.view_is);
      kept = coherent _ c.load_missed.ensures.kept;
    }
