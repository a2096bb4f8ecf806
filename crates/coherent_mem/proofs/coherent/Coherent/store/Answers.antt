use Rattle.std.proofs.Common.{true, refl, ◌≡◌, ◌<◌, List, Some, inl, inr, length, ap, sym, subst, ◌∙◌}
use Rattle.conda_base.specs.declared.Mesi.{Mesi}
use Rattle.conda_base.specs.declared.Mesi.TheVariants.{M, E}
use Rattle.conda_base.specs.declared.Line.{Line}
use Rattle.conda_base.specs.LineLists.{line_at}
use Rattle.traffic_trace.specs.declared.note.Note.{Note}
use Rattle.line_memory.specs.Notes.{all_noted, access_notes}
use Rattle.line_memory.specs.Access.{after_store}
use Rattle.line_memory.specs.Backing.{shape_of}
use Rattle.coherent_mem.specs.Moves.{IsAlone}
use Rattle.coherent_mem.specs.Marked.{AreMarked}
use Rattle.coherent_mem.specs.Parts.{Parts, AreParts, shown}
use Rattle.coherent_mem.specs.Steps.{IsAccessTo, StepsTo, view_stored}
use Rattle.coherent_mem.proofs.MarkFacts.{marked_still, marked_stored, stored_states}
use Rattle.coherent_mem.proofs.CoherentFacts.{coherent}
use Rattle.coherent_mem.proofs.MissFacts.{line_is}
use Rattle.coherent_mem.proofs.LineFacts.{m_not_s}
use Rattle.coherent_mem.proofs.AloneFacts.{e_not_s}
use Rattle.coherent_mem.proofs.MoveFacts.{moved}
use Rattle.coherent_mem.proofs.StoreFacts.{IsStoreTry, hit_store, no_store}
use Rattle.coherent_mem.proofs.PartFacts.{fields}
use Rattle.coherent_mem.proofs.coherent.Coherent.store.Goals as goal

pub invariant_of-self : goal.invariant_of-self
invariant_of-self c =
    let p : Parts = fields c.self.view_is in
    let inside : c.args.h < length p.caches = rw (← c.self.view_is) at c.requires.holder in
    let access : IsAccessTo (shown p) c.args.addr c.args.size = rw (← c.self.view_is) at c.requires.access in
    let does : IsStoreTry p c.args.h c.args.addr c.args.size c.args.value c.index_mut.result.now c.store_owned.result c.store_owned.new.self =
    record { read = c.index_mut.ensures.value; state = c.store_owned.ensures.state; put = c.store_owned.ensures.lines } in
    let all = hit_store p c.args.h c.args.addr c.args.size c.args.value _ _ _ M c.self.invariant.1 inside access does (c.in-Some-M.is ∙ ap (λ (m : Mesi). Some m) c.in-Some-M.field-0-is) (m_not_s M refl) in
    (c.self.invariant.0, all.are, marked_still (shown p) _ c.args.h (line_at (shown p).line_bytes c.args.addr) _ all.steps.numbers (stored_states p p (moved p c.args.h c.store_owned.new.self p.memory p.rows) c.args.h (line_at (shown p).line_bytes c.args.addr) _ all.alone all.steps) all.was c.self.invariant.2)

pub returns-in-Some-M : goal.returns-in-Some-M
returns-in-Some-M c =
    let p : Parts = fields c.self.view_is in
    let inside : c.args.h < length p.caches = rw (← c.self.view_is) at c.requires.holder in
    let access : IsAccessTo (shown p) c.args.addr c.args.size = rw (← c.self.view_is) at c.requires.access in
    let does : IsStoreTry p c.args.h c.args.addr c.args.size c.args.value c.index_mut.result.now c.store_owned.result c.store_owned.new.self =
    record { read = c.index_mut.ensures.value; state = c.store_owned.ensures.state; put = c.store_owned.ensures.lines } in
    let all = hit_store p c.args.h c.args.addr c.args.size c.args.value _ _ _ M c.self.invariant.1 inside access does (c.in-Some-M.is ∙ ap (λ (m : Mesi). Some m) c.in-Some-M.field-0-is) (m_not_s M refl) in
    record {
      steps = rw (← c.self.view_is) all.steps;
      notes = rw (← c.self.view_is) (sym (ap (λ (ns : List Note). all_noted c.args.log.now ns) all.notes));
      kept = coherent _ all.are;
    }

pub invariant_of-self-in-Some-E : goal.invariant_of-self-in-Some-E
invariant_of-self-in-Some-E c =
    let p : Parts = fields c.self.view_is in
    let inside : c.args.h < length p.caches = rw (← c.self.view_is) at c.requires.holder in
    let access : IsAccessTo (shown p) c.args.addr c.args.size = rw (← c.self.view_is) at c.requires.access in
    let does : IsStoreTry p c.args.h c.args.addr c.args.size c.args.value c.index_mut.result.now c.store_owned.result c.store_owned.new.self =
    record { read = c.index_mut.ensures.value; state = c.store_owned.ensures.state; put = c.store_owned.ensures.lines } in
    let all = hit_store p c.args.h c.args.addr c.args.size c.args.value _ _ _ E c.self.invariant.1 inside access does (c.in-Some-E.is ∙ ap (λ (m : Mesi). Some m) c.in-Some-E.field-0-is) (e_not_s E refl) in
    let l : Line = c.line_of-l.result in
    let line : l ≡ line_at (shown p).line_bytes c.args.addr = line_is p c.args.addr c.self.inside.line_bytes c.self.inside.memory.line_bytes l c.self.invariant.0 refl c.line_of-l.ensures in
    let alone : IsAlone c.args.h l p p = subst (λ (x : Line). IsAlone c.args.h x p p) (sym line) all.alone in
    (c.self.invariant.0, all.are, marked_stored p p (moved p c.args.h c.store_owned.new.self p.memory p.rows) c.args.h c.mark_of.result c.args.addr l _ _ c.self.invariant.1.some_sets inside line alone all.steps c.mark_of.ensures.place c.self.invariant.2)

pub returns-in-Some-E : goal.returns-in-Some-E
returns-in-Some-E c =
    let p : Parts = fields c.self.view_is in
    let inside : c.args.h < length p.caches = rw (← c.self.view_is) at c.requires.holder in
    let access : IsAccessTo (shown p) c.args.addr c.args.size = rw (← c.self.view_is) at c.requires.access in
    let does : IsStoreTry p c.args.h c.args.addr c.args.size c.args.value c.index_mut.result.now c.store_owned.result c.store_owned.new.self =
    record { read = c.index_mut.ensures.value; state = c.store_owned.ensures.state; put = c.store_owned.ensures.lines } in
    let all = hit_store p c.args.h c.args.addr c.args.size c.args.value _ _ _ E c.self.invariant.1 inside access does (c.in-Some-E.is ∙ ap (λ (m : Mesi). Some m) c.in-Some-E.field-0-is) (e_not_s E refl) in
    record {
      steps = rw (← c.self.view_is) all.steps;
      notes = rw (← c.self.view_is) (sym (ap (λ (ns : List Note). all_noted c.args.log.now ns) all.notes));
      kept = coherent _ all.are;
    }

pub invariant_of-self-in-Some-S : goal.invariant_of-self-in-Some-S
invariant_of-self-in-Some-S c =
    let p : Parts = fields c.self.view_is in
    let inside : c.args.h < length p.caches = rw (← c.self.view_is) at c.requires.holder in
    let does : IsStoreTry p c.args.h c.args.addr c.args.size c.args.value c.index_mut.result.now c.store_owned.result c.store_owned.new.self =
    record { read = c.index_mut.ensures.value; state = c.store_owned.ensures.state; put = c.store_owned.ensures.lines } in
    let same : moved p c.args.h c.store_owned.new.self p.memory p.rows ≡ p = no_store p c.args.h c.args.addr c.args.size c.args.value _ _ c.store_owned.new.self c.self.invariant.1 inside does (inl (c.in-Some-S.is ∙ ap (λ (m : Mesi). Some m) c.in-Some-S.field-0-is)) in
    (c.self.invariant.0, subst (λ (x : Parts). AreParts x) (sym same) c.self.invariant.1, subst (λ (x : Parts). AreMarked (shown x) c.self.inside.marks.items) (sym same) c.self.invariant.2)

pub store_missed-requires : goal.store_missed-requires
store_missed-requires c =
    let p : Parts = fields c.self.view_is in
    let inside : c.args.h < length p.caches = rw (← c.self.view_is) at c.requires.holder in
    let does : IsStoreTry p c.args.h c.args.addr c.args.size c.args.value c.index_mut.result.now c.store_owned.result c.store_owned.new.self =
    record { read = c.index_mut.ensures.value; state = c.store_owned.ensures.state; put = c.store_owned.ensures.lines } in
    let same : moved p c.args.h c.store_owned.new.self p.memory p.rows ≡ p = no_store p c.args.h c.args.addr c.args.size c.args.value _ _ c.store_owned.new.self c.self.invariant.1 inside does (inl (c.in-Some-S.is ∙ ap (λ (m : Mesi). Some m) c.in-Some-S.field-0-is)) in
    let access : IsAccessTo (shown p) c.args.addr c.args.size = rw (← c.self.view_is) at c.requires.access in
    record {
      holder = subst (λ (x : Parts). c.args.h < length x.caches) (sym same) inside;
      access = subst (λ (x : Parts). IsAccessTo (shown x) c.args.addr c.args.size) (sym same) access;
    }

pub returns-in-Some-S : goal.returns-in-Some-S
returns-in-Some-S c =
    let p : Parts = fields c.self.view_is in
    let inside : c.args.h < length p.caches = rw (← c.self.view_is) at c.requires.holder in
    let does : IsStoreTry p c.args.h c.args.addr c.args.size c.args.value c.index_mut.result.now c.store_owned.result c.store_owned.new.self =
    record { read = c.index_mut.ensures.value; state = c.store_owned.ensures.state; put = c.store_owned.ensures.lines } in
    let same : moved p c.args.h c.store_owned.new.self p.memory p.rows ≡ p = no_store p c.args.h c.args.addr c.args.size c.args.value _ _ c.store_owned.new.self c.self.invariant.1 inside does (inl (c.in-Some-S.is ∙ ap (λ (m : Mesi). Some m) c.in-Some-S.field-0-is)) in
    record {
      steps = subst (λ (x : Parts). StepsTo (after_store (shape_of (shown x)) (shown x).tags c.args.h (line_at (shown x).line_bytes c.args.addr)) (view_stored (shown x) c.args.addr c.args.size c.args.value) (shown x) (shown c.store_missed.new.self)) (same ∙ c.self.view_is) c.store_missed.ensures.steps;
      notes = c.store_missed.ensures.notes ∙ ap (λ (x : Parts). all_noted c.args.log.now (access_notes (shape_of (shown x)) (shown x).tags c.args.h (line_at (shown x).line_bytes c.args.addr) true)) (same ∙ c.self.view_is);
      kept = coherent _ c.store_missed.ensures.kept;
    }

pub invariant_of-self-in-None : goal.invariant_of-self-in-None
invariant_of-self-in-None c =
    let p : Parts = fields c.self.view_is in
    let inside : c.args.h < length p.caches = rw (← c.self.view_is) at c.requires.holder in
    let does : IsStoreTry p c.args.h c.args.addr c.args.size c.args.value c.index_mut.result.now c.store_owned.result c.store_owned.new.self =
    record { read = c.index_mut.ensures.value; state = c.store_owned.ensures.state; put = c.store_owned.ensures.lines } in
    let same : moved p c.args.h c.store_owned.new.self p.memory p.rows ≡ p = no_store p c.args.h c.args.addr c.args.size c.args.value _ _ c.store_owned.new.self c.self.invariant.1 inside does (inr c.in-None.is) in
    (c.self.invariant.0, subst (λ (x : Parts). AreParts x) (sym same) c.self.invariant.1, subst (λ (x : Parts). AreMarked (shown x) c.self.inside.marks.items) (sym same) c.self.invariant.2)

pub store_missed-requires-in-None : goal.store_missed-requires-in-None
store_missed-requires-in-None c =
    let p : Parts = fields c.self.view_is in
    let inside : c.args.h < length p.caches = rw (← c.self.view_is) at c.requires.holder in
    let does : IsStoreTry p c.args.h c.args.addr c.args.size c.args.value c.index_mut.result.now c.store_owned.result c.store_owned.new.self =
    record { read = c.index_mut.ensures.value; state = c.store_owned.ensures.state; put = c.store_owned.ensures.lines } in
    let same : moved p c.args.h c.store_owned.new.self p.memory p.rows ≡ p = no_store p c.args.h c.args.addr c.args.size c.args.value _ _ c.store_owned.new.self c.self.invariant.1 inside does (inr c.in-None.is) in
    let access : IsAccessTo (shown p) c.args.addr c.args.size = rw (← c.self.view_is) at c.requires.access in
    record {
      holder = subst (λ (x : Parts). c.args.h < length x.caches) (sym same) inside;
      access = subst (λ (x : Parts). IsAccessTo (shown x) c.args.addr c.args.size) (sym same) access;
    }

pub returns-in-None : goal.returns-in-None
returns-in-None c =
    let p : Parts = fields c.self.view_is in
    let inside : c.args.h < length p.caches = rw (← c.self.view_is) at c.requires.holder in
    let does : IsStoreTry p c.args.h c.args.addr c.args.size c.args.value c.index_mut.result.now c.store_owned.result c.store_owned.new.self =
    record { read = c.index_mut.ensures.value; state = c.store_owned.ensures.state; put = c.store_owned.ensures.lines } in
    let same : moved p c.args.h c.store_owned.new.self p.memory p.rows ≡ p = no_store p c.args.h c.args.addr c.args.size c.args.value _ _ c.store_owned.new.self c.self.invariant.1 inside does (inr c.in-None.is) in
    record {
      steps = subst (λ (x : Parts). StepsTo (after_store (shape_of (shown x)) (shown x).tags c.args.h (line_at (shown x).line_bytes c.args.addr)) (view_stored (shown x) c.args.addr c.args.size c.args.value) (shown x) (shown c.store_missed-in-None.new.self)) (same ∙ c.self.view_is) c.store_missed-in-None.ensures.steps;
      notes = c.store_missed-in-None.ensures.notes ∙ ap (λ (x : Parts). all_noted c.args.log.now (access_notes (shape_of (shown x)) (shown x).tags c.args.h (line_at (shown x).line_bytes c.args.addr) true)) (same ∙ c.self.view_is);
      kept = coherent _ c.store_missed-in-None.ensures.kept;
    }
