use Rattle.std.proofs.Common.{◌≡◌, ◌<◌, List, Some, None, length, ap, sym, ◌∙◌}
use Rattle.conda_base.specs.declared.Mesi.{Mesi}
use Rattle.conda_base.specs.declared.Mesi.TheVariants.{M, E, S}
use Rattle.traffic_trace.specs.declared.note.Note.{Note}
use Rattle.line_memory.specs.Notes.{all_noted}
use Rattle.coherent_mem.specs.Parts.{Parts, AreParts, held}
use Rattle.coherent_mem.specs.Moves.{IsDropped}
use Rattle.coherent_mem.proofs.LineFacts.{m_not_s}
use Rattle.coherent_mem.proofs.AloneFacts.{e_not_s, state_content, state_absent, alone_owner, alone_sharer, owned_notes, shared_notes}
use Rattle.coherent_mem.proofs.PartFacts.{fields}
use Rattle.coherent_mem.proofs.coherent.Coherent.isolate.Goals as goal

pub returns-in-Some-M : goal.returns-in-Some-M
returns-in-Some-M c =
    let p : Parts = fields c.self.view_is in
    let inside : c.args.h < length p.caches = rw (← c.self.view_is) at c.requires.holder in
    let are : AreParts p = c.self.invariant.1 in
    let a = state_content p c.args.h c.args.l c.index.result.now M inside c.index.ensures (sym c.state.ensures.value ∙ c.in-Some-M.is ∙ ap (λ (m : Mesi). Some m) c.in-Some-M.field-0-is) in
    record {
      alone = rw (← c.self.view_is) (alone_owner p c.args.h c.args.l a.0 are a.1 (m_not_s a.0.state a.2));
      notes = rw (← c.self.view_is) (sym (ap (λ (ns : List Note). all_noted c.args.log.now ns) (owned_notes p c.args.h c.args.l a.0 are a.1 (m_not_s a.0.state a.2))));
    }

pub returns-in-Some-E : goal.returns-in-Some-E
returns-in-Some-E c =
    let p : Parts = fields c.self.view_is in
    let inside : c.args.h < length p.caches = rw (← c.self.view_is) at c.requires.holder in
    let are : AreParts p = c.self.invariant.1 in
    let a = state_content p c.args.h c.args.l c.index.result.now E inside c.index.ensures (sym c.state.ensures.value ∙ c.in-Some-E.is ∙ ap (λ (m : Mesi). Some m) c.in-Some-E.field-0-is) in
    record {
      alone = rw (← c.self.view_is) (alone_owner p c.args.h c.args.l a.0 are a.1 (e_not_s a.0.state a.2));
      notes = rw (← c.self.view_is) (sym (ap (λ (ns : List Note). all_noted c.args.log.now ns) (owned_notes p c.args.h c.args.l a.0 are a.1 (e_not_s a.0.state a.2))));
    }

pub returns-in-Some-S : goal.returns-in-Some-S
returns-in-Some-S c =
    let p : Parts = fields c.self.view_is in
    let inside : c.args.h < length p.caches = rw (← c.self.view_is) at c.requires.holder in
    let are : AreParts p = c.self.invariant.1 in
    let a = state_content p c.args.h c.args.l c.index.result.now S inside c.index.ensures (sym c.state.ensures.value ∙ c.in-Some-S.is ∙ ap (λ (m : Mesi). Some m) c.in-Some-S.field-0-is) in
    let dropped : IsDropped c.args.h c.args.l (length p.caches) p c.drop_beside.new.self = rw (← c.self.view_is) at c.drop_beside.ensures.dropped in
    let told = rw (← c.self.view_is) at c.drop_beside.ensures.notes in
    record {
      alone = rw (← c.self.view_is) (alone_sharer p c.drop_beside.new.self c.args.h c.args.l a.0 are a.1 a.2 dropped);
      notes = rw (← c.self.view_is) (told ∙ sym (ap (λ (ns : List Note). all_noted c.args.log.now ns) (shared_notes p c.args.h c.args.l a.0 are a.1 a.2)));
    }

pub bring-requires-clause-absent : goal.bring-requires-clause-absent
bring-requires-clause-absent c =
    let p : Parts = fields c.self.view_is in
    let inside : c.args.h < length p.caches = rw (← c.self.view_is) at c.requires.holder in
    let absent : held p c.args.l c.args.h ≡ None = state_absent p c.args.h c.args.l c.index.result.now inside c.index.ensures (sym c.state.ensures.value ∙ c.in-None.is) in
    rw (← c.self.view_is) absent
