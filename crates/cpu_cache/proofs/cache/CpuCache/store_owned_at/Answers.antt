use Rattle.std.proofs.Common.{◌≡◌, ◌+◌, ◌≤◌, Some, get_or, set, sym, ap, ◌∙◌}
use Rattle.std.specs.Option.{option_map}
use Rattle.conda_base.specs.Bytes.{stored}
use Rattle.conda_base.specs.declared.Mesi.{Mesi}
use Rattle.set_assoc.specs.declared.placed.Placed.{Placed}
use Rattle.set_assoc.specs.SetLists.{find}
use Rattle.cpu_cache.specs.Slots.{contents_in}
use Rattle.cpu_cache.proofs.PlaceFacts.{place_below}
use Rattle.cpu_cache.proofs.StoreFacts.{IsStore-changed, IsStore-written}
use Rattle.cpu_cache.proofs.ViewFacts.{IsCache-seen, found_seen, not_stored, nothing_stored, content_seen, seen_as, slot_in, slot_stored, state_seen, stored_is, stored_seen}
use Rattle.cpu_cache.proofs.cache.CpuCache.store_owned_at.Goals as goal

pub slot_at-slot-requires-clause-place : goal.slot_at-slot-requires-clause-place
slot_at-slot-requires-clause-place c = place_below c.self.inside.lines c.args.l c.in-Some.kept c.in-Some.ensures.kept (sym c.in-Some.ensures.value)

pub front_in-requires : goal.front_in-requires
front_in-requires c = ap (λ o. option_map (λ (kept : Placed Mesi). kept.place) o) (sym c.in-Some.ensures.value)

pub invariant_of-self : goal.invariant_of-self
invariant_of-self c =
    let within : c.args.offset + c.args.size ≤ c.self.inside.line_bytes = rw (← c.self.view_is) at c.requires.within in
    let slots = c.self.inside.slots.items in
    let fits = slot_stored c.self.inside.line_bytes c.self.inside.lines slots c.args.l c.in-Some.kept c.index_mut.result.now c.args.offset c.args.size c.args.value c.self.invariant (sym c.in-Some.ensures.value)
    (c.index_mut.ensures.value ∙ ap (λ s. get_or slots s c.index_mut.result.now) c.slot_at-slot.ensures.slot) c.requires.size within in
    IsStore-changed _ c.self.inside.lines c.front_in.new.lines _ c.args.l _
    (IsStore-written _ c.self.inside.lines slots c.slot_at-slot.result c.write_value.new.bytes c.self.invariant (rw c.write_value.ensures fits))
    c.front_in.ensures.front c.front_in.ensures.kept

pub returns-in-M-clause-state : goal.returns-in-M-clause-state
returns-in-M-clause-state c =
    rw (← c.self.view_is) (ap (λ o. option_map (λ (kept : Placed Mesi). kept.value) o) c.in-Some.ensures.value ∙ state_seen c.self.inside.line_bytes c.self.inside.slots.items c.self.inside.lines c.args.l)

pub returns-in-M-clause-lines : goal.returns-in-M-clause-lines
returns-in-M-clause-lines c =
    let n = c.self.inside.line_bytes in
    let slots = c.self.inside.slots.items in
    let lines = c.self.inside.lines in
    let kept = c.in-Some.kept in
    let there : find c.self.inside.lines c.args.l ≡ Some c.in-Some.kept = sym c.in-Some.ensures.value in
    let within : c.args.offset + c.args.size ≤ c.self.inside.line_bytes = rw (← c.self.view_is) at c.requires.within in
    let read = c.index_mut.ensures.value ∙ ap (λ s. get_or slots s c.index_mut.result.now) c.slot_at-slot.ensures.slot in
    rw (← c.self.view_is)
    (ap (λ s. contents_in n (set slots s c.write_value.new.bytes) c.front_in.new.lines) c.slot_at-slot.ensures.slot ∙
    ap (λ b. contents_in n (set slots (slot_in lines c.args.l kept) b) c.front_in.new.lines) c.write_value.ensures ∙
    ap (λ ls. contents_in n (set slots (slot_in lines c.args.l kept) (stored c.index_mut.result.now c.args.offset c.args.size c.args.value)) ls) c.front_in.ensures.front ∙
    stored_seen n lines slots c.args.l kept c.index_mut.result.now c.args.offset c.args.size c.args.value c.self.invariant there read c.requires.size within
    (rw (← c.front_in.ensures.front) c.front_in.ensures.kept) ∙
    stored_is (contents_in n slots lines) c.args.l (seen_as n slots lines c.args.l kept) c.args.offset c.args.size c.args.value (found_seen n slots lines c.args.l kept there) c.in-M.is)

pub returns-in-M-clause-kept : goal.returns-in-M-clause-kept
returns-in-M-clause-kept c = IsCache-seen _ _ _ (invariant_of-self c)

pub returns-in-S : goal.returns-in-S
returns-in-S c =
    let n = c.self.inside.line_bytes in
    let slots = c.self.inside.slots.items in
    let lines = c.self.inside.lines in
    let there : find c.self.inside.lines c.args.l ≡ Some c.in-Some.kept = sym c.in-Some.ensures.value in
    record {
      state = rw (← c.self.view_is) (ap (λ o. option_map (λ (kept : Placed Mesi). kept.value) o) c.in-Some.ensures.value ∙ state_seen n slots lines c.args.l);
      lines = rw (← c.self.view_is) (not_stored (contents_in n slots lines) c.args.l (seen_as n slots lines c.args.l c.in-Some.kept) c.args.offset c.args.size c.args.value (found_seen n slots lines c.args.l c.in-Some.kept there) c.in-S.is);
      kept = rw (← c.self.view_is) (IsCache-seen _ _ _ c.self.invariant);
    }

pub returns-in-None : goal.returns-in-None
returns-in-None c =
    let n = c.self.inside.line_bytes in
    let slots = c.self.inside.slots.items in
    let lines = c.self.inside.lines in
    let none = content_seen n slots lines c.args.l ∙ ap (λ o. option_map (seen_as n slots lines c.args.l) o) (sym c.in-None.ensures.value) in
    record {
      state = rw (← c.self.view_is) (ap (λ o. option_map (λ (kept : Placed Mesi). kept.value) o) c.in-None.ensures.value ∙ state_seen n slots lines c.args.l);
      lines = rw (← c.self.view_is) (nothing_stored (contents_in n slots lines) c.args.l c.args.offset c.args.size c.args.value none);
      kept = rw (← c.self.view_is) (IsCache-seen _ _ _ c.self.invariant);
    }
