use Rattle.std.proofs.Common.{◌+◌, ◌≤◌, Some, get_or, sym, ap, ◌∙◌}
use Rattle.std.specs.Option.{option_map}
use Rattle.conda_base.specs.declared.Mesi.{Mesi}
use Rattle.set_assoc.specs.declared.placed.Placed.{Placed}
use Rattle.cpu_cache.specs.Contents.{loaded}
use Rattle.set_assoc.proofs.SeenFacts.{not_touched}
use Rattle.cpu_cache.specs.Slots.{contents_in}
use Rattle.cpu_cache.proofs.PlaceFacts.{place_below}
use Rattle.cpu_cache.proofs.StoreFacts.{IsStore-changed}
use Rattle.cpu_cache.proofs.ViewFacts.{IsCache-seen, content_seen, seen_as, touched_seen, value_seen}
use Rattle.cpu_cache.proofs.cache.CpuCache.load_held_at.Goals as goal

pub slot_at-slot-requires-clause-place : goal.slot_at-slot-requires-clause-place
slot_at-slot-requires-clause-place c = place_below c.self.inside.lines c.args.l c.in-Some.kept c.in-Some.ensures.kept (sym c.in-Some.ensures.value)

pub touch-requires : goal.touch-requires
touch-requires c = ap (λ o. option_map (λ (kept : Placed Mesi). kept.place) o) (sym c.in-Some.ensures.value)

pub invariant_of-self : goal.invariant_of-self
invariant_of-self c = IsStore-changed _ c.self.inside.lines c.touch.new.self _ c.args.l _ c.self.invariant c.touch.ensures.front c.touch.ensures.kept

pub returns-in-Some-clause-value : goal.returns-in-Some-clause-value
returns-in-Some-clause-value c =
    let within : c.args.offset + c.args.size ≤ c.self.inside.line_bytes = rw (← c.self.view_is) at c.requires.within in
    rw (← c.self.view_is)
    (ap (λ v. Some v) c.read_value.ensures ∙
    value_seen c.self.inside.line_bytes c.self.inside.lines c.self.inside.slots.items c.args.l c.in-Some.kept c.index.result.now c.args.offset c.args.size c.self.invariant (sym c.in-Some.ensures.value)
    (c.index.ensures ∙ ap (λ s. get_or c.self.inside.slots.items s c.index.result.now) c.slot_at-slot.ensures.slot) within)

pub returns-in-Some-clause-front : goal.returns-in-Some-clause-front
returns-in-Some-clause-front c =
    let n = c.self.inside.line_bytes in
    let slots = c.self.inside.slots.items in
    rw (← c.self.view_is)
    (ap (λ ls. contents_in n slots ls) c.touch.ensures.front ∙ touched_seen n slots c.self.inside.lines c.args.l)

pub returns-in-Some-clause-kept : goal.returns-in-Some-clause-kept
returns-in-Some-clause-kept c = IsCache-seen _ _ _ (invariant_of-self c)

pub returns-in-None : goal.returns-in-None
returns-in-None c =
    let n = c.self.inside.line_bytes in
    let slots = c.self.inside.slots.items in
    let lines = c.self.inside.lines in
    let none = content_seen n slots lines c.args.l ∙ ap (λ o. option_map (seen_as n slots lines c.args.l) o) (sym c.in-None.ensures.value) in
    record {
      value = rw (← c.self.view_is) (ap (λ o. loaded c.args.offset c.args.size o) (sym none));
      front = rw (← c.self.view_is) (ap (λ s. record { line_bytes = n; lines = s }) (not_touched (contents_in n slots lines).lines c.args.l none));
      kept = rw (← c.self.view_is) (IsCache-seen _ _ _ c.self.invariant);
    }
