use Rattle.std.proofs.Common.{sym, ap, ◌∙◌, rules}
use Rattle.std.specs.Option.{option_map}
use Rattle.cpu_cache.specs.Contents.{written_back}
use Rattle.cpu_cache.proofs.PlaceFacts.{place_below}
use Rattle.cpu_cache.proofs.ViewFacts.{IsCache-seen, content_seen, seen_as, written_back_seen}
use Rattle.cpu_cache.proofs.cache.CpuCache.modified_bytes.Goals as goal

pub slot_at-slot-requires-clause-place : goal.slot_at-slot-requires-clause-place
slot_at-slot-requires-clause-place c = place_below c.self.inside.lines c.args.l c.in-Some.kept c.in-Some.ensures.kept (sym c.in-Some.ensures.value)

pub bytes_to_write-requires : goal.bytes_to_write-requires
bytes_to_write-requires c = search (rules, c.slot_at-slot.ensures.within, c.self.invariant.total, c.deref.ensures.value)

pub returns-in-Some-clause-bytes : goal.returns-in-Some-clause-bytes
returns-in-Some-clause-bytes c =
    rw (← c.self.view_is)
    (c.bytes_to_write.ensures ∙ rw (c.deref.ensures.value, c.slot_at-slot.ensures.slot)
    (written_back_seen _ c.self.inside.lines c.self.inside.slots.items c.args.l c.in-Some.kept c.self.invariant (sym c.in-Some.ensures.value)))

pub returns-in-Some-clause-kept : goal.returns-in-Some-clause-kept
returns-in-Some-clause-kept c = rw (← c.self.view_is) (IsCache-seen _ _ _ c.self.invariant)

pub returns-in-None-clause-bytes : goal.returns-in-None-clause-bytes
returns-in-None-clause-bytes c =
    let n = c.self.inside.line_bytes in
    let slots = c.self.inside.slots.items in
    let lines = c.self.inside.lines in
    let none = content_seen n slots lines c.args.l ∙ ap (λ o. option_map (seen_as n slots lines c.args.l) o) (sym c.in-None.ensures.value) in
    rw (← c.self.view_is) (ap (λ o. written_back o) (sym none))

pub returns-in-None-clause-kept : goal.returns-in-None-clause-kept
returns-in-None-clause-kept c = rw (← c.self.view_is) (IsCache-seen _ _ _ c.self.invariant)
