use Rattle.std.proofs.Common.{◌-◌, get_or, sym, ap, ◌∙◌}
use Rattle.cpu_cache.proofs.PlaceFacts.{place_below}
use Rattle.cpu_cache.proofs.RoomFacts.{find_listed}
use Rattle.cpu_cache.proofs.ViewFacts.{IsCache-seen, left_seen, nothing_left}
use Rattle.cpu_cache.proofs.cache.CpuCache.last.Goals as goal

pub slot_at-slot-requires-clause-place : goal.slot_at-slot-requires-clause-place
slot_at-slot-requires-clause-place c =
    let lines = c.self.inside.lines in
    let there = find_listed lines c.args.l _ (c.in-Some.line, c.in-Some.kept) c.self.invariant.placed.sets (sym c.in-Some.ensures.last) in
    place_below lines c.in-Some.line c.in-Some.kept c.self.invariant.placed there.0

pub returns-in-Some : goal.returns-in-Some
returns-in-Some c =
    let n = c.self.inside.line_bytes in
    let slots = c.self.inside.slots.items in
    let lines = c.self.inside.lines in
    let read = c.index.ensures ∙ ap (λ s. get_or slots s c.index.result.now) c.slot_at-slot.ensures.slot in
    record {
      last = rw (← c.self.view_is) (left_seen n lines slots c.args.l (lines.ways - 1) (c.in-Some.line, c.in-Some.kept) c.index.result.now c.self.invariant (sym c.in-Some.ensures.last) read);
      kept = rw (← c.self.view_is) (IsCache-seen _ _ _ c.self.invariant);
    }

pub returns-in-None : goal.returns-in-None
returns-in-None c =
    let lines = c.self.inside.lines in
    record {
      last = rw (← c.self.view_is) (nothing_left c.self.inside.line_bytes lines c.self.inside.slots.items c.args.l (lines.ways - 1) (sym c.in-None.ensures.last));
      kept = rw (← c.self.view_is) (IsCache-seen _ _ _ c.self.invariant);
    }
