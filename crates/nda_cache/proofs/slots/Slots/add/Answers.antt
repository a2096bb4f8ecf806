use Rattle.std.proofs.Common.{◌<◌, ◌≤◌, length, rules}
use Rattle.nda_cache.proofs.SlotFacts.{is_taken, is_pushed}
use Rattle.nda_cache.proofs.TriedFacts.{same_unknown}
use Rattle.nda_cache.proofs.slots.Slots.add.Goals as goal

pub invariant_of-self-else-place-len : goal.invariant_of-self-else-place-len
invariant_of-self-else-place-len c =
    let full : length c.self.inside.slots.items ≤ c.self.inside.used = search rules in
    rw c.push_reserved.ensures.items
    (is_pushed c.args.self.now _ _ _ c.args.l c.self.inside.slots.items c.empty.result c.self.view_is c.self.invariant full
    (same_unknown c.empty.result c.empty.ensures.bytes c.empty.ensures.mask c.empty.ensures.filled)).are

pub returns-then-place-len : goal.returns-then-place-len
returns-then-place-len c =
    let below : c.self.inside.used < length c.self.inside.slots.items = search rules in
    rw c.take_over.ensures
    (is_taken c.args.self.now _ _ _ c.args.l c.self.inside.slots.items c.index_mut.result.now c.self.view_is c.self.invariant below c.index_mut.ensures.value).lines

pub returns-else-place-len : goal.returns-else-place-len
returns-else-place-len c =
    let full : length c.self.inside.slots.items ≤ c.self.inside.used = search rules in
    rw c.push_reserved.ensures.items
    (rw c.push_reserved.ensures.capacity
    (is_pushed c.args.self.now _ _ _ c.args.l c.self.inside.slots.items c.empty.result c.self.view_is c.self.invariant full
    (same_unknown c.empty.result c.empty.ensures.bytes c.empty.ensures.mask c.empty.ensures.filled)).lines)
