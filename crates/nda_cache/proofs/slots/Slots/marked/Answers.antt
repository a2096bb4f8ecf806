use Rattle.nda_cache.proofs.SlotFacts.{is_slot, marked_in-slot}
use Rattle.nda_cache.proofs.slots.Slots.marked.Goals as goal

pub returns : goal.returns
returns c =
    marked_in-slot c.args.self.now c.args.place c.index.result.now
    (is_slot _ _ _ _ _ _ _ c.self.view_is c.self.invariant c.requires c.index.ensures)
