use Rattle.nda_cache.proofs.SlotFacts.{is_slot, looks_in-slot}
use Rattle.nda_cache.proofs.slots.Slots.look.Goals as goal

pub returns : goal.returns
returns c =
    looks_in-slot c.args.self.now c.args.place c.index.result.now c.args.offset c.args.size c.look_in.result
    (is_slot _ _ _ _ _ _ _ c.self.view_is c.self.invariant c.requires.there c.index.ensures) c.requires.within c.look_in.ensures
