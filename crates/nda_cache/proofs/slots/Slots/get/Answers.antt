use Rattle.std.proofs.Common.{◌∙◌}
use Rattle.nda_cache.proofs.SlotFacts.{is_slot, value_in-slot}
use Rattle.nda_cache.proofs.slots.Slots.get.Goals as goal

pub returns : goal.returns
returns c =
    c.get.ensures ∙
    value_in-slot c.args.self.now c.args.place c.index.result.now c.args.offset c.args.size
    (is_slot _ _ _ _ _ _ _ c.self.view_is c.self.invariant c.requires.there c.index.ensures) c.requires.within c.requires.known
