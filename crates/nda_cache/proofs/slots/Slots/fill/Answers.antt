use Rattle.nda_cache.proofs.SlotFacts.{is_filled}
use Rattle.nda_cache.proofs.slots.Slots.fill.Goals as goal

pub invariant_of-self : goal.invariant_of-self
invariant_of-self c =
    (is_filled c.args.self.now _ _ _ c.args.place c.self.inside.slots.items c.index_mut.result.now c.fill_from.new.self c.args.from.now c.self.view_is c.self.invariant c.requires.there
    c.index_mut.ensures.value c.requires.unfilled c.told-from c.fill_from.ensures.bytes c.fill_from.ensures.mask c.fill_from.ensures.filled).are

pub returns : goal.returns
returns c =
    (is_filled c.args.self.now _ _ _ c.args.place c.self.inside.slots.items c.index_mut.result.now c.fill_from.new.self c.args.from.now c.self.view_is c.self.invariant c.requires.there
    c.index_mut.ensures.value c.requires.unfilled c.told-from c.fill_from.ensures.bytes c.fill_from.ensures.mask c.fill_from.ensures.filled).lines
