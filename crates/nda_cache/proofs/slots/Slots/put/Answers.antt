use Rattle.nda_cache.proofs.SlotFacts.{is_stored}
use Rattle.nda_cache.proofs.slots.Slots.put.Goals as goal

pub returns-clause-stores : goal.returns-clause-stores
returns-clause-stores c =
    (is_stored c.args.self.now _ _ _ c.args.place c.args.offset c.args.size c.args.value c.self.inside.slots.items c.index_mut.result.now c.put_value.new.line c.self.view_is c.self.invariant
    c.requires.there c.index_mut.ensures.value c.requires.size c.requires.within c.put_value.ensures.stores).stores
