use Rattle.set_assoc.proofs.SetLemmas.{places_changed, AreSets-changed}
use Rattle.set_assoc.proofs.EntryLemmas.{AreEntries-without}
use Rattle.std.proofs.Common.{rules}
use Rattle.set_assoc.proofs.placed_sets.PlacedSets.remove.Goals as goal

pub invariant_of-self : goal.invariant_of-self
invariant_of-self g c = (
  AreSets-changed _ _ _ _ c.index_mut.result.now _ c.self.invariant.0 (search rules) c.index_mut.ensures.value
      (λ are. rw c.remove.ensures.removed (AreEntries-without _ _ _ _ are)) (search rules),
  places_changed _ _ _ (search rules) c.self.invariant.1 c.remove.ensures.places,
)

pub returns-clause-kept : goal.returns-clause-kept
returns-clause-kept g c =
    let is = invariant_of-self g c in
    let are = is.0 in
    record { sets = rw are.count are; places = is.1 }
