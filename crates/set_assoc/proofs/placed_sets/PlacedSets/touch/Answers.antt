use Rattle.set_assoc.proofs.SetLemmas.{places_changed, AreSets-changed, AreEntries-touched}
use Rattle.std.proofs.Common.{◌≡◌, ◌%◌, rules}
use Rattle.set_assoc.proofs.placed_sets.PlacedSets.touch.Goals as goal

pub invariant_of-self : goal.invariant_of-self
invariant_of-self g c =
    let placed : c.args.line.0 % c.self.inside.sets ≡ c.set_of-set.result = search rules in (
      AreSets-changed _ _ _ _ c.index_mut.result.now _ c.self.invariant.0 (search rules) c.index_mut.ensures.value
          (λ are. rw c.touch.ensures.front (AreEntries-touched _ _ _ _ placed are)) (search rules),
      places_changed _ _ _ (search rules) c.self.invariant.1 c.touch.ensures.places,
    )

pub returns-clause-kept : goal.returns-clause-kept
returns-clause-kept g c =
    let is = invariant_of-self g c in
    let are = is.0 in
    record { sets = rw are.count are; places = is.1 }
