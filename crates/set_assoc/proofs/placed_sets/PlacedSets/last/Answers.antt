use Rattle.set_assoc.proofs.placed_sets.PlacedSets.last.Goals as goal

pub returns-clause-kept : goal.returns-clause-kept
returns-clause-kept g c =
    let are = c.self.invariant.0 in
    rw (← c.self.view_is) (record { sets = rw are.count are; places = c.self.invariant.1 })
