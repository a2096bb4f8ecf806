use Rattle.std.proofs.Common.{◌≡◌, [], replicate}
use Rattle.set_assoc.proofs.placed_sets.PlacedSets.new.Given as goal

abbrev pub invariant-loop : goal.invariant-loop
invariant-loop g l = l.rows.items ≡ replicate l.counter []
