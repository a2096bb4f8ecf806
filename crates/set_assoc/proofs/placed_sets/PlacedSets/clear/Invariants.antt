use Rattle.std.proofs.Common.{◌≡◌, [], replicate, take, length}
use Rattle.set_assoc.proofs.placed_sets.PlacedSets.clear.Given as goal

abbrev pub invariant-loop-row : goal.invariant-loop-row
invariant-loop-row g l = record {
  len : length l.row-items ≡ length l.initial.row-items;
  cleared : take l.row-index l.row-items ≡ replicate l.row-index [];
}
