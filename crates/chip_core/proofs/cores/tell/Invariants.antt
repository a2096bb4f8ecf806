use Rattle.std.specs.Prelude.{◌≡◌, ◌∷◌, [], ◌++◌, take, drop}
use Rattle.chip_core.specs.Steps.{all_told}
use Rattle.chip_core.proofs.cores.tell.Given as goal

abbrev pub invariant-loop-portion : goal.invariant-loop-portion
invariant-loop-portion l = l.portion-items ≡ all_told (l.l ∷ []) (take l.portion-index l.initial.portion-items) ++ drop l.portion-index l.initial.portion-items
