use Rattle.std.specs.Prelude.{◌≡◌, ◌++◌, take, drop}
use Rattle.chip_core.specs.Rulings.{all_joined}
use Rattle.chip_core.proofs.turns.tell_all.Given as goal

abbrev pub invariant-loop-portion : goal.invariant-loop-portion
invariant-loop-portion l = l.portion-items ≡ all_joined l.writes (take l.portion-index l.initial.portion-items) ++ drop l.portion-index l.initial.portion-items
