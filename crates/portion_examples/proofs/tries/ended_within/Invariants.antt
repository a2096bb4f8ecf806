use Rattle.std.proofs.Common.{◌≡◌}
use Rattle.portion_examples.proofs.tries.ended_within.Given as goal

abbrev pub invariant-loop : goal.invariant-loop
invariant-loop l = l.open.limits ≡ l.fn.portion.limits
