use Rattle.std.proofs.Common.{◌≡◌}
use Rattle.conflict_resolve.specs.InRange.{IsPortion}
use Rattle.portion_examples.proofs.endings.ended_within.Given as goal

abbrev pub invariant-loop : goal.invariant-loop
invariant-loop l = record {
  limits : l.open.limits ≡ l.fn.portion.limits;
  stands : IsPortion l.code l.open;
}
