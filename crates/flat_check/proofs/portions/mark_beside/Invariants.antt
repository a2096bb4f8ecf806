use Rattle.flat_check.proofs.TryFacts.{MarkedTo}
use Rattle.flat_check.proofs.portions.mark_beside.Given as goal

abbrev pub invariant-loop-k : goal.invariant-loop-k
invariant-loop-k l = MarkedTo l.fn.marks l.marks l.code l.j l.k l.access
