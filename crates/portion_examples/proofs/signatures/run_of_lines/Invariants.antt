use Rattle.std.proofs.Common.{◌≡◌}
use Rattle.portion_examples.proofs.signatures.run_of_lines.Given as goal

abbrev pub invariant-loop-line : goal.invariant-loop-line
invariant-loop-line l = l.lines.bits ≡ l.bits
