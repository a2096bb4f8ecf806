use Rattle.std.proofs.Common.{◌≡◌}
use Rattle.self_run.specs.Generated.{IsAtEvent}
use Rattle.self_run.proofs.running.run_first.Given as goal

abbrev pub invariant-loop : goal.invariant-loop
invariant-loop g l = (l.generated.seed ≡ l.fn.generated.seed) × IsAtEvent g.M.Machine l.counter l.generated
