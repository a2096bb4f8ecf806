use Rattle.std.proofs.Common.{◌≡◌, replicate}
use Rattle.offload_calls.specs.declared.status.CoreStatus.TheVariants as Core_is
use Rattle.flat_check.proofs.flat.idle_cores.Given as goal

abbrev pub invariant-loop-j : goal.invariant-loop-j
invariant-loop-j l = l.statuses.items ≡ replicate l.j Core_is.Idle
