use lib.Count.{ones}
use Rattle.std.proofs.Common.{refl, arith}
use Rattle.portion_examples.proofs.tries.a_full_set_ends_a_try.Goals as goal

pub invariant_of-config-clause-some_core_sets : goal.invariant_of-config-clause-some_core_sets
unfolding ones
invariant_of-config-clause-some_core_sets g c = (refl, omega arith, omega arith)
