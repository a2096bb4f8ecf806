use Rattle.std.proofs.Common.{◌≡◌, true, refl, arith}
use Rattle.std.specs.Int.{is_power_of_two}
use lib.Count.{ones}
use Rattle.chip_config.specs.Keys.{keys}
use Rattle.chip_config.proofs.config.Config.plain.Goals as goal

power_64 : is_power_of_two 64 ≡ true
unfolding ones
power_64 = refl

pub invariant_of-result-clause-some_hart_sets : goal.invariant_of-result-clause-some_hart_sets
invariant_of-result-clause-some_hart_sets c = (power_64, omega arith, omega arith)

pub invariant_of-result-clause-some_core_sets : goal.invariant_of-result-clause-some_core_sets
invariant_of-result-clause-some_core_sets c = (power_64, omega arith, omega arith)

pub returns : goal.returns
unfolding keys
returns c = refl
