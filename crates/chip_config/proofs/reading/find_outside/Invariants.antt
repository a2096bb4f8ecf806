use Rattle.std.proofs.Common.{◌≡◌, ◌+◌, drop}
use Rattle.chip_config.specs.Keys.{keys, keys_from}
use Rattle.chip_config.specs.Settings.{first_outside}
use Rattle.chip_config.proofs.reading.find_outside.Given as goal

abbrev pub invariant-loop-index : goal.invariant-loop-index
invariant-loop-index l = first_outside (keys_from (l.index + 1) (drop l.index l.table)) (drop l.index l.numbers) ≡ first_outside keys l.numbers
