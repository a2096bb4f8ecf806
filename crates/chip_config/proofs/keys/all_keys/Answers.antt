use Rattle.std.proofs.Common.{refl}
use Rattle.chip_config.specs.Keys.{keys}
use Rattle.chip_config.proofs.keys.all_keys.Goals as goal

pub returns : goal.returns
unfolding keys
returns c = refl
