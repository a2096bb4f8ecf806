use Rattle.std.proofs.Common.{arith, refl}
use Rattle.chip_config.specs.Settings.{settings_at}
use Rattle.chip_config.proofs.ReadingLemmas.{memory_fine}
use Rattle.chip_config.proofs.reading.configure.Goals as goal

pub returns : goal.returns
returns c =
    (memory_fine (settings_at c.args.numbers.now) (omega arith) c.if-base-line-ne0.false c.if-bytes-line-ne0.false, refl)
