use Rattle.std.proofs.Common.{◌≤◌, length, arith}
use Rattle.std.specs.Fmt.{decimal}
use Rattle.std.proofs.lemmas.Grind.{common_steps}
use Rattle.conda_base.proofs.DecimalLemmas.{length_decimal_byte, length_decimal_word}
use Rattle.schedule_log.proofs.entry.push_ended.Goals as goal

pub push-requires-2 : goal.push-requires-2
push-requires-2 c =
    let acts : length (decimal c.from.result) ≤ 10 = length_decimal_word c.from.result (omega arith) in
    grind (arith, common_steps)

pub push_decimal-requires-2 : goal.push_decimal-requires-2
push_decimal-requires-2 c =
    let acts : length (decimal c.from.result) ≤ 10 = length_decimal_word c.from.result (omega arith) in
    let cause : length (decimal c.from-2.result) ≤ 3 = length_decimal_byte c.from-2.result (omega arith) in
    grind (arith, common_steps)

pub returns-clause-fits : goal.returns-clause-fits
returns-clause-fits c =
    let acts : length (decimal c.from.result) ≤ 10 = length_decimal_word c.from.result (omega arith) in
    let cause : length (decimal c.from-2.result) ≤ 3 = length_decimal_byte c.from-2.result (omega arith) in
    grind (arith, common_steps)
