use Rattle.std.proofs.Common.{◌≤◌, length, arith}
use Rattle.std.specs.Fmt.{decimal}
use Rattle.conda_base.proofs.DecimalLemmas.{length_decimal_wide}
use Rattle.command_answers.proofs.text.push_number.Goals as goal

pub push_decimal-requires : goal.push_decimal-requires
push_decimal-requires c =
    let few : length (decimal c.args.number) ≤ 20 = length_decimal_wide c.args.number (omega arith) in
    (omega arith, omega arith)

pub returns-clause-len : goal.returns-clause-len
returns-clause-len c =
    let few : length (decimal c.args.number) ≤ 20 = length_decimal_wide c.args.number (omega arith) in
    omega arith
