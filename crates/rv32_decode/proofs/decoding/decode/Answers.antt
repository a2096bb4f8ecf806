use Rattle.std.proofs.Common.{◌<◌, ◌^◌, arith}
use Rattle.rv32_decode.proofs.GivenBack.{decoded-fields, decoded-back}
use Rattle.rv32_decode.proofs.decoding.decode.Goals as goal

pub returns-clause-fields : goal.returns-clause-fields
returns-clause-fields c =
    let small : c.args.word < 2 ^ 32 = omega (arith, c.ranges.word.fits) in
    rw c.by_opcode.ensures (decoded-fields c.args.word small)

pub returns-clause-back : goal.returns-clause-back
returns-clause-back c =
    let small : c.args.word < 2 ^ 32 = omega (arith, c.ranges.word.fits) in
    rw c.by_opcode.ensures (decoded-back c.args.word small)
