use Rattle.std.proofs.Common.{◌≡◌, ◌*◌, ◌%◌, ◌^◌, arith}
use Rattle.std.proofs.lemmas.Nat.{or_shifted}
use Rattle.rv32_decode.proofs.encoding.join.Goals as goal

pub returns : goal.returns
returns c =
    let whole : c.args.high * 2 ^ c.args.bits % 4294967296 ≡ c.args.high * 2 ^ c.args.bits = omega arith in
    rw whole (or_shifted c.args.high c.args.bits c.args.low c.requires.low)
