use Rattle.std.proofs.Common.{◌≡◌, refl, sym, true, arith}
use Rattle.std.proofs.lemmas.Bool.Decides.{nat_tests}
use Rattle.rv32_dis.specs.declared.naming.TheConstants.{MNEMONICS}
use Rattle.rv32_dis.proofs.ApartLemmas.{apart, is_elsewhere}
use Rattle.rv32_dis.proofs.naming.candidates.Goals as goal

pub returns-in_default : goal.returns-in_default
returns-in_default c =
    let none : is_elsewhere c.args.name.now ≡ true = grind (arith, nat_tests) in
    sym (apart is_elsewhere MNEMONICS c.args.name.now refl none)
