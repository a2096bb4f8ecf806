use Rattle.std.proofs.Common.{◌≡◌, true, refl, sym, ◌∙◌, take, drop}
use Rattle.rv32_dis.specs.declared.naming.TheConstants.{MNEMONICS}
use Rattle.rv32_dis.proofs.ApartLemmas.{apart, among_first, is_plain, plain_short, plain_other}
use Rattle.rv32_dis.proofs.naming.candidates_of_a.Goals as goal
use Rattle.rv32_dis.proofs.naming.candidates_of_a.Goals.{else-name-ge4-via-then-name-ge4+else-eq, else-name-ge4-via-else-name-ge4}

pub returns-else-name-ge4 : goal.returns-else-name-ge4
returns-else-name-ge4 c =
    let name = c.args.name.now in
    let plain : is_plain name ≡ true = elim c.else-name-ge4.branch [
      | else-name-ge4-via-then-name-ge4+else-eq w ↦ plain_other name c.requires.begins (rw w.as_slice.ensures at (sym w.eq.ensures ∙ w.if-eq.false))
      | else-name-ge4-via-else-name-ge4 w ↦ plain_short name c.requires.begins w.if-name-ge4.false
    ] in
    among_first (take 5 MNEMONICS) (drop 5 MNEMONICS) name (apart is_plain (drop 5 MNEMONICS) name refl plain)
