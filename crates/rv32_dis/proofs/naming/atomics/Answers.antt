use Rattle.std.proofs.Common.{refl, take, drop}
use Rattle.rv32_dis.specs.declared.naming.TheConstants.{MNEMONICS}
use Rattle.rv32_dis.proofs.AtomicLemmas.{by_letters}
use Rattle.rv32_dis.proofs.naming.atomics.Goals as goal

pub returns-in-97 : goal.returns-in-97
returns-in-97 c =
    by_letters (take 8 (drop 5 MNEMONICS)) 97 (λ rest. refl) c.args.name.now c.requires.long c.requires.begins c.in-97.is

pub returns-in-109 : goal.returns-in-109
returns-in-109 c =
    by_letters (take 16 (drop 13 MNEMONICS)) 109 (λ rest. refl) c.args.name.now c.requires.long c.requires.begins c.in-109.is

pub returns-in-111 : goal.returns-in-111
returns-in-111 c =
    by_letters (take 4 (drop 29 MNEMONICS)) 111 (λ rest. refl) c.args.name.now c.requires.long c.requires.begins c.in-111.is

pub returns-in-115 : goal.returns-in-115
returns-in-115 c =
    by_letters (take 4 (drop 33 MNEMONICS)) 115 (λ rest. refl) c.args.name.now c.requires.long c.requires.begins c.in-115.is

pub returns-in-120 : goal.returns-in-120
returns-in-120 c =
    by_letters (take 4 (drop 37 MNEMONICS)) 120 (λ rest. refl) c.args.name.now c.requires.long c.requires.begins c.in-120.is
