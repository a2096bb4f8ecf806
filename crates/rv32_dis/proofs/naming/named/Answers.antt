use Rattle.std.proofs.Common.{sym, ◌∙◌, ap}
use Rattle.rv32_dis.specs.Naming.{mnemonic_in}
use Rattle.rv32_dis.proofs.NamingLemmas.{mnemonic_in_name, found_is}
use Rattle.rv32_dis.proofs.naming.named.Goals as goal

pub returns-clause-value : goal.returns-clause-value
unfolding mnemonic_in
returns-clause-value c = c.look_up.ensures

pub returns-clause-found : goal.returns-clause-found
returns-clause-found c = found_is _ c.args.name.now (c.look_up.ensures)

pub returns-clause-every : goal.returns-clause-every
unfolding mnemonic_in
returns-clause-every c m h = c.look_up.ensures ∙ ap mnemonic_in (sym h) ∙ mnemonic_in_name m
