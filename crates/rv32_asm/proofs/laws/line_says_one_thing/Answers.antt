use Rattle.std.proofs.Common.{sym, ◌∙◌}
use Rattle.rv32_asm.proofs.GrammarLemmas.{says_once}
use Rattle.rv32_asm.proofs.laws.line_says_one_thing.Goals as goal

pub returns : goal.returns
returns c line a b ha hb = sym (says_once line a ha) ∙ says_once line b hb
