use Rattle.std.proofs.Common.{sym, subst}
use Rattle.rv32_asm.specs.Programs.{IsProgram}
use Rattle.self_workload.proofs.WordFacts.{words_fit}
use Rattle.self_workload.proofs.image.generate.Goals as goal

pub plain-requires : goal.plain-requires
plain-requires c = subst (IsProgram 65536) (sym c.in_ok-words.ensures.words) (words_fit c.args.seed)
