use Rattle.std.proofs.Common.{◌≡◌, ◌<◌, ◌^◌, drop}
use Rattle.conda_base.specs.Digits.{number_after}
use Rattle.rv32_asm.proofs.survey.read_word.Given as goal

abbrev pub invariant-loop-digit : goal.invariant-loop-digit
invariant-loop-digit l = record {
  small : l.number < 2 ^ 32;
  value : number_after l.number (drop l.digit-index l.digits) ≡ number_after 0 l.fn.digits;
}
