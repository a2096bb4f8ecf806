use Rattle.std.proofs.Common.{◌≡◌, ◌≤◌, drop}
use Rattle.conda_base.specs.Digits.{number_after}
use Rattle.command_words.proofs.number.number_up_to.Given as goal

abbrev pub invariant-loop-digit : goal.invariant-loop-digit
invariant-loop-digit l = record {
  small : l.number ≤ l.fn.most;
  value : number_after l.number (drop l.digit-index l.fn.digits) ≡ number_after 0 l.fn.digits;
}
