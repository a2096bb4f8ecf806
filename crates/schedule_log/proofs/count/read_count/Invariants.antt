use Rattle.std.proofs.Common.{◌≡◌, ◌≤◌, drop}
use Rattle.std.specs.List.{list_all}
use Rattle.conda_base.specs.Digits.{is_digit, number_after}
use Rattle.schedule_log.proofs.count.read_count.Given as goal

abbrev pub invariant-loop-digit : goal.invariant-loop-digit
invariant-loop-digit l = record {
  small : l.count ≤ 67108864;
  number : number_after l.count (drop l.digit-index l.digits) ≡ number_after 0 l.digits;
  all : list_all is_digit (drop l.digit-index l.digits) ≡ list_all is_digit l.digits;
}
