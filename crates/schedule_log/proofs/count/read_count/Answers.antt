use Rattle.std.proofs.Common.{◌+◌, ◌-◌, ◌*◌, drop, get_or, sym, arith}
use Rattle.schedule_log.proofs.ScheduleLemmas.{count_of_too_many, number_after_above, number_next}
use Rattle.schedule_log.proofs.count.read_count.Goals as goal

pub returns-then-count-gt-MAX_COUNT : goal.returns-then-count-gt-MAX_COUNT
returns-then-count-gt-MAX_COUNT c =
    let digits = c.args.digits.now in
    let i = c.loop-digit.digit-index in
    let next = number_next digits i c.loop-digit.count (omega arith) in
    let above = number_after_above (drop (i + 1) digits) (c.loop-digit.count * 10 + (get_or digits i 0 - 48)) in
    sym (count_of_too_many digits (omega (arith, next, above, c.loop-digit.invariant.number)))
