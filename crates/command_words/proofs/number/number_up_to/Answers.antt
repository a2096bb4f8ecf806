use Rattle.std.proofs.Common.{◌+◌, ◌-◌, ◌*◌, drop, get_or, arith}
use Rattle.schedule_log.proofs.ScheduleLemmas.{number_after_above, number_next}
use Rattle.command_words.proofs.number.number_up_to.Goals as goal

pub returns-then-next-from : goal.returns-then-next-from
returns-then-next-from c =
    let digits = c.args.digits.now in
    let i = c.loop-digit.digit-index in
    let next = number_next digits i c.loop-digit.number (omega arith) in
    let above = number_after_above (drop (i + 1) digits) (c.loop-digit.number * 10 + (get_or digits i 0 - 48)) in
    omega (arith, next, above, c.loop-digit.invariant.value)
