use Rattle.std.proofs.Common.{◌≡◌, ◌≤◌, false, length, refl, arith}
use Rattle.std.proofs.lemmas.Bool.Decides.{nat_tests}
use Rattle.schedule_log.specs.Schedule.{is_feed}
use Rattle.order_reading.proofs.LineFacts.{full_bad}
use Rattle.order_reading.proofs.reader.OrderReader.take.Goals as goal

pub returns-then-is_full : goal.returns-then-is_full
returns-then-is_full c =
    let r = c.self.inside in
    let other : is_feed c.args.byte ≡ false = grind (arith, nat_tests) in
    let long : 32 ≤ length r.begun.items = grind (arith, nat_tests) in
    rw (← c.self.view_is)
    (refl, full_bad (record { ended = r.ended; begun = r.begun.items; bad = r.bad }) c.args.byte c.self.invariant.0.no_feed other long)
