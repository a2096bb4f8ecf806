use Rattle.std.proofs.Common.{◌≡◌, ◌+◌, ◌∙◌, refl, sym, ap}
use Rattle.std.specs.Prelude.{Some, None}
use Rattle.schedule_log.specs.EntryReading.{entry_in}
use Rattle.order_reading.proofs.LineFacts.{feed_bad, read_is}
use Rattle.order_reading.proofs.reader.OrderReader.end_line.Goals as goal

pub returns-in-Some : goal.returns-in-Some
returns-in-Some c =
    let r = c.self.inside in
    let read = c.read_entry.ensures in
    let is : entry_in r.begun.items ≡ Some c.in-Some.entry =
    ap entry_in (sym c.as_slice.ensures.value) ∙ sym (read_is c.as_slice.result.now c.read_entry.result read.text read.in_range read.every) ∙ c.in-Some.is in
    rw (← c.self.view_is) (refl, is, ap (λ begun. record { ended = r.ended + 1; begun = begun; bad = r.bad }) c.clear.ensures)

pub returns-in-None : goal.returns-in-None
returns-in-None c =
    let r = c.self.inside in
    let read = c.read_entry.ensures in
    let is : entry_in r.begun.items ≡ None =
    ap entry_in (sym c.as_slice.ensures.value) ∙ sym (read_is c.as_slice.result.now c.read_entry.result read.text read.in_range read.every) ∙ c.in-None.is in
    rw (← c.self.view_is)
    (refl, feed_bad (record { ended = r.ended; begun = r.begun.items; bad = r.bad }) c.self.invariant.0.no_feed is)
