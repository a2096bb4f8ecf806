use Rattle.std.proofs.Common.{get_or, ◌∙◌, ap, ◌+◌}
use Rattle.std.proofs.lemmas.List.{take_more}
use Rattle.order_reading.specs.Reading.{Progress}
use Rattle.order_reading.proofs.LineFacts.{walks_bad, walks_entry}
use Rattle.order_reading.proofs.reader.OrderReader.feed.Goals as goal

pub returns-in-Entry-clause-feeds : goal.returns-in-Entry-clause-feeds
returns-in-Entry-clause-feeds c = λ _.
    let at = c.loop-index in
    let piece = c.args.piece.now in
    let next = take_more piece at.index 0 c.loop-index-test.true in
    let took = c.in-Entry.ensures in
    walks_entry c.args.self.now at.self c.take.new.self piece at.index (get_or piece at.index 0) c.in-Entry.entry at.invariant c.loop-index-test.true next took.0 took.1 took.2

pub returns-in-Bad-clause-feeds : goal.returns-in-Bad-clause-feeds
returns-in-Bad-clause-feeds c = λ _.
    let at = c.loop-index in
    let piece = c.args.piece.now in
    let next = take_more piece at.index 0 c.loop-index-test.true in
    let took = c.in-Bad.ensures in
    let number = ap (λ (p : Progress). p.ended + 1) (c.self-in-loop-index.view_is ∙ took.0) in
    walks_bad c.args.self.now at.self piece at.index (get_or piece at.index 0) (c.self-in-loop-index.inside.ended + 1) at.invariant next took.1 number
