use Rattle.std.proofs.Common.{rules, refl, ◌≡◌, ◌+◌, ◌-◌, ◌≤◌, [], length, take, get_or, Some, sym, ap, ◌∙◌, arith}
use Rattle.std.proofs.lemmas.List.{take_more}
use Rattle.std.proofs.lemmas.Option.{slice_get-get_or}
use Rattle.std.proofs.Math.Seq.{take-length}
use Rattle.schedule_log.specs.Findings.{answer_at, finds, feeds_in, Feeds, Progress}
use Rattle.schedule_log.specs.declared.fed.Fed.TheVariants as Fed_is
use Rattle.schedule_log.proofs.AnswerLemmas.{tells_bad, wants_more}
use Rattle.schedule_log.proofs.WalkLemmas.{feeds_in_taken, walks_on, walks_events, walks_bad, answer_events, answer_bad, answer_more, bad_ended, bad_line_at, events_end, shows_none}
use Rattle.schedule_log.proofs.reader.Reader.feed.Goals as goal

pub returns-in-Some-clause-feeds : goal.returns-in-Some-clause-feeds
unfolding finds
returns-in-Some-clause-feeds c = search rules

pub returns-in-Some-clause-answer : goal.returns-in-Some-clause-answer
unfolding finds
returns-in-Some-clause-answer c = search rules

pub take-requires : goal.take-requires
take-requires c =
    let few : feeds_in (take c.loop-index.index c.args.piece.now) ≤ c.loop-index.index = feeds_in_taken c.args.piece.now c.loop-index.index in
    omega (arith, c.loop-index.invariant.ended)

pub loop-index-preserved : goal.loop-index-preserved
loop-index-preserved c =
    let next = take_more c.args.piece.now c.loop-index.index 0 c.loop-index-test.true in
    rw (next, c.take.ensures.state) (walks_on _ _ _ _ c.loop-index.invariant (sym c.take.ensures.said ∙ c.in-Blank.is))

pub returns-in-Events-clause-feeds : goal.returns-in-Events-clause-feeds
returns-in-Events-clause-feeds c =
    let next = take_more c.args.piece.now c.loop-index.index 0 c.loop-index-test.true in
    rw (next, c.take.ensures.state) (walks_events _ _ _ _ _ _ c.loop-index.invariant (sym c.take.ensures.said ∙ c.in-Events.is)).feeds

pub returns-in-Events-clause-answer : goal.returns-in-Events-clause-answer
returns-in-Events-clause-answer c =
    answer_events c.args.self.now c.take.new.self c.args.piece.now (c.loop-index.index + 1) c.in-Events.actor c.in-Events.count (returns-in-Events-clause-feeds c)

pub returns-in-Events-clause-used : goal.returns-in-Events-clause-used
returns-in-Events-clause-used c =
    let feed : get_or c.args.piece.now c.loop-index.index 0 ≡ 10 = events_end c.loop-index.self _ c.in-Events.actor c.in-Events.count (sym c.take.ensures.said ∙ c.in-Events.is) in
    let place : c.loop-index.index + 1 - 1 ≡ c.loop-index.index = omega arith in
    let walks = c.loop-index.invariant in (
      rw place (slice_get-get_or c.args.piece.now c.loop-index.index 0 c.loop-index-test.true ∙ ap Some feed),
      omega arith,
      omega arith,
      rw place (shows_none c.args.self.now c.loop-index.self (take c.loop-index.index c.args.piece.now) walks.feeds walks.good walks.begun),
    )

pub returns-in-Events-clause-ended : goal.returns-in-Events-clause-ended
returns-in-Events-clause-ended c = λ _.
    let next = take_more c.args.piece.now c.loop-index.index 0 c.loop-index-test.true in
    rw (next, c.take.ensures.state) (walks_events _ _ _ _ _ _ c.loop-index.invariant (sym c.take.ensures.said ∙ c.in-Events.is)).ended

pub returns-in-Events-clause-few : goal.returns-in-Events-clause-few
returns-in-Events-clause-few c =
    let next = take_more c.args.piece.now c.loop-index.index 0 c.loop-index-test.true in
    let grown : c.take.new.self.ended ≡ c.args.self.now.ended + feeds_in (take (c.loop-index.index + 1) c.args.piece.now) =
    rw (next, c.take.ensures.state) (walks_events _ _ _ _ _ _ c.loop-index.invariant (sym c.take.ensures.said ∙ c.in-Events.is)).ended in
    omega (arith, grown, feeds_in_taken c.args.piece.now (c.loop-index.index + 1))

pub returns-in-Bad-clause-feeds : goal.returns-in-Bad-clause-feeds
returns-in-Bad-clause-feeds c =
    let next = take_more c.args.piece.now c.loop-index.index 0 c.loop-index-test.true in
    let is = sym c.take.ensures.said ∙ c.in-Bad.is in
    rw (take-length c.args.piece.now, c.take.ensures.state) (walks_bad _ _ c.args.piece.now c.loop-index.index _ _ c.loop-index.invariant next is)

pub returns-in-Bad-clause-answer : goal.returns-in-Bad-clause-answer
returns-in-Bad-clause-answer c =
    let feeds : Feeds c.args.self.now c.args.piece.now [] c.take.new.self = rw take-length at (returns-in-Bad-clause-feeds c) in
    let bad : c.take.new.self.bad ≡ Some (record { line = c.self-in-loop-index.inside.ended + 1; why = c.in-Bad.why }) =
    rw c.take.ensures.state (bad_line_at c.loop-index.self (get_or c.args.piece.now c.loop-index.index 0) c.in-Bad.why c.self-in-loop-index.inside.ended (sym c.take.ensures.said ∙ c.in-Bad.is) (ap (λ (p : Progress). p.ended) (c.self-in-loop-index.view_is ∙ c.take.ensures.state))) in
    answer_bad c.args.self.now c.take.new.self c.args.piece.now (length c.args.piece.now) (c.self-in-loop-index.inside.ended + 1) c.in-Bad.why feeds bad

pub returns-clause-answer : goal.returns-clause-answer
returns-clause-answer c =
    let all : c.loop-index.index ≡ length c.args.piece.now = omega arith in
    let feeds : Feeds c.args.self.now c.args.piece.now [] c.loop-index.self = rw (all, take-length) at c.loop-index.invariant.feeds in
    answer_more c.args.self.now c.loop-index.self c.args.piece.now (length c.args.piece.now) feeds c.loop-index.invariant.good c.loop-index.invariant.begun

pub returns-in-Bad-clause-few : goal.returns-in-Bad-clause-few
returns-in-Bad-clause-few c =
    let still : c.take.new.self.ended ≡ c.loop-index.self.ended =
    rw c.take.ensures.state (bad_ended c.loop-index.self (get_or c.args.piece.now c.loop-index.index 0) c.in-Bad.why (sym c.take.ensures.said ∙ c.in-Bad.is)) in
    omega (arith, c.loop-index.invariant.ended, feeds_in_taken c.args.piece.now c.loop-index.index)

pub returns-clause-few : goal.returns-clause-few
returns-clause-few c = omega (arith, c.loop-index.invariant.ended, feeds_in_taken c.args.piece.now c.loop-index.index)

pub returns-in-Some-clause-more : goal.returns-in-Some-clause-more
returns-in-Some-clause-more c =
    let whole = length c.args.piece.now in
    wants_more c.args.self.now c.args.piece.now _ whole whole (returns-in-Some-clause-answer c) (λ none. refl)

pub returns-in-Some-clause-bad_line : goal.returns-in-Some-clause-bad_line
returns-in-Some-clause-bad_line c = tells_bad c.args.self.now c.args.piece.now _ (length c.args.piece.now) (returns-in-Some-clause-answer c)

pub returns-in-Events-clause-more : goal.returns-in-Events-clause-more
returns-in-Events-clause-more c =
    let used = c.loop-index.index + 1 in
    wants_more c.args.self.now c.args.piece.now _ used (length c.args.piece.now) (returns-in-Events-clause-answer c)
    (λ none. let never : Fed_is.Events c.in-Events.actor c.in-Events.count used ≡ Fed_is.More used = returns-in-Events-clause-answer c ∙ ap (answer_at used) none in absurd (cc))

pub returns-in-Events-clause-bad_line : goal.returns-in-Events-clause-bad_line
returns-in-Events-clause-bad_line c = tells_bad c.args.self.now c.args.piece.now _ (c.loop-index.index + 1) (returns-in-Events-clause-answer c)

pub returns-in-Bad-clause-more : goal.returns-in-Bad-clause-more
returns-in-Bad-clause-more c =
    let whole = length c.args.piece.now in
    wants_more c.args.self.now c.args.piece.now _ whole whole (returns-in-Bad-clause-answer c) (λ none. refl)

pub returns-in-Bad-clause-bad_line : goal.returns-in-Bad-clause-bad_line
returns-in-Bad-clause-bad_line c = tells_bad c.args.self.now c.args.piece.now _ (length c.args.piece.now) (returns-in-Bad-clause-answer c)

pub returns-clause-more : goal.returns-clause-more
returns-clause-more c =
    let whole = length c.args.piece.now in
    wants_more c.args.self.now c.args.piece.now _ whole whole (returns-clause-answer c) (λ none. refl)

pub returns-clause-bad_line : goal.returns-clause-bad_line
returns-clause-bad_line c = tells_bad c.args.self.now c.args.piece.now _ (length c.args.piece.now) (returns-clause-answer c)
