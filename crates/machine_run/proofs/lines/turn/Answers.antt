use Rattle.std.proofs.Common.{◌++◌, drop, length, ◌∙◌, subst, true, false, Ok, arith, length-drop}
use Rattle.std.proofs.lemmas.Result.{err_from_is_err_and}
use Rattle.schedule_log.specs.Findings.{finds}
use Rattle.machine_run.specs.Running.{RunsLine}
use Rattle.schedule_log.proofs.ActorLemmas.{fed_on}
use Rattle.machine_run.proofs.GoingFacts.{fed_ahead, bad_ahead, line_ran, line_refused, line_failed, line_bad, still_on}
use Rattle.machine_run.proofs.lines.turn.Goals as goal

pub line-requires : goal.line-requires
line-requires g c =
    c.requires.can.on_chip c.in-Events.actor
    (fed_on c.args.reader.now c.args.piece.now c.in-Events.used c.in-Events.used c.in-Events.actor c.in-Events.count c.in-Events.ensures.answer)

pub returns-in_err-line-in-Events-clause-turns : goal.returns-in_err-line-in-Events-clause-turns
returns-in_err-line-in-Events-clause-turns g c =
    let p = err_from_is_err_and c.from_residual.result c.from_residual.ensures.1 in
    let line = c.in_err-line-in-Events.ensures.line in
    let laws = g.met.M.Machine in
    rw p.1
    (record {
      broken = λ s bytes rest more h.
          line_failed g.M.Machine (record { journal = λ s e more. (laws.goes_on s e more).0; output = λ s e more. (laws.goes_on s e more).1 })
          s bytes (g.S.Streams.seen c.args.streams.now) (g.S.Streams.seen c.line.new.streams) c.args.run.now c.in-Events.actor c.in-Events.count
          (finds more c.args.reader.now (c.args.piece.now ++ rest)) (finds more c.feed.new.self (drop c.in-Events.used c.args.piece.now ++ rest))
          (fed_ahead c.args.reader.now c.feed.new.self c.args.piece.now rest c.in-Events.used _ more c.in-Events.ensures.feeds) line.0 line.1 h;
    })

pub returns-then-branch-clause-turns : goal.returns-then-branch-clause-turns
returns-then-branch-clause-turns g c =
    let v = g.S.Streams.seen c.args.streams.now in
    let w = g.S.Streams.seen c.line.new.streams in
    let fed = c.in-Events.ensures in
    let line : RunsLine g.M.Machine v w c.args.run.now c.line.new.self c.in-Events.actor c.in-Events.count (Ok true) =
    subst (λ b. RunsLine g.M.Machine v w c.args.run.now c.line.new.self c.in-Events.actor c.in-Events.count (Ok b)) c.if-branch.true c.in_ok-line-in-Events.ensures.line in (
      record { bound = fed.used.2; some = λ _. fed.used.1 },
      record {
        fewer = omega (arith, length-drop c.in-Events.used c.args.piece.now);
        lines = omega (arith, length-drop c.in-Events.used c.args.piece.now, fed.few, fed.used.2);
        can = record {
          good_lines = fed.bad;
          begun = fed.begun;
          on_chip = still_on g.M.Machine c.args.run.now.machine c.line.new.self.machine c.args.reader.now.harts c.args.reader.now.cores c.feed.new.self.harts c.feed.new.self.cores
              c.in_ok-line-in-Events.ensures.actors fed.chip.0 fed.chip.1 c.requires.can.on_chip;
        };
        source = line.1.source;
        going = λ s bytes rest more h.
            line_ran g.M.Machine s bytes v w c.args.run.now c.line.new.self c.in-Events.actor c.in-Events.count
            (finds more c.args.reader.now (c.args.piece.now ++ rest)) (finds more c.feed.new.self (drop c.in-Events.used c.args.piece.now ++ rest))
            (fed_ahead c.args.reader.now c.feed.new.self c.args.piece.now rest c.in-Events.used _ more fed.feeds) line.0 line.1 h;
      },
    )

pub returns-else-branch-clause-turns : goal.returns-else-branch-clause-turns
returns-else-branch-clause-turns g c =
    let v = g.S.Streams.seen c.args.streams.now in
    let w = g.S.Streams.seen c.line.new.streams in
    let line : RunsLine g.M.Machine v w c.args.run.now c.line.new.self c.in-Events.actor c.in-Events.count (Ok false) =
    subst (λ b. RunsLine g.M.Machine v w c.args.run.now c.line.new.self c.in-Events.actor c.in-Events.count (Ok b)) c.if-branch.false c.in_ok-line-in-Events.ensures.line in
    record {
      ended = λ s bytes rest more h.
          line_refused g.M.Machine s bytes v w c.args.run.now c.line.new.self c.in-Events.actor c.in-Events.count
          (finds more c.args.reader.now (c.args.piece.now ++ rest)) (finds more c.feed.new.self (drop c.in-Events.used c.args.piece.now ++ rest))
          (fed_ahead c.args.reader.now c.feed.new.self c.args.piece.now rest c.in-Events.used _ more c.in-Events.ensures.feeds) line.0 line.1 h;
    }

pub returns-in-Bad-clause-turns : goal.returns-in-Bad-clause-turns
returns-in-Bad-clause-turns g c = record {
  ended = λ s bytes rest more h.
      line_bad g.M.Machine s bytes (g.S.Streams.seen c.args.streams.now) c.args.run.now c.in-Bad.line c.in-Bad.why (finds more c.args.reader.now (c.args.piece.now ++ rest))
      (fed_ahead c.args.reader.now c.feed.new.self c.args.piece.now rest (length c.args.piece.now) _ more c.in-Bad.ensures.feeds
      ∙ bad_ahead c.feed.new.self (record { line = c.in-Bad.line; why = c.in-Bad.why }) more (drop (length c.args.piece.now) c.args.piece.now ++ rest) c.in-Bad.ensures.bad) h;
}
