use Rattle.std.proofs.Common.{◌≤◌, arith}
use Rattle.std.specs.Prelude.{None}
use Rattle.std.proofs.lemmas.Result.{err_from_is_err_and}
use Rattle.streams.proofs.PutFacts.{puts_nothing, puts_more, puts_part}
use Rattle.streams.proofs.whole.put_all.Goals as goal

pub loop-at-init : goal.loop-at-init
loop-at-init g c = record {
  bound = omega arith;
  text = puts_nothing (g.S.Streams.seen c.args.streams.now) c.args.role;
  leads = g.met.S.Streams.stays c.args.streams.now;
}

pub returns-in_err-put-clause-err : goal.returns-in_err-put-clause-err
returns-in_err-put-clause-err g c =
    let p = err_from_is_err_and c.from_residual.result c.from_residual.ensures.1 in
    let u = g.S.Streams.seen c.args.streams.now in
    let v = g.S.Streams.seen c.loop-at.streams in
    let w = g.S.Streams.seen c.put.new.self in
    rw p.1 (puts_part u v w c.args.role c.args.bytes.now c.loop-at.at c.in_err-put.ensures.err c.loop-at.invariant.text)

pub loop-at-preserved : goal.loop-at-preserved
loop-at-preserved g c =
    let u = g.S.Streams.seen c.args.streams.now in
    let v = g.S.Streams.seen c.loop-at.streams in
    let w = g.S.Streams.seen c.put.new.self in
    let le : c.loop-at.at ≤ c.min-end.result = omega (arith, c.min-end.ensures) in
    record {
      bound = omega (arith, c.min-end.ensures);
      text = puts_more u v w c.args.role c.args.bytes.now c.loop-at.at c.min-end.result le c.in_ok-put.ensures.ok c.loop-at.invariant.text;
      leads = g.met.S.Streams.goes_on c.args.streams.now c.loop-at.streams c.put.new.self None c.loop-at.invariant.leads c.in_ok-put.ensures.leads;
    }
