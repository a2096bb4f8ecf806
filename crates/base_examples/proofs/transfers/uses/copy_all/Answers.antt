use Rattle.std.proofs.Common.{arith}
use Rattle.std.specs.Prelude.{None}
use Rattle.streams.proofs.CopyFacts.{copied_more, copied_all}
use Rattle.base_examples.proofs.transfers.uses.copy_all.Goals as goal

pub returns-then-n-eq0-clause-copied : goal.returns-then-n-eq0-clause-copied
returns-then-n-eq0-clause-copied g c = λ ended left text ahead shows.
    copied_all (g.S.Streams.seen c.loop.streams) (g.S.Streams.seen c.read.new.self) c.args.role left text c.loop.piece c.read.new.buf c.in_ok-n.n
    (c.loop.invariant.copied left text ahead shows) (omega (arith, c.loop.invariant.piece)) (omega arith) c.in_ok-n.ensures.ok

pub loop-preserved : goal.loop-preserved
loop-preserved g c = record {
  piece = omega (arith, c.loop.invariant.piece);
  copied = λ left text ahead shows.
      copied_more (g.S.Streams.seen c.loop.streams) (g.S.Streams.seen c.read.new.self) (g.S.Streams.seen c.put.new.self) c.args.role left text c.loop.piece c.read.new.buf c.in_ok-n.n
      (c.loop.invariant.copied left text ahead shows) c.in_ok-n.ensures.ok c.in_ok-put.ensures.ok;
  leads =
      let first = g.met.S.Streams.goes_on c.args.streams.now c.loop.streams c.read.new.self None c.loop.invariant.leads c.in_ok-n.ensures.leads in
      g.met.S.Streams.goes_on c.args.streams.now c.read.new.self c.put.new.self None first c.in_ok-put.ensures.leads;
}
