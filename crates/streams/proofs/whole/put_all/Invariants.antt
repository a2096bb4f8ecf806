use Rattle.std.proofs.Common.{◌≤◌, ◌-◌, take, length}
use Rattle.std.specs.Prelude.{None}
use Rattle.streams.specs.Seen.{Puts}
use Rattle.streams.proofs.whole.put_all.Given as goal

abbrev pub invariant-loop-at : goal.invariant-loop-at
invariant-loop-at g l = record {
  bound : l.at ≤ length l.bytes;
  text : Puts (g.S.Streams.seen l.fn.streams) (g.S.Streams.seen l.streams) l.role (take l.at l.bytes);
  leads : g.S.Streams.leads l.fn.streams l.streams None;
}

abbrev pub decreases-loop-at : goal.decreases-loop-at
decreases-loop-at g l = length l.bytes - l.at
