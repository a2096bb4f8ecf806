use Rattle.std.proofs.Common.{◌≡◌, ℕ, List, length}
use Rattle.std.specs.Prelude.{None}
use Rattle.streams.specs.Seen.{IsLeft, ShowsText}
use Rattle.streams.proofs.CopyFacts.{HasCopied}
use Rattle.base_examples.proofs.transfers.uses.copy_all.Given as goal

abbrev pub invariant-loop : goal.invariant-loop
invariant-loop g l = record {
  piece : length l.piece ≡ 64;
  copied : (left text : List ℕ) → IsLeft (g.S.Streams.seen l.fn.streams) left → ShowsText (g.S.Streams.seen l.fn.streams) l.role text → HasCopied (g.S.Streams.seen l.streams) l.role left text;
  leads : g.S.Streams.leads l.fn.streams l.streams None;
}
