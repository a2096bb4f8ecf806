use Rattle.std.proofs.Common.{refl}
use Rattle.std.proofs.lemmas.Result.{on_ok_weaker, on_err_weaker}
use Rattle.streams.specs.Streaming.{added_to}
use Rattle.streams.proofs.FilesFacts.{either_led, gives_made, gives_puts_alone, gives_seen_alone}
use Rattle.streams.proofs.sink_files.SinkFilesStreams.put.Goals as goal

pub invariant_of-self : goal.invariant_of-self
invariant_of-self g c =
    let f = c.args.self.now in
    record { made = gives_made (g.H.Host.state f.host.now) f.sinks.now (added_to c.args.role c.args.bytes.now) _ c.put.result c.put.ensures.ok c.put.ensures.err }

pub returns-clause-ok : goal.returns-clause-ok
returns-clause-ok g c = on_ok_weaker c.put.result (λ p. gives_puts_alone c.args.role c.args.bytes.now p) c.put.ensures.ok

pub returns-clause-err : goal.returns-clause-err
returns-clause-err g c = on_err_weaker c.put.result (λ p. gives_seen_alone p) c.put.ensures.err

pub returns-clause-leads : goal.returns-clause-leads
returns-clause-leads g c =
    (refl, refl, λ r. either_led (added_to c.args.role c.args.bytes.now) _ r c.put.result c.put.ensures.ok c.put.ensures.err (c.put.ensures.cause r))
