use Rattle.std.proofs.Common.{IsTrue, refl, sym, subst}
use Rattle.streams.proofs.StreamFacts.{streaming_of_reading}
use Rattle.streams.proofs.FilesFacts.{reads_open, failed_seen, reads_takes, still_opened}
use Rattle.streams.proofs.files.FilesStreams.read.Goals as goal

pub invariant_of-self : goal.invariant_of-self
invariant_of-self g c =
    let f = c.args.self.now in
    record { «open» = reads_open f.source f.sinks.now c.read.ensures.rest (still_opened (g.H.Host.state f.host.now) (g.H.Host.state c.read.new.self) c.args.buf.now c.read.new.buf f.source c.read.result c.read.ensures.ok c.read.ensures.err f.«open».opened) f.«open» }

pub returns-in-Ok-clause-ok : goal.returns-in-Ok-clause-ok
returns-in-Ok-clause-ok g c =
    let f = c.args.self.now in
    reads_takes f.source f.sinks.now c.in-Ok.n c.in-Ok.ensures.rest f.«open».other c.in-Ok.ensures.ok

pub returns-in-Err-clause-err : goal.returns-in-Err-clause-err
returns-in-Err-clause-err g c =
    let f = c.args.self.now in
    failed_seen f.source f.sinks.now c.in-Err.ensures.rest f.«open».other c.in-Err.ensures.err

pub returns-in-Ok-clause-leads : goal.returns-in-Ok-clause-leads
returns-in-Ok-clause-leads g c =
    let f = c.args.self.now in
    (refl, refl, refl, record { same = refl; streaming = streaming_of_reading f.«open».other c.in-Ok.ensures.rest (λ _. c.in-Ok.ensures.ok.opened); cause = tt })

pub returns-in-Err-clause-leads : goal.returns-in-Err-clause-leads
returns-in-Err-clause-leads g c =
    let f = c.args.self.now in
    (refl, refl, refl, record { same = refl; streaming = streaming_of_reading f.«open».other c.in-Err.ensures.rest (λ h. subst (λ r. IsTrue r.opened) (sym c.in-Err.ensures.err) h); cause = (refl, c.in-Err.ensures.cause) })
