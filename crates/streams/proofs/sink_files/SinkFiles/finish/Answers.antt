use Rattle.streams.specs.Seen.{fault_in}
use Rattle.streams.proofs.FilesFacts.{gives_seen_alone, gives_led}
use Rattle.streams.proofs.sink_files.SinkFiles.finish.Goals as goal

pub returns-clause-seen : goal.returns-clause-seen
returns-clause-seen g c = gives_seen_alone c.flush.ensures.gives

pub returns-clause-led : goal.returns-clause-led
returns-clause-led g c = λ r. gives_led r (fault_in c.flush.result) c.flush.ensures.gives (c.flush.ensures.cause r)
