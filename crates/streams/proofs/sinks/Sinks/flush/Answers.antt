use Rattle.std.proofs.Common.{[]}
use Rattle.streams.specs.Streaming.{Gives}
use Rattle.streams.proofs.StreamFacts.{second_cause, first_gives, second_gives, gives_same, gives_more, given_nothing}
use Rattle.streams.proofs.sinks.Sinks.flush.Goals as goal

pub returns-in_err-flush_of-clause-gives : goal.returns-in_err-flush_of-clause-gives
returns-in_err-flush_of-clause-gives g c =
    gives_same (given_nothing c.args.self.now.first)
    (first_gives (g.H.Host.state c.args.host.now) (g.H.Host.state c.flush_of.new.host) c.args.self.now.first c.flush_of.new.sink c.args.self.now.second _ c.flush_of.ensures.adds c.requires)

pub returns-clause-gives : goal.returns-clause-gives
returns-clause-gives g c =
    let one : Gives (g.H.Host.state c.args.host.now) (g.H.Host.state c.flush_of.new.host) c.args.self.now (record { first = c.flush_of.new.sink; second = c.args.self.now.second }) (λ r. []) =
    gives_same (given_nothing c.args.self.now.first)
    (first_gives (g.H.Host.state c.args.host.now) (g.H.Host.state c.flush_of.new.host) c.args.self.now.first c.flush_of.new.sink c.args.self.now.second _ c.flush_of.ensures.adds c.requires) in
    gives_more one
    (gives_same (given_nothing c.args.self.now.second)
    (second_gives (g.H.Host.state c.flush_of.new.host) (g.H.Host.state c.flush_of-2.new.host) c.flush_of.new.sink c.args.self.now.second c.flush_of-2.new.sink _ c.flush_of-2.ensures.adds one.made))

pub returns-clause-cause : goal.returns-clause-cause
returns-clause-cause g c = λ from.
    let one = first_gives (g.H.Host.state c.args.host.now) (g.H.Host.state c.flush_of.new.host) c.args.self.now.first c.flush_of.new.sink c.args.self.now.second _ c.flush_of.ensures.adds c.requires in
    second_cause from c.args.self.now.first c.args.self.now.second (g.H.Host.state c.args.host.now) (g.H.Host.state c.flush_of.new.host) (g.H.Host.state c.flush_of-2.new.host)
    c.flush_of-2.result one.rest.later c.flush_of-2.ensures.fault c.flush_of-2.ensures.cause
