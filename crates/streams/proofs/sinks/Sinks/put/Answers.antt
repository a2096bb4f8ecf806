use Rattle.std.proofs.Common.{◌≡◌, sym, ◌∙◌, true}
use Rattle.std.proofs.lemmas.Result.{on_ok_weaker, on_err_weaker}
use Rattle.streams.specs.Streaming.{is_sink_of}
use Rattle.streams.proofs.StreamFacts.{first_gives, second_gives, gives_same, given_role, given_nothing}
use Rattle.streams.proofs.sinks.Sinks.put.Goals as goal

pub returns-then-is_role-clause-ok : goal.returns-then-is_role-clause-ok
returns-then-is_role-clause-ok g c =
    let is : is_sink_of c.args.self.now.first c.args.role ≡ true = sym c.is_role.ensures ∙ c.if-is_role.true in
    on_ok_weaker c.put_into.result
    (λ p. gives_same (given_role c.args.self.now.first c.args.role c.args.bytes.now is)
    (first_gives (g.H.Host.state c.args.host.now) (g.H.Host.state c.put_into.new.host) c.args.self.now.first c.put_into.new.sink c.args.self.now.second c.args.bytes.now p c.requires.made))
    c.put_into.ensures.ok

pub returns-then-is_role-clause-err : goal.returns-then-is_role-clause-err
returns-then-is_role-clause-err g c =
    on_err_weaker c.put_into.result
    (λ p. gives_same (given_nothing c.args.self.now.first)
    (first_gives (g.H.Host.state c.args.host.now) (g.H.Host.state c.put_into.new.host) c.args.self.now.first c.put_into.new.sink c.args.self.now.second _ p c.requires.made))
    c.put_into.ensures.err

pub returns-then-is_role-2-clause-ok : goal.returns-then-is_role-2-clause-ok
returns-then-is_role-2-clause-ok g c =
    let r = c.put_into-then-is_role-2 in
    let is : is_sink_of c.args.self.now.second c.args.role ≡ true = sym c.is_role-else-is_role.ensures ∙ c.if-is_role-2.true in
    on_ok_weaker r.result
    (λ p. gives_same (given_role c.args.self.now.second c.args.role c.args.bytes.now is)
    (second_gives (g.H.Host.state c.args.host.now) (g.H.Host.state r.new.host) c.args.self.now.first c.args.self.now.second r.new.sink c.args.bytes.now p c.requires.made))
    r.ensures.ok

pub returns-then-is_role-2-clause-err : goal.returns-then-is_role-2-clause-err
returns-then-is_role-2-clause-err g c =
    let r = c.put_into-then-is_role-2 in
    on_err_weaker r.result
    (λ p. gives_same (given_nothing c.args.self.now.second)
    (second_gives (g.H.Host.state c.args.host.now) (g.H.Host.state r.new.host) c.args.self.now.first c.args.self.now.second r.new.sink _ p c.requires.made))
    r.ensures.err
