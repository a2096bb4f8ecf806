use Rattle.std.proofs.Common.{◌≡◌, ap, ◌∙◌, rules}
use Rattle.std.specs.Option.{option_map}
use Rattle.set_assoc.proofs.SeenFacts.{at_seen}
use Rattle.set_assoc.proofs.sets.Sets.at.Goals as goal

pub returns : goal.returns
returns g c =
    let mapped : c.map.result ≡ option_map (λ e. (e.0, e.1.value)) c.at.result = search rules in
    rw (← c.self.view_is) (mapped ∙ ap (λ o. option_map (λ e. (e.0, e.1.value)) o) c.at.ensures ∙ at_seen c.self.inside.lines c.args.set c.args.way)
