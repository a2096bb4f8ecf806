use Rattle.std.proofs.Common.{◌≡◌, ap, ◌∙◌, rules}
use Rattle.std.specs.Option.{option_map}
use Rattle.set_assoc.specs.Places.{placed}
use Rattle.set_assoc.specs.Entries.{lookup}
use Rattle.set_assoc.specs.SetLists.{list_of}
use Rattle.set_assoc.specs.Seen.{without_places}
use Rattle.set_assoc.proofs.SeenFacts.{absent_before, sets_seen, added_seen, last_seen}
use Rattle.set_assoc.proofs.sets.Sets.add.Goals as goal

pub add-requires : goal.add-requires
add-requires g c = absent_before c.self.inside.lines c.args.line (ap (λ s. lookup c.args.line (list_of s c.args.line)) c.self.view_is ∙ c.requires)

pub returns-clause-last : goal.returns-clause-last
returns-clause-last g c =
    let mapped : c.map.result ≡ option_map (λ e. (e.0, e.1.value)) c.last-last.result = search rules in
    rw (← c.self.view_is) (mapped ∙ ap (λ o. option_map (λ e. (e.0, e.1.value)) o) c.last-last.ensures.last ∙ last_seen c.self.inside.lines c.args.line c.args.value c.last-last.ensures.kept.sets.some_ways)

pub returns-clause-front : goal.returns-clause-front
returns-clause-front g c = rw (← c.self.view_is) (ap (λ s. without_places s) c.add.ensures.front ∙ added_seen c.self.inside.lines c.args.line (placed c.args.value c.add.result))

pub returns-clause-kept : goal.returns-clause-kept
returns-clause-kept g c = sets_seen _ c.add.ensures.kept.sets
