use Rattle.set_assoc.proofs.SetLemmas.{places_changed, AreSets-changed}
use Rattle.set_assoc.proofs.EntryLemmas.{AreEntries-take}
use Rattle.set_assoc.specs.Places.{placed}
use Rattle.set_assoc.specs.Entries.{lookup}
use Rattle.set_assoc.specs.SetLists.{list_of}
use Rattle.std.proofs.lemmas.List.{get_or_default}
use Rattle.std.proofs.Common.{◌≡◌, ◌%◌, ◌<◌, ◌∷◌, [], None, length, get_or, ap, ◌∙◌, refl, rules}
use Rattle.set_assoc.proofs.placed_sets.PlacedSets.add.Goals as goal

pub invariant_of-self : goal.invariant_of-self
invariant_of-self g c =
    let stands : c.args.line.0 % c.self.inside.sets ≡ c.set_of-set.result = search rules in
    let within : c.set_of-set.result < length c.self.inside.rows.items = search rules in
    let list : get_or c.self.inside.rows.items c.set_of-set.result [] ≡ list_of c.args.self.now c.args.line =
    ap (λ n. get_or c.self.inside.rows.items n []) c.set_of-set.ensures.place ∙ rw (← c.self.view_is) refl in
    let absent : lookup c.args.line c.index_mut.result.now ≡ None =
    ap (λ e. lookup c.args.line e) (c.index_mut.ensures.value ∙ get_or_default _ _ _ [] within ∙ list) ∙ c.requires in (
      AreSets-changed _ _ _ _ c.index_mut.result.now _ c.self.invariant.0 (search rules) c.index_mut.ensures.value
          (λ are. rw c.add.ensures.front (AreEntries-take _ _ _ ((c.args.line, placed c.args.value c.add.result) ∷ c.index_mut.result.now) (stands, absent, are))) (search rules),
      places_changed _ _ _ (search rules) c.self.invariant.1 c.add.ensures.places,
    )

pub returns-clause-kept : goal.returns-clause-kept
returns-clause-kept g c =
    let is = invariant_of-self g c in
    let are = is.0 in
    record { sets = rw are.count are; places = is.1 }
