use Rattle.std.proofs.Common.{◌≡◌, ◌<◌, true, false, length, rules, arith}
use Rattle.std.specs.Option.{is_some}
use Rattle.set_assoc.specs.SetLists.{list_of}
use Rattle.nda_cache.proofs.TriedFacts.{room_found, room_free, index_unfound, free_from_room, not_true, not_both}
use Rattle.nda_cache.proofs.cache.NdaCache.has_room.Goals as goal

pub returns-then-is_some : goal.returns-then-is_some
returns-then-is_some c =
    let found : is_some c.args.found ≡ true = search rules in
    let yes : c.is_some.result ≡ true = search rules in
    (λ _. rw (← c.self.view_is) (room_found _ _ _ _ _ _ c.args.l c.args.found c.self.invariant.0 (rw (← c.self.view_is) at c.requires) found), λ _. yes)

pub returns-else-is_some : goal.returns-else-is_some
returns-else-is_some c =
    let off : is_some c.args.found ≡ false = search rules in
    let absent = index_unfound _ _ _ _ _ _ c.args.l c.args.found c.self.invariant.0 (rw (← c.self.view_is) at c.requires) off in (
      λ free. rw (← c.self.view_is)
          (room_free _ _ _ _ _ _ c.args.l c.self.invariant.0 (λ same. not_both c.is_full.result free (c.is_full.ensures.1 same))),
      λ room. not_true c.is_full.result
          (λ full.
          let few : length (list_of c.self.inside.index c.args.l) < c.self.inside.index.ways =
          free_from_room _ _ _ _ _ _ c.args.l c.self.invariant.0 absent (rw (← c.self.view_is) at room) in
          let same : length (list_of c.self.inside.index c.args.l) ≡ c.self.inside.index.ways = c.is_full.ensures.0 full in
          omega arith),
    )
