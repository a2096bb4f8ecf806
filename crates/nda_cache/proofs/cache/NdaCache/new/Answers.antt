use Rattle.std.proofs.Common.{sym, subst, [], rules}
use Rattle.nda_cache.specs.Tried.{IsTried}
use Rattle.nda_cache.proofs.TriedFacts.{tried, IsStore-new, IsTried-new}
use Rattle.nda_cache.proofs.cache.NdaCache.new.Goals as goal

pub returns-clause-kept : goal.returns-clause-kept
returns-clause-kept c =
    let n = c.args.line_bytes in
    let sets = c.args.sets in
    let ways = c.args.ways in
    rw c.in_ok-lines.ensures.line_bytes
    (subst (λ ls. IsTried (tried n sets ways ls c.in_ok-stored.stored.items)) (sym c.in_ok-lines.ensures.empty)
    (subst (λ ss. IsTried (tried n sets ways [] ss)) (sym c.in_ok-stored.ensures.items) (IsTried-new n sets ways c.requires.size c.requires.some_sets c.requires.some_ways)))

pub invariant_of-result : goal.invariant_of-result
invariant_of-result c =
    rw (c.in_ok-lines.ensures.line_bytes, c.in_ok-lines.ensures.empty, c.in_ok-stored.ensures.items) (
      IsStore-new c.args.line_bytes c.args.sets c.args.ways c.in_ok-index.index c.requires.size c.requires.few_sets c.in_ok-index.ensures.kept c.in_ok-index.ensures.empty,
      search rules,
      search rules,
    )
