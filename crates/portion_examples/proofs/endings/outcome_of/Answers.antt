use Rattle.std.proofs.Common.{[], sym, subst, rules}
use Rattle.std.specs.Prelude.{All}
use Rattle.line_memory.specs.Backing.{BackingView, IsInRange, bare}
use Rattle.portion_ctl.specs.States.{FitsMemory}
use Rattle.portion_ctl.specs.Views.{EndedView}
use Rattle.conflict_resolve.specs.InRange.{IsPortion}
use Rattle.conflict_resolve.proofs.RangeFacts.{stores_in_range}
use Rattle.portion_examples.proofs.endings.outcome_of.Goals as goal

pub ended_within-requires-clause-stands : goal.ended_within-requires-clause-stands
ended_within-requires-clause-stands c = (
  _,
  c.foreign.ensures.hears.stands c.in_ok-code.code _ (c.open-open.ensures.stands c.in_ok-code.code (λ l. [])),
)

pub commit-kept-requires-clause-in_range : goal.commit-kept-requires-clause-in_range
commit-kept-requires-clause-in_range c =
    let b : BackingView = bare c.open-open.new.mem in
    let p : IsPortion c.in_ok-code.code c.in-Some.ended.try = c.in-Some.ensures.stands in
    let fits : FitsMemory c.in_ok-code.code b c.in-Some.ended.try.limits.line_bytes = record { base = search rules; bytes = search rules; lines = search rules } in
    let all = stores_in_range c.in_ok-code.code b c.in-Some.ended.try p.0 c.base-code.ensures.code c.line_bytes-lines.ensures.kept fits p.1 in
    subst (λ (x : EndedView). All (IsInRange b) x.try.cache.stored) (sym c.in-Clear.ensures.rules.1) all
