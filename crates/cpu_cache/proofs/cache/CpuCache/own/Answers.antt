use Rattle.std.proofs.Common.{ap, ◌∙◌}
use Rattle.std.specs.Option.{option_map}
use Rattle.conda_base.specs.declared.Mesi.{Mesi}
use Rattle.conda_base.specs.declared.Mesi.TheVariants.{M}
use Rattle.set_assoc.specs.declared.placed.Placed.{Placed}
use Rattle.cpu_cache.specs.Slots.{contents_in}
use Rattle.cpu_cache.proofs.StoreFacts.{IsStore-changed}
use Rattle.cpu_cache.proofs.ViewFacts.{IsCache-seen, held_from_seen, owned_seen}
use Rattle.cpu_cache.proofs.cache.CpuCache.own.Goals as goal

pub held_at-kept-requires : goal.held_at-kept-requires
held_at-kept-requires c =
    held_from_seen c.self.inside.line_bytes c.self.inside.slots.items c.self.inside.lines c.args.l (rw (← c.self.view_is) at c.requires)

pub front_in-requires : goal.front_in-requires
front_in-requires c = ap (λ o. option_map (λ (kept : Placed Mesi). kept.place) o) c.held_at-kept.ensures.found

pub invariant_of-self : goal.invariant_of-self
invariant_of-self c = IsStore-changed _ c.self.inside.lines c.front_in.new.lines _ c.args.l _ c.self.invariant c.front_in.ensures.front c.front_in.ensures.kept

pub returns-clause-lines : goal.returns-clause-lines
returns-clause-lines c =
    let n = c.self.inside.line_bytes in
    let slots = c.self.inside.slots.items in
    let lines = c.self.inside.lines in
    rw (← c.self.view_is)
    (ap (λ ls. contents_in n slots ls) c.front_in.ensures.front ∙
    owned_seen n slots lines c.args.l c.held_at-kept.result M c.held_at-kept.ensures.found)

pub returns-clause-kept : goal.returns-clause-kept
returns-clause-kept c = IsCache-seen _ _ _ (invariant_of-self c)
