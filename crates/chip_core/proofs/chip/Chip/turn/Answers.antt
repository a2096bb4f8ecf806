use Rattle.std.proofs.Common.{◌≡◌, ◌<◌, ap, sym, refl, subst, length, set, arith, true, ℕ}
use Rattle.std.proofs.lemmas.Option.{slice_get_read}
use Rattle.std.proofs.lemmas.Bool.{ltb-true}
use Rattle.conda_base.specs.declared.actor.Actor.TheVariants as Actor_is
use Rattle.chip_config.specs.Settings.{Settings, settings}
use Rattle.chip_core.specs.Seats.{turned}
use Rattle.chip_core.specs.Views.{ChipView, is_actor_of}
use Rattle.chip_core.specs.Shows.{Shows}
use Rattle.chip_core.proofs.PartFacts.{hart-turn, core-turns}
use Rattle.chip_core.proofs.chip.Chip.turn.Goals as goal

old : goal.After-self-1 → ChipView
old c = record { config = settings c.self.inside.config; code = c.self.inside.code; memory = c.self.inside.memory; harts = c.self.inside.harts.items; statuses = c.self.inside.cores.statuses.items; portions = c.self.inside.cores.portions.items; lock = c.self.inside.cores.lock; log = c.self.inside.log }

pub returns-in-Hart-clause-turns : goal.returns-in-Hart-clause-turns
unfolding old
returns-in-Hart-clause-turns c d w reached s =
    let shows : Shows d (old c) w = rw c.self.view_is s in
    let there : is_actor_of (old c) (Actor_is.Hart c.in-Hart.h) ≡ true = subst (λ (v : ChipView). is_actor_of v (Actor_is.Hart c.in-Hart.h) ≡ true) (sym c.self.view_is)
    (subst (λ a. is_actor_of c.args.self.now a ≡ true) c.in-Hart.is c.requires.has) in
    let inside : c.in-Hart.h < length c.self.inside.harts.items = below-harts (ltb-true _ _ there) c.self.invariant.harts in
    let low : c.in-Hart.h < d.config.harts = subst (λ n. c.in-Hart.h < n) (ap (λ (x : Settings). x.harts) shows.config) (ltb-true _ _ there) in
    let new : ChipView = record { config = settings c.self.inside.config; code = c.self.inside.code; memory = c.hart_event.new.memory; harts = set c.self.inside.harts.items c.in-Hart.h c.hart_event.new.hart; statuses = c.hart_event.new.cores.statuses.items; portions = c.hart_event.new.cores.portions.items; lock = c.hart_event.new.cores.lock; log = c.hart_event.new.log } in
    rw c.in-Hart.is
    (hart-turn d w c.in-Hart.h (old c) new c.index_mut.result.now c.hart_event.new.hart c.hart_event.new.cores c.hart_event.result c.hart_event.new.out.items inside shows
    (slice_get_read c.self.inside.harts.items (length c.self.inside.harts.items) c.in-Hart.h c.index_mut.result.now refl inside c.index_mut.ensures.value)
    refl refl refl refl refl refl refl
    (λ given. c.hart_event.ensures.turns d w reached (record { code_is = shows.code; memory = given.0; cores = shows.cores; lock = shows.lock }) given.1)
    low)
  where
    below-harts : {h n m : ℕ} → h < n → m ≡ n → h < m
    below-harts u e = omega arith

pub returns-in-Core-clause-turns : goal.returns-in-Core-clause-turns
returns-in-Core-clause-turns c d w reached s =
    let was : ChipView = record { config = settings c.self.inside.config; code = c.self.inside.code; memory = c.self.inside.memory; harts = c.self.inside.harts.items; statuses = c.self.inside.cores.statuses.items; portions = c.self.inside.cores.portions.items; lock = c.self.inside.cores.lock; log = c.self.inside.log } in
    let shows : Shows d was w = rw c.self.view_is s in
    let new : ChipView = record { config = settings c.self.inside.config; code = c.self.inside.code; memory = c.core_event.new.memory; harts = c.self.inside.harts.items; statuses = c.core_event.new.cores.statuses.items; portions = c.core_event.new.cores.portions.items; lock = c.core_event.new.cores.lock; log = c.core_event.new.log } in
    rw c.in-Core.is
    (core-turns d w c.in-Core.j was new c.core_event.new.cores (turned c.core_event.result c.core_event.new.out.items) shows refl refl refl refl refl
    (c.core_event.ensures.turns d w reached shows.config (record { code_is = shows.code; memory = shows.memory; cores = shows.cores; lock = shows.lock })))
