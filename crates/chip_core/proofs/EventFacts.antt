-- One event more in the list that a chip stands for.
use Rattle.std.proofs.Common.{◌≡◌, ℕ, List, [], ◌∷◌, ◌++◌, IsTrue, sym, ap, ◌∙◌, subst, refl}
use Rattle.std.specs.Prelude.{nat_lt}
use Rattle.std.specs.List.{AllByRecursion}
use Rattle.std.proofs.lemmas.Bool.{ltb-true}
use Rattle.conda_base.specs.declared.actor.Actor.{Actor}
use Rattle.conda_base.specs.declared.actor.Actor.TheVariants as Actor_is
use Rattle.chip_config.specs.Settings.{Settings}
use Rattle.chip_laws.specs.Design.{Design, IsActorOf}
use Rattle.chip_laws.specs.Rules.{World}
use Rattle.chip_laws.specs.Worlds.{world}
use Rattle.chip_laws.proofs.EntryLaws.{grows}
use Rattle.schedule_log.specs.declared.entry.Entry.{Entry}
use Rattle.chip_core.specs.Views.{ChipView, is_actor_of}
use Rattle.chip_core.specs.Shows.{Shows, Stands}
use Rattle.chip_core.specs.Turns.{IsReached, Turns}

pub reached : (d : Design) (c : ChipView) (events : List Actor) → Stands d c events → IsReached d (world d events)
reached d c events s = record { is_design = s.is_design; events = events; actors = s.actors; leads = refl }

actor-of : (d : Design) (c : ChipView) (a : Actor) → c.config ≡ d.config → IsTrue (is_actor_of c a) → IsActorOf d a
actor-of d c (Actor_is.Hart h) same there = ltb-true h d.config.harts (subst (λ (x : Settings). IsTrue (nat_lt h x.harts)) same there)
actor-of d c (Actor_is.Core j) same there = ltb-true j d.config.cores (subst (λ (x : Settings). IsTrue (nat_lt j x.cores)) same there)

all-push : (P : Actor → Type 0) (xs : List Actor) (a : Actor) → AllByRecursion P xs → P a → AllByRecursion P (xs ++ a ∷ [])
all-push P [] a h p = (p, tt)
all-push P (x ∷ xs) a h p = (h.0, all-push P xs a h.1 p)

pub stands-more : (d : Design) (c new : ChipView) (events : List Actor) (a : Actor) (entry : Entry) (puts : List ℕ) → IsTrue (is_actor_of c a) → Stands d c events
    → Turns d (world d events) a new entry puts → Stands d new (events ++ a ∷ [])
stands-more d c new events a entry puts there s t = record {
  is_design = s.is_design;
  actors = all-push (IsActorOf d) events a s.actors (actor-of d c a s.shows.config there);
  shows = subst (Shows d new) (sym (grows d events a).world_after) t.shows;
}

pub output-more : (d : Design) (new : ChipView) (events : List Actor) (a : Actor) (entry : Entry) (puts : List ℕ)
    → Turns d (world d events) a new entry puts → (world d (events ++ a ∷ [])).flat.output ≡ (world d events).flat.output ++ puts
output-more d new events a entry puts t = ap (λ (w : World). w.flat.output) (grows d events a).world_after ∙ t.output
