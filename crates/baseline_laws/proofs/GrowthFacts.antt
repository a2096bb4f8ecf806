-- Worlds, journals and outputs of more events begin with those of the events before.
use Rattle.std.proofs.Common.{◌≡◌, ℕ, zero, suc, List, [], ◌∷◌, ◌++◌, refl, sym, ap, ◌∙◌, append_assoc, append-nil}
use Rattle.conda_base.specs.declared.actor.Actor.{Actor}
use Rattle.schedule_log.specs.declared.entry.Entry.{Entry}
use Rattle.offload_calls.specs.State.{State}
use Rattle.run_report.specs.Runs.{flat_run_from}
use Rattle.chip_laws.proofs.GrowthFacts.{PutsMore, entry_puts, puts_both, puts_nothing}
use Rattle.baseline_laws.specs.Worlds.{World, Rules, took, happens, start_world, world_from, world, journal_from, journal, output_of}
use Rattle.baseline_laws.specs.Laws.{Grows, IsFlatRun}

pub starts_empty : (r : Rules) → (journal r [] ≡ []) × (output_of r [] ≡ [])
unfolding journal_from world_from
starts_empty r = (refl, refl)

pub world-append : (r : Rules) (w : World) (before after : List Actor)
    → world_from r w (before ++ after) ≡ world_from r (world_from r w before) after
unfolding world_from
world-append r w [] after = refl
world-append r w (a ∷ before) after = world-append r (happens r w a) before after

journal-append : (r : Rules) (w : World) (before after : List Actor)
    → journal_from r w (before ++ after) ≡ journal_from r w before ++ journal_from r (world_from r w before) after
unfolding journal_from world_from
journal-append r w [] after = refl
journal-append r w (a ∷ before) after = ap (λ t. r.next w a ∷ t) (journal-append r (happens r w a) before after)

one-world : (r : Rules) (w : World) (a : Actor) → world_from r w (a ∷ []) ≡ happens r w a
unfolding world_from
one-world r w a = refl

one-entry : (r : Rules) (w : World) (a : Actor) → journal_from r w (a ∷ []) ≡ r.next w a ∷ []
unfolding journal_from
one-entry r w a = refl

pub grows : (r : Rules) (events : List Actor) (a : Actor) → Grows r events a
grows r events a = record {
  world_after = world-append r (start_world r) events (a ∷ []) ∙ one-world r (world r events) a;
  journal_after = journal-append r (start_world r) events (a ∷ [])
      ∙ ap (λ t. journal r events ++ t) (one-entry r (world r events) a);
}

flat-from : (r : Rules) (w : World) (events : List Actor)
    → (world_from r w events).flat ≡ flat_run_from r.setup w.flat (journal_from r w events)
unfolding world_from journal_from happens
flat-from r w [] = refl
flat-from r w (a ∷ events) = flat-from r (happens r w a) events

pub flat_is_run : (r : Rules) (events : List Actor) → IsFlatRun r events
flat_is_run r events = flat-from r (start_world r) events

-- ---- output

world-puts : (r : Rules) (w : World) (events : List Actor) → PutsMore w.flat (world_from r w events).flat
unfolding world_from happens
world-puts r w [] = puts_nothing w.flat
world-puts r w (a ∷ events) =
    puts_both w.flat (happens r w a).flat _ (entry_puts r.setup w.flat (r.next w a))
    (world-puts r (happens r w a) events)

pub journal_more : (r : Rules) (before after : List Actor)
    → journal r (before ++ after) ≡ journal r before ++ journal_from r (world r before) after
journal_more r before after = journal-append r (start_world r) before after

pub output_more : (r : Rules) (before after : List Actor)
    → PutsMore (world r before).flat (world r (before ++ after)).flat
output_more r before after =
    let puts = world-puts r (world r before) after in
    record {
      bytes = puts.bytes;
      more = ap (λ (w : World). w.flat.output) (world-append r (start_world r) before after) ∙ puts.more;
    }
