-- Journal and output of events begin with those of the events before.
use Rattle.std.proofs.Common.{◌≡◌, ℕ, zero, suc, List, [], ◌∷◌, ◌++◌, refl, sym, ap, ◌∙◌, append_assoc, append-nil}
use Rattle.std.proofs.lemmas.Bool.{cond_both}
use Rattle.conda_base.specs.declared.actor.Actor.{Actor}
use Rattle.schedule_log.specs.declared.entry.Entry.{Entry}
use Rattle.schedule_log.specs.declared.entry.Entry.TheVariants as Entry_is
use Rattle.offload_calls.specs.State.{Setup, State, status_of}
use Rattle.offload_calls.specs.HartAct.{steps, act_effect, hart_does, hart_step}
use Rattle.offload_calls.specs.CoreActs.{core_runs, core_effect, core_does, core_act, core_acts}
use Rattle.run_report.specs.Runs.{executed}
use Rattle.chip_laws.specs.Design.{Design, setup_of}
use Rattle.chip_laws.specs.Rules.{World, next}
use Rattle.chip_laws.specs.Worlds.{happens, world_from, start_world, world, journal_from, journal, output_of}

pub starts_empty : (d : Design) → (journal d [] ≡ []) × (output_of d [] ≡ [])
unfolding journal_from world_from
starts_empty d = (refl, refl)

-- ---- the journal

journal-append : (d : Design) (w : World) (before after : List Actor)
    → journal_from d w (before ++ after) ≡ journal_from d w before ++ journal_from d (world_from d w before) after
unfolding journal_from world_from
journal-append d w [] after = refl
journal-append d w (a ∷ before) after = ap (λ t. next d w a ∷ t) (journal-append d (happens d w a) before after)

-- ---- the output

-- the second state has put some bytes more
pub record PutsMore (f g : State) : Type 0 where
  pub bytes : List ℕ
  pub more : g.output ≡ f.output ++ bytes

pub puts_nothing : (f : State) → PutsMore f f
puts_nothing f = record { bytes = []; more = sym (append-nil f.output) }

pub puts_both : (f g h : State) → PutsMore f g → PutsMore g h → PutsMore f h
puts_both f g h one rest = record {
  bytes = one.bytes ++ rest.bytes;
  more = rest.more ∙ ap (λ o. o ++ rest.bytes) one.more ∙ append_assoc f.output one.bytes rest.bytes;
}

hart_puts : (s : Setup) (f : State) (h : ℕ) → PutsMore f (hart_step s f h)
unfolding hart_step
hart_puts s f h =
    let e = act_effect s.code (status_of s.cores f.cores) f.memory (f.harts h).regs in
    cond_both (steps s.code (status_of s.cores f.cores) (f.harts h)) (hart_does s f h e) f (PutsMore f)
    (λ _. record { bytes = e.puts; more = refl }) (λ _. puts_nothing f)

act_puts : (s : Setup) (f : State) (j : ℕ) → PutsMore f (core_act s f j)
unfolding core_act
act_puts s f j =
    let e = core_effect s f.memory (f.cores j).regs in
    cond_both (core_runs (f.cores j).status) (core_does s f j e) f (PutsMore f)
    (λ _. record { bytes = e.puts; more = refl }) (λ _. puts_nothing f)

acts_put : (s : Setup) (f : State) (j n : ℕ) → PutsMore f (core_acts s f j n)
unfolding core_acts
acts_put s f j zero = puts_nothing f
acts_put s f j (suc n) =
    puts_both f (core_acts s f j n) _ (acts_put s f j n) (act_puts s (core_acts s f j n) j)

pub entry_puts : (s : Setup) (f : State) (e : Entry) → PutsMore f (executed s f e)
entry_puts s f (Entry_is.Step h) = hart_puts s f h
entry_puts s f (Entry_is.Commit j n cause) = acts_put s f j n
entry_puts s f (Entry_is.Kern j) = acts_put s f j 1
entry_puts s f other = puts_nothing f

world-puts : (d : Design) (w : World) (events : List Actor) → PutsMore w.flat (world_from d w events).flat
unfolding world_from happens
world-puts d w [] = puts_nothing w.flat
world-puts d w (a ∷ events) =
    puts_both w.flat (happens d w a).flat _ (entry_puts (setup_of d) w.flat (next d w a)) (world-puts d (happens d w a) events)

world-append : (d : Design) (w : World) (before after : List Actor)
    → world_from d w (before ++ after) ≡ world_from d (world_from d w before) after
unfolding world_from
world-append d w [] after = refl
world-append d w (a ∷ before) after = world-append d (happens d w a) before after

pub journal_more : (d : Design) (before after : List Actor)
    → journal d (before ++ after) ≡ journal d before ++ journal_from d (world d before) after
journal_more d before after = journal-append d (start_world d) before after

pub output_more : (d : Design) (before after : List Actor) → PutsMore (world d before).flat (world d (before ++ after)).flat
output_more d before after =
    let puts = world-puts d (world d before) after in
    record {
      bytes = puts.bytes;
      more = ap (λ (w : World). w.flat.output) (world-append d (start_world d) before after) ∙ puts.more;
    }
