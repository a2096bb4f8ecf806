-- Events of a fine-grained machine, by the world that it shows.
use Rattle.std.proofs.Common.{◌≡◌, ℕ, Bool, true, false, not, List, [], ◌++◌, refl, sym, ap, ◌∙◌, subst, append-nil}
use Rattle.std.proofs.lemmas.Bool.{cond_both}
use Rattle.conda_base.specs.declared.actor.Actor.{Actor}
use Rattle.conda_base.specs.declared.actor.Actor.TheVariants as Actor_is
use Rattle.schedule_log.specs.declared.entry.Entry.{Entry}
use Rattle.schedule_log.specs.declared.entry.Entry.TheVariants.{Step, Waits, Idle, Kern}
use Rattle.offload_calls.specs.State.{status_of}
use Rattle.offload_calls.specs.HartAct.{hart_runs, waits_next}
use Rattle.offload_calls.specs.CoreActs.{core_runs, core_acts}
use Rattle.run_report.specs.Runs.{executed}
use Rattle.chip_laws.specs.Design.{Design, setup_of}
use Rattle.chip_laws.specs.Uses.{after_use, use_notes}
use Rattle.baseline_laws.specs.Worlds.{World, took, happens}
use Rattle.baseline_laws.specs.Rules.{hart_entry, fine_shape, fine_next, fine_tags, fine_notes, fine_rules, holder_of}
use Rattle.hart_turns.specs.Flat.{next_use}
use Rattle.plain_chip.specs.Events.{entry_use}
use Rattle.plain_chip.specs.Views.{PlainView}
use Rattle.plain_chip.specs.Turns.{HartHappened, IsAfterUse, KernelHappened}
use Rattle.plain_chip.proofs.PlainFacts.{still-shows}
use Rattle.nda_fine.specs.Fine.{FineShows, FineTurns}

-- ---- the next entry

-- what the machine shows after it
happens-entry : (d : Design) (w : World) (a : Actor) (e : Entry) (new : PlainView) → e ≡ fine_next d w a
    → FineShows d new (took (fine_rules d) w e) → FineShows d new (happens (fine_rules d) w a)
unfolding happens
happens-entry d w a e new is s = subst (λ x. FineShows d new (took (fine_rules d) w x)) is s

happens-output : (d : Design) (w : World) (a : Actor) (e : Entry) (puts : List ℕ) → e ≡ fine_next d w a
    → (took (fine_rules d) w e).flat.output ≡ w.flat.output ++ puts
    → (happens (fine_rules d) w a).flat.output ≡ w.flat.output ++ puts
unfolding happens
happens-output d w a e puts is o = subst (λ x. (took (fine_rules d) w x).flat.output ≡ w.flat.output ++ puts) is o

-- ---- harts

fine-entry : (d : Design) (w : World) (h : ℕ)
    → hart_entry (setup_of d) w.flat h false ≡ fine_next d w (Actor_is.Hart h)
unfolding fine_next
fine-entry d w h = refl

-- of the three entries that a hart's event may have where it isn't held
three : (d : Design) (w : World) (h : ℕ) (P : Entry → Type 0) → P (Idle (Actor_is.Hart h)) → P (Waits h) → P (Step h)
    → P (hart_entry (setup_of d) w.flat h false)
three d w h P idle waits step =
    cond_both (not (hart_runs (w.flat.harts h).status)) _ _ P (λ _. idle)
    (λ _. cond_both (waits_next d.image.code (status_of d.config.cores w.flat.cores) (w.flat.harts h).regs) _ _ P
    (λ _. waits) (λ _. step))

-- what an entry of a hart leaves
abbrev HartLeaves : Design → World → ℕ → Entry → Type 0
HartLeaves d w h e = IsAfterUse (fine_shape d) w (took (fine_rules d) w e) (executed (setup_of d) w.flat e) h
    (entry_use (setup_of d) w.flat e)

hart-leaves : (d : Design) (w : World) (h : ℕ) → HartLeaves d w h (hart_entry (setup_of d) w.flat h false)
unfolding fine_tags fine_notes
hart-leaves d w h =
    three d w h (HartLeaves d w h)
    (record { flat_is = refl; tags_are = refl; notes_are = refl })
    (record { flat_is = refl; tags_are = refl; notes_are = refl })
    (record { flat_is = refl; tags_are = refl; notes_are = refl })

pub fine-hart : (d : Design) (w : World) (h : ℕ) (new : PlainView) (e : Entry) (puts : List ℕ)
    → HartHappened d (fine_shape d) w h false new e puts → FineTurns d w (Actor_is.Hart h) new e puts
fine-hart d w h new e puts t = record {
  entry_is = next;
  shows = happens-entry d w (Actor_is.Hart h) e new next
      (t.shows (took (fine_rules d) w e) (subst (HartLeaves d w h) (sym t.entry_is) (hart-leaves d w h)));
  output = happens-output d w (Actor_is.Hart h) e puts next t.output;
}
  where
    next : e ≡ fine_next d w (Actor_is.Hart h)
    next = t.entry_is ∙ fine-entry d w h

-- ---- cores

next-idle : (d : Design) (w : World) (j : ℕ) → core_runs (w.flat.cores j).status ≡ false
    → Idle (Actor_is.Core j) ≡ fine_next d w (Actor_is.Core j)
unfolding fine_next
next-idle d w j ended = rw ended refl

next-kern : (d : Design) (w : World) (j : ℕ) → core_runs (w.flat.cores j).status ≡ true
    → Kern j ≡ fine_next d w (Actor_is.Core j)
unfolding fine_next
next-kern d w j runs = rw runs refl

idle-shows : (d : Design) (w : World) (j : ℕ) (c : PlainView) → FineShows d c w
    → FineShows d c (took (fine_rules d) w (Idle (Actor_is.Core j)))
unfolding fine_tags fine_notes
idle-shows d w j c s =
    still-shows d (fine_shape d) w (took (fine_rules d) w (Idle (Actor_is.Core j))) c refl refl (append-nil w.notes) s

pub fine-idle : (d : Design) (w : World) (j : ℕ) (c : PlainView) (puts : List ℕ) → core_runs (w.flat.cores j).status ≡ false
    → puts ≡ [] → FineShows d c w → FineTurns d w (Actor_is.Core j) c (Idle (Actor_is.Core j)) puts
fine-idle d w j c puts ended none s = record {
  entry_is = next-idle d w j ended;
  shows = happens-entry d w (Actor_is.Core j) (Idle (Actor_is.Core j)) c (next-idle d w j ended) (idle-shows d w j c s);
  output = happens-output d w (Actor_is.Core j) (Idle (Actor_is.Core j)) puts (next-idle d w j ended)
      (sym (append-nil w.flat.output) ∙ ap (λ p. w.flat.output ++ p) (sym none));
}

kern-leaves : (d : Design) (w : World) (j holder : ℕ) → holder ≡ holder_of d j
    → IsAfterUse (fine_shape d) w (took (fine_rules d) w (Kern j)) (core_acts (setup_of d) w.flat j 1) holder
    (next_use (setup_of d) (w.flat.cores j).regs)
unfolding fine_tags fine_notes
kern-leaves d w j holder at = record {
  flat_is = refl;
  tags_are = ap (λ n. after_use (fine_shape d) w.tags n (next_use (setup_of d) (w.flat.cores j).regs)) (sym at);
  notes_are = ap (λ n. w.notes ++ use_notes (fine_shape d) w.tags n (next_use (setup_of d) (w.flat.cores j).regs))
      (sym at);
}

pub fine-kern : (d : Design) (w : World) (j holder : ℕ) (new : PlainView) (puts : List ℕ)
    → core_runs (w.flat.cores j).status ≡ true → holder ≡ holder_of d j
    → KernelHappened d (fine_shape d) w j holder new puts → FineTurns d w (Actor_is.Core j) new (Kern j) puts
fine-kern d w j holder new puts runs at t = record {
  entry_is = next-kern d w j runs;
  shows = happens-entry d w (Actor_is.Core j) (Kern j) new (next-kern d w j runs)
      (t.shows (took (fine_rules d) w (Kern j)) (kern-leaves d w j holder at));
  output = happens-output d w (Actor_is.Core j) (Kern j) puts (next-kern d w j runs) t.output;
}
