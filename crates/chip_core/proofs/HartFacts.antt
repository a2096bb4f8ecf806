-- One event of a hart in the world, by what stands against it.
use Rattle.std.proofs.Common.{◌≡◌, ◌≢◌, ◌<◌, length, set, ltb, ◌⊎◌, inl, inr, ℕ, ◌&&◌, Bool, true, false, not, List, [], ◌++◌, eqb, refl, sym, ap, ◌∙◌, subst, append-nil, Option, Some, None, Result, Ok, Err, eq-eqb}
use Rattle.std.proofs.lemmas.Bool.{false≢true, cond-true, cond-false, cond_both, ne_eqb, cases_eq, lt-ltb}
use Rattle.std.specs.Prelude.{slice_get}
use Rattle.conda_base.specs.declared.Line.{Line}
use Rattle.conda_base.specs.declared.actor.Actor.TheVariants as Actor_is
use Rattle.schedule_log.specs.declared.entry.Entry.{Entry}
use Rattle.schedule_log.specs.declared.entry.Entry.TheVariants.{Step, Waits, Idle, Held, Open, Lock, Spec, Commit, Back, Flush, Kern}
use Rattle.rv32_hart.specs.declared.regs.Regs.{Regs}
use Rattle.rv32_hart.specs.declared.regs.Trap.{Trap}
use Rattle.rv32_hart.specs.declared.act.Planned.{Planned}
use Rattle.rv32_hart.specs.Code.{CodeView}
use Rattle.rv32_hart.specs.Act.{plan_of, after, is_call_access}
use Rattle.line_memory.specs.Backing.{BackingView}
use Rattle.line_memory.specs.Tags.{Tags}
use Rattle.line_memory.specs.Notes.{all_noted}
use Rattle.traffic_trace.specs.Notes.{Trace}
use Rattle.coherent_mem.specs.Steps.{IsCoherent}
use Rattle.offload_calls.specs.declared.status.Hart.{Hart}
use Rattle.offload_calls.specs.declared.status.HartStatus.{HartStatus}
use Rattle.offload_calls.specs.declared.status.CoreStatus.{CoreStatus}
use Rattle.offload_calls.specs.declared.status.CoreStatus.TheVariants as Core_is
use Rattle.offload_calls.specs.declared.status.HartStatus.TheVariants as Hart_is
use Rattle.offload_calls.specs.Calls.{waits, is_idle}
use Rattle.offload_calls.specs.Stores.{overlay, byte_at}
use Rattle.offload_calls.specs.Effects.{Span, span_of_access, stores_of_access, span_value}
use Rattle.offload_calls.specs.State.{State, status_of, updated}
use Rattle.offload_calls.specs.HartAct.{hart_runs, steps, waits_next, plan_effect, hart_step}
use Rattle.offload_calls.specs.CoreActs.{core_runs}
use Rattle.fallback_lock.specs.Locks.{Counts, IsAnothers}
use Rattle.conda_base.specs.LineLists.{line_list}
use Rattle.offload_calls.specs.LineUses.{LineUse, use_of_access, stored_line, line_use}
use Rattle.chip_laws.specs.Design.{Design, setup_of}
use Rattle.chip_laws.specs.Notes.{hart_use, notes_of}
use Rattle.chip_laws.specs.Rules.{World, Seat, Opening, is_locked, is_locked_below, next}
use Rattle.chip_laws.specs.Worlds.{flat_after, changed, told, seat_after, took, happens}
use Rattle.chip_laws.proofs.LockFacts.{none_locked, not_locked}
use Rattle.chip_core.specs.declared.stage.Stage.{Stage}
use Rattle.chip_core.specs.declared.cores.Cores.{Cores}
use Rattle.chip_core.specs.Steps.{UsesLine, used_notes, told_portion, all_told}
use Rattle.std.proofs.lemmas.List.{length-map, length-set}
use Rattle.chip_core.specs.Shows.{HasShape, ShowsHarts, ShowsCores, ShowsLock}
use Rattle.chip_core.specs.Fits.{is_locked_core}
use Rattle.chip_core.specs.Turns.{ShowsParts, HartTurns, HartSteps}
use Rattle.chip_core.proofs.ListFacts.{slice_get-set_same, slice_get-set_other}
use Rattle.chip_core.proofs.CoreFacts.{none-told, told_seat, all-told-hold}
use Rattle.chip_core.proofs.MemoryFacts.{memory-took, memory-stays}
use Rattle.line_memory.specs.Tags.{Shape}
use Rattle.chip_laws.specs.Uses.{after_use, use_notes}
use Rattle.chip_laws.specs.Design.{hart_shape}
use Rattle.line_memory.specs.Backing.{shape_of}
use Rattle.coherent_mem.specs.Steps.{StepsTo}

-- ---- the next entry

pub next-idle : (d : Design) (w : World) (h : ℕ) → hart_runs (w.flat.harts h).status ≡ false → next d w (Actor_is.Hart h) ≡ Idle (Actor_is.Hart h)
unfolding next
next-idle d w h ended = rw ended refl

pub next-held : (d : Design) (w : World) (h : ℕ) → hart_runs (w.flat.harts h).status ≡ true → is_locked_below w (λ k. false) d.config.cores ≡ true
    → next d w (Actor_is.Hart h) ≡ Held (Actor_is.Hart h)
unfolding next
next-held d w h runs locked = rw (runs, locked) refl

pub next-waits : (d : Design) (w : World) (h : ℕ) → hart_runs (w.flat.harts h).status ≡ true → is_locked_below w (λ k. false) d.config.cores ≡ false
    → waits_next d.image.code (status_of d.config.cores w.flat.cores) (w.flat.harts h).regs ≡ true → next d w (Actor_is.Hart h) ≡ Waits h
unfolding next
next-waits d w h runs free waiting = rw (runs, free, waiting) refl

pub next-step : (d : Design) (w : World) (h : ℕ) → hart_runs (w.flat.harts h).status ≡ true → is_locked_below w (λ k. false) d.config.cores ≡ false
    → waits_next d.image.code (status_of d.config.cores w.flat.cores) (w.flat.harts h).regs ≡ false → next d w (Actor_is.Hart h) ≡ Step h
unfolding next
next-step d w h runs free waiting = rw (runs, free, waiting) refl

-- ---- the lock

locked-some : (w : World) (skip : ℕ → Bool) (n k : ℕ) → k < n → skip k ≡ false → is_locked (w.seats k).opening ≡ true → is_locked_below w skip n ≡ true
locked-some w skip n k u s e = go (is_locked_below w skip n) refl
  where
    go : (b : Bool) → is_locked_below w skip n ≡ b → b ≡ true
    go true f = refl
    go false f = absurd (false≢true (sym (not_locked w skip n k f u s) ∙ e))

pub nobody-locked : (d : Design) (lock : Counts) (w : World) (skip : ℕ → Bool) → ShowsLock d lock w → lock.locked ≡ None
    → is_locked_below w skip d.config.cores ≡ false
nobody-locked d lock w skip shows none =
    none_locked w skip d.config.cores (λ k u s. sym (shows.locked k) ∙ ap (λ x. is_locked_core x k) none)

pub somebody-locked : (d : Design) (lock : Counts) (w : World) (skip : ℕ → Bool) (k : ℕ) → ShowsLock d lock w → lock.locked ≡ Some k → skip k ≡ false
    → is_locked_below w skip d.config.cores ≡ true
somebody-locked d lock w skip k shows some s =
    locked-some w skip d.config.cores k (shows.within k some) s
    (sym (shows.locked k) ∙ ap (λ x. is_locked_core x k) some ∙ eq-eqb k k refl)

-- ---- entries that change nothing

abbrev pub IsStill : Entry → Type 0
IsStill (Idle a) = Unit {0}
IsStill (Held a) = Unit {0}
IsStill (Waits h) = Unit {0}
IsStill other = ⊥

pub quiet-parts : (d : Design) (w : World) (code : CodeView) (b : BackingView) (log : Trace) (cores : Cores) (e : Entry) → IsStill e
    → IsCoherent b → ShowsParts d code b log cores w → ShowsParts d code b log cores (took d w e)
unfolding notes_of
quiet-parts d w code b log cores (Idle a) still is s = record {
  code_is = s.code_is;
  memory = memory-stays d w (Idle a) b log is.backing s.memory (record { tags = refl; flat = refl; notes = refl });
  cores = record { statuses = s.cores.statuses; many = s.cores.many; portions = s.cores.portions };
  lock = record { retries = s.lock.retries; many = s.lock.many; backs = s.lock.backs; locked = s.lock.locked; within = s.lock.within };
}
quiet-parts d w code b log cores (Held a) still is s = record {
  code_is = s.code_is;
  memory = memory-stays d w (Held a) b log is.backing s.memory (record { tags = refl; flat = refl; notes = refl });
  cores = record { statuses = s.cores.statuses; many = s.cores.many; portions = s.cores.portions };
  lock = record { retries = s.lock.retries; many = s.lock.many; backs = s.lock.backs; locked = s.lock.locked; within = s.lock.within };
}
quiet-parts d w code b log cores (Waits h) still is s = record {
  code_is = s.code_is;
  memory = memory-stays d w (Waits h) b log is.backing s.memory (record { tags = refl; flat = refl; notes = refl });
  cores = record { statuses = s.cores.statuses; many = s.cores.many; portions = s.cores.portions };
  lock = record { retries = s.lock.retries; many = s.lock.many; backs = s.lock.backs; locked = s.lock.locked; within = s.lock.within };
}
quiet-parts d w code b log cores (Step k) still is s = absurd still
quiet-parts d w code b log cores (Open k) still is s = absurd still
quiet-parts d w code b log cores (Lock k) still is s = absurd still
quiet-parts d w code b log cores (Spec k) still is s = absurd still
quiet-parts d w code b log cores (Commit k n x) still is s = absurd still
quiet-parts d w code b log cores (Back k n x) still is s = absurd still
quiet-parts d w code b log cores (Flush k) still is s = absurd still
quiet-parts d w code b log cores (Kern k) still is s = absurd still

-- a hart's event with such an entry
pub quiet-turns : (d : Design) (w : World) (h : ℕ) (code : CodeView) (hart : Hart) (b : BackingView) (log : Trace) (cores : Cores) (e : Entry) (puts : List ℕ) → IsStill e
    → IsCoherent b → ShowsParts d code b log cores w → hart ≡ w.flat.harts h → next d w (Actor_is.Hart h) ≡ e → puts ≡ []
    → HartTurns d w h code hart b log cores e puts
unfolding happens
quiet-turns d w h code hart b log cores e puts still is s at next_is none = record {
  entry_is = sym next_is;
  hart_is = rw next_is (at ∙ harts e still);
  parts = rw next_is (quiet-parts d w code b log cores e still is s);
  output = rw (next_is, none) (output e still);
}
  where
    harts : (e : Entry) → IsStill e → w.flat.harts h ≡ (took d w e).flat.harts h
    harts (Idle a) still = refl
    harts (Held a) still = refl
    harts (Waits k) still = refl
    harts (Step k) still = absurd still
    harts (Open k) still = absurd still
    harts (Lock k) still = absurd still
    harts (Spec k) still = absurd still
    harts (Commit k n x) still = absurd still
    harts (Back k n x) still = absurd still
    harts (Flush k) still = absurd still
    harts (Kern k) still = absurd still

    output : (e : Entry) → IsStill e → (took d w e).flat.output ≡ w.flat.output ++ []
    output (Idle a) still = sym (append-nil w.flat.output)
    output (Held a) still = sym (append-nil w.flat.output)
    output (Waits k) still = sym (append-nil w.flat.output)
    output (Step k) still = absurd still
    output (Open k) still = absurd still
    output (Lock k) still = absurd still
    output (Spec k) still = absurd still
    output (Commit k n x) still = absurd still
    output (Back k n x) still = absurd still
    output (Flush k) still = absurd still
    output (Kern k) still = absurd still

-- a hart's event that is a step
pub step-turns : (d : Design) (w : World) (h : ℕ) (code : CodeView) (hart : Hart) (b : BackingView) (log : Trace) (cores : Cores) (out puts : List ℕ)
    → next d w (Actor_is.Hart h) ≡ Step h → out ≡ puts → HartSteps d w h code hart b log cores puts
    → HartTurns d w h code hart b log cores (Step h) out
unfolding happens
step-turns d w h code hart b log cores out puts next_is puts_are s = record {
  entry_is = sym next_is;
  hart_is = rw next_is s.hart_is;
  parts = rw next_is s.parts;
  output = rw (next_is, puts_are) s.output;
}

-- ---- steps that leave the cores

pub not-launched : (s : CoreStatus) → (is_idle (Some s) && core_runs s) ≡ false
not-launched Core_is.Idle = refl
not-launched Core_is.Run = refl
not-launched (Core_is.Done v) = refl
not-launched (Core_is.Trapped t) = refl

pub told-locked : (lines : List Line) (x : Option Opening) → is_locked (told lines x) ≡ is_locked x
told-locked lines None = refl
told-locked lines (Some o) = refl

pub seats-step : (d : Design) (w : World) (h : ℕ) (k : ℕ) → (flat_after d w.flat (Step h)).cores ≡ w.flat.cores
    → seat_after d w (flat_after d w.flat (Step h)) (Step h) k ≡ told_seat (changed d w (Step h)) (w.seats k)
seats-step d w h k same = rw (same, not-launched (w.flat.cores k).status) refl

pub cores-step : (d : Design) (w : World) (h : ℕ) (stands : List CoreStatus) (held : List Stage) (lines : List Line)
    → (flat_after d w.flat (Step h)).cores ≡ w.flat.cores → lines ≡ changed d w (Step h)
    → ShowsCores d stands held w → ShowsCores d stands (all_told lines held) (took d w (Step h))
cores-step d w h stands held lines same told_are s = record {
  statuses = λ k. rw same (s.statuses k);
  many = length-map held (told_portion lines) ∙ s.many;
  portions = λ j p at.
      rw (seats-step d w h j same, same, ← told_are)
      (all-told-hold d (λ i. (w.flat.cores i).regs) w.seats lines held s.portions j p at);
}

pub lock-step : (d : Design) (w : World) (h : ℕ) (lock : Counts) → (flat_after d w.flat (Step h)).cores ≡ w.flat.cores
    → ShowsLock d lock w → ShowsLock d lock (took d w (Step h))
lock-step d w h lock same s = record {
  retries = s.retries;
  many = s.many;
  backs = λ j u. s.backs j u ∙ ap (λ (x : Seat). Some x.backs) (sym (seats-step d w h j same));
  locked = λ j. s.locked j ∙ sym (told-locked (changed d w (Step h)) (w.seats j).opening)
      ∙ ap (λ (x : Seat). is_locked x.opening) (sym (seats-step d w h j same));
  within = s.within;
}

-- ---- an act that is no call

flat-plain : (d : Design) (f : State) (h : ℕ) (p : Planned) → hart_runs (f.harts h).status ≡ true → plan_of d.image.code (f.harts h).regs ≡ Ok p
    → is_call_access p.access ≡ false
    → hart_step (setup_of d) f h
    ≡ (let value = span_value (byte_at d.image.code.base f.memory) (span_of_access p.access) in
    record {
      memory = overlay d.image.code.base f.memory (stores_of_access value p.access);
      harts = updated f.harts h (record { regs = after (f.harts h).regs p.instr value; status = Hart_is.Run });
      cores = f.cores;
      output = f.output ++ [];
    })
unfolding hart_step waits_next plan_effect
flat-plain d f h p runs plan plain = rw (runs, plan, plain) refl

flat-trap : (d : Design) (f : State) (h : ℕ) (trap : Trap) → hart_runs (f.harts h).status ≡ true → plan_of d.image.code (f.harts h).regs ≡ Err trap
    → hart_step (setup_of d) f h
    ≡ record {
      memory = f.memory;
      harts = updated f.harts h (record { regs = (f.harts h).regs; status = Hart_is.Trapped trap });
      cores = f.cores;
      output = f.output ++ [];
    }
unfolding hart_step waits_next plan_effect
flat-trap d f h trap runs plan = rw (runs, plan) refl

use-at : (d : Design) (w : World) (h : ℕ) (p : Planned) → plan_of d.image.code (w.flat.harts h).regs ≡ Ok p
    → hart_use d w h ≡ use_of_access d.config.line_bytes p.access
unfolding line_use
use-at d w h p plan = rw plan refl

no-use : (d : Design) (w : World) (h : ℕ) (trap : Trap) → plan_of d.image.code (w.flat.harts h).regs ≡ Err trap → hart_use d w h ≡ None
unfolding line_use
no-use d w h trap plan = rw plan refl

pub waits-plain : (code : CodeView) (cores : ℕ → Option CoreStatus) (r : Regs) (p : Planned) → plan_of code r ≡ Ok p → is_call_access p.access ≡ false
    → waits_next code cores r ≡ false
unfolding waits_next
waits-plain code cores r p plan plain = rw (plan, plain) refl

cast-used : {b new : BackingView} {t u : Tags} {v m : List ℕ} → t ≡ u → v ≡ m → StepsTo t v b new → StepsTo u m b new
cast-used {b} {new} {t} {u} {v} {m} e f is = subst (λ x. StepsTo u x b new) f (subst (λ x. StepsTo x v b new) e is)

same-use : {c k : Shape} {t u : Tags} (h : ℕ) {x y : Option LineUse} → c ≡ k → t ≡ u → x ≡ y → after_use c t h x ≡ after_use k u h y
same-use h e f g = cc

same-notes : {c k : Shape} {t u : Tags} (h : ℕ) {x y : Option LineUse} → c ≡ k → t ≡ u → x ≡ y → use_notes c t h x ≡ use_notes k u h y
same-notes h e f g = cc

same-loaded : {b c : ℕ} {m n : List ℕ} (x : Option Span) → b ≡ c → m ≡ n → span_value (byte_at b m) x ≡ span_value (byte_at c n) x
same-loaded x e f = cc

same-overlay : {b c : ℕ} {m n : List ℕ} {x y : List (ℕ × ℕ)} → b ≡ c → m ≡ n → x ≡ y → overlay b m x ≡ overlay c n y
same-overlay e f g = cc

-- the parts after an act that is no call
pub plain-steps : (d : Design) (w : World) (h : ℕ) (code : CodeView) (hart : Hart) (b new : BackingView) (log later : Trace) (cores now : Cores) (p : Planned) (value : ℕ)
    → ShowsParts d code b log cores w → hart_runs (w.flat.harts h).status ≡ true → plan_of d.image.code (w.flat.harts h).regs ≡ Ok p
    → is_call_access p.access ≡ false → value ≡ span_value (byte_at b.base b.view) (span_of_access p.access)
    → UsesLine h (use_of_access b.line_bytes p.access) (stores_of_access value p.access) b new
    → later ≡ all_noted log (used_notes b h (use_of_access b.line_bytes p.access))
    → now.portions.items ≡ all_told (line_list (stored_line (use_of_access b.line_bytes p.access))) cores.portions.items
    → now.statuses.items ≡ cores.statuses.items → now.lock ≡ cores.lock
    → hart ≡ record { regs = after (w.flat.harts h).regs p.instr value; status = Hart_is.Run }
    → HartSteps d w h code hart new later now []
unfolding notes_of
plain-steps d w h code hart b new log later cores now p value s runs plan plain value_is used notes told_is statuses lock hart_is =
    record {
      hart_is = hart_is ∙ ap (λ v. record { regs = after (w.flat.harts h).regs p.instr v; status = Hart_is.Run }) seen
          ∙ sym (cond-true (eqb h h) _ _ (eq-eqb h h refl)) ∙ ap (λ (f : State). f.harts h) (sym flat);
      parts = record {
        code_is = s.code_is;
        memory = memory-took d w (Step h) b new log later s.memory (cast-used tags view used) (notes ∙ ap (all_noted log) noted);
        cores = subst (λ x. ShowsCores d x now.portions.items (took d w (Step h))) (sym statuses)
            (subst (λ x. ShowsCores d cores.statuses.items x (took d w (Step h))) (sym told_is)
            (cores-step d w h cores.statuses.items cores.portions.items _ (ap (λ (f : State). f.cores) flat) (ap (λ x. line_list (stored_line x)) used_line) s.cores));
        lock = subst (λ x. ShowsLock d x (took d w (Step h))) (sym lock) (lock-step d w h cores.lock (ap (λ (f : State). f.cores) flat) s.lock);
      };
      output = ap (λ (f : State). f.output) flat;
    }
  where
    numbers : HasShape d b
    numbers = s.memory.numbers

    seen : value ≡ span_value (byte_at d.image.code.base w.flat.memory) (span_of_access p.access)
    seen = value_is ∙ same-loaded (span_of_access p.access) numbers.base s.memory.view

    flat : hart_step (setup_of d) w.flat h
        ≡ (let v = span_value (byte_at d.image.code.base w.flat.memory) (span_of_access p.access) in
        record {
          memory = overlay d.image.code.base w.flat.memory (stores_of_access v p.access);
          harts = updated w.flat.harts h (record { regs = after (w.flat.harts h).regs p.instr v; status = Hart_is.Run });
          cores = w.flat.cores;
          output = w.flat.output ++ [];
        })
    flat = flat-plain d w.flat h p runs plan plain

    used_line : use_of_access b.line_bytes p.access ≡ hart_use d w h
    used_line = ap (λ n. use_of_access n p.access) numbers.line_bytes ∙ sym (use-at d w h p plan)

    tags : after_use (shape_of b) b.tags h (use_of_access b.line_bytes p.access) ≡ after_use (hart_shape d) w.tags h (hart_use d w h)
    tags = same-use h numbers.shape s.memory.tags used_line

    noted : use_notes (shape_of b) b.tags h (use_of_access b.line_bytes p.access) ≡ use_notes (hart_shape d) w.tags h (hart_use d w h)
    noted = same-notes h numbers.shape s.memory.tags used_line

    view : overlay b.base b.view (stores_of_access value p.access) ≡ (hart_step (setup_of d) w.flat h).memory
    view = same-overlay numbers.base s.memory.view (ap (λ v. stores_of_access v p.access) seen) ∙ ap (λ (f : State). f.memory) (sym flat)

-- the parts after an act that traps
pub trap-steps : (d : Design) (w : World) (h : ℕ) (code : CodeView) (hart : Hart) (b : BackingView) (log : Trace) (cores : Cores) (trap : Trap)
    → IsCoherent b → ShowsParts d code b log cores w → hart_runs (w.flat.harts h).status ≡ true → plan_of d.image.code (w.flat.harts h).regs ≡ Err trap
    → hart ≡ record { regs = (w.flat.harts h).regs; status = Hart_is.Trapped trap }
    → HartSteps d w h code hart b log cores []
unfolding notes_of
trap-steps d w h code hart b log cores trap is s runs plan hart_is =
    record {
      hart_is = hart_is ∙ sym (cond-true (eqb h h) _ _ (eq-eqb h h refl)) ∙ ap (λ (f : State). f.harts h) (sym flat);
      parts = record {
        code_is = s.code_is;
        memory = memory-stays d w (Step h) b log is.backing s.memory (record {
          tags = ap (after_use (hart_shape d) w.tags h) none;
          flat = ap (λ (f : State). f.memory) flat;
          notes = ap (use_notes (hart_shape d) w.tags h) none;
        });
        cores = subst (λ x. ShowsCores d cores.statuses.items x (took d w (Step h))) (sym (none-told cores.portions.items))
            (cores-step d w h cores.statuses.items cores.portions.items [] (ap (λ (f : State). f.cores) flat) (sym (ap (λ x. line_list (stored_line x)) none)) s.cores);
        lock = lock-step d w h cores.lock (ap (λ (f : State). f.cores) flat) s.lock;
      };
      output = ap (λ (f : State). f.output) flat;
    }
  where
    none : hart_use d w h ≡ None
    none = no-use d w h trap plan

    flat : hart_step (setup_of d) w.flat h
        ≡ record {
          memory = w.flat.memory;
          harts = updated w.flat.harts h (record { regs = (w.flat.harts h).regs; status = Hart_is.Trapped trap });
          cores = w.flat.cores;
          output = w.flat.output ++ [];
        }
    flat = flat-trap d w.flat h trap runs plan

pub waits-trap : (code : CodeView) (cores : ℕ → Option CoreStatus) (r : Regs) (trap : Trap) → plan_of code r ≡ Err trap → waits_next code cores r ≡ false
unfolding waits_next
waits-trap code cores r trap plan = rw plan refl

pub run-of : (s : HartStatus) → hart_runs s ≡ true → s ≡ Hart_is.Run
run-of Hart_is.Run e = refl
run-of (Hart_is.Exit v) e = cc
run-of (Hart_is.Trapped t) e = cc

abbrev pub hart-of : Regs → HartStatus → Hart
hart-of r s = record { regs = r; status = s }

pub same-hart : {r q : Regs} {s t : HartStatus} → r ≡ q → s ≡ t → hart-of r s ≡ hart-of q t
same-hart e f = cc

-- ---- held

pub held-hart : (d : Design) (lock : Counts) (w : World) (h : ℕ) → ShowsLock d lock w → IsAnothers lock.locked (Actor_is.Hart h)
    → is_locked_below w (λ k. false) d.config.cores ≡ true
held-hart d lock w h shows others = go lock.locked refl others
  where
    go : (x : Option ℕ) → lock.locked ≡ x → IsAnothers x (Actor_is.Hart h) → is_locked_below w (λ k. false) d.config.cores ≡ true
    go None e o = absurd o
    go (Some k) e o = somebody-locked d lock w (λ i. false) k shows e refl

pub free-hart : (d : Design) (lock : Counts) (w : World) (h : ℕ) → ShowsLock d lock w → (IsAnothers lock.locked (Actor_is.Hart h) → ⊥)
    → is_locked_below w (λ k. false) d.config.cores ≡ false
free-hart d lock w h shows free = go lock.locked refl free
  where
    go : (x : Option ℕ) → lock.locked ≡ x → (IsAnothers x (Actor_is.Hart h) → ⊥) → is_locked_below w (λ k. false) d.config.cores ≡ false
    go None e o = nobody-locked d lock w (λ i. false) shows e
    go (Some k) e o = absurd (o tt)

-- a hart that isn't held
pub nobody : (x : Option ℕ) (h : ℕ) → (IsAnothers x (Actor_is.Hart h) → ⊥) → x ≡ None
nobody None h free = refl
nobody (Some k) h free = absurd (free tt)

pub waits-call : (code : CodeView) (cores : ℕ → Option CoreStatus) (r : Regs) (p : Planned) → plan_of code r ≡ Ok p → is_call_access p.access ≡ true
    → waits_next code cores r ≡ waits cores r
unfolding waits_next
waits-call code cores r p plan call = rw (plan, call) refl

pub waiting-at : (d : Design) (w : World) (h : ℕ) (code : CodeView) (hart : Hart) (see : ℕ → Option CoreStatus) (answer : Bool) → code ≡ d.image.code
    → hart ≡ w.flat.harts h → see ≡ status_of d.config.cores w.flat.cores → waits_next code see hart.regs ≡ answer
    → waits_next d.image.code (status_of d.config.cores w.flat.cores) (w.flat.harts h).regs ≡ answer
waiting-at d w h code hart see answer code_is at see_is is = sym (same code_is see_is (ap (λ (x : Hart). x.regs) at)) ∙ is
  where
    same : {c k : CodeView} {f g : ℕ → Option CoreStatus} {r q : Regs} → c ≡ k → f ≡ g → r ≡ q → waits_next c f r ≡ waits_next k g q
    same e f g = cc

pub plan-at : (d : Design) (w : World) (h : ℕ) (code : CodeView) (hart : Hart) (plan : Result Planned Trap) → code ≡ d.image.code → hart ≡ w.flat.harts h
    → plan_of code hart.regs ≡ plan → plan_of d.image.code (w.flat.harts h).regs ≡ plan
plan-at d w h code hart plan code_is at is = sym (same code_is (ap (λ (x : Hart). x.regs) at)) ∙ is
  where
    same : {c k : CodeView} {r q : Regs} → c ≡ k → r ≡ q → plan_of c r ≡ plan_of k q
    same e f = cc

-- ---- the other harts

step-others : (d : Design) (f : State) (h k : ℕ) → k ≢ h → (hart_step (setup_of d) f h).harts k ≡ f.harts k
unfolding hart_step
step-others d f h k ne =
    cond_both (steps d.image.code (status_of d.config.cores f.cores) (f.harts h)) _ f (λ (g : State). g.harts k ≡ f.harts k)
    (λ _. cond-false (eqb k h) _ _ (ne_eqb k h ne)) (λ _. refl)

pub other-harts : (d : Design) (w : World) (h k : ℕ) → k ≢ h → (happens d w (Actor_is.Hart h)).flat.harts k ≡ w.flat.harts k
unfolding happens next
other-harts d w h k ne =
    cond_both (not (hart_runs (w.flat.harts h).status)) _ _ (λ e. (took d w e).flat.harts k ≡ w.flat.harts k) (λ _. refl)
    (λ _. cond_both (is_locked_below w (λ k. false) d.config.cores) _ _ (λ e. (took d w e).flat.harts k ≡ w.flat.harts k) (λ _. refl)
    (λ _. cond_both (waits_next d.image.code (status_of d.config.cores w.flat.cores) (w.flat.harts h).regs) _ _
    (λ e. (took d w e).flat.harts k ≡ w.flat.harts k) (λ _. refl) (λ _. step-others d w.flat h k ne)))

pub harts-after : (d : Design) (w : World) (h : ℕ) (harts : List Hart) (hart : Hart) → h < length harts → ShowsHarts d harts w
    → hart ≡ (happens d w (Actor_is.Hart h)).flat.harts h → ShowsHarts d (set harts h hart) (happens d w (Actor_is.Hart h))
harts-after d w h harts hart inside s is = record { many = length-set harts h hart ∙ s.many; each = λ k u. go k u (cases_eq k h) }
  where
    go : (k : ℕ) → k < d.config.harts → ((k ≡ h) ⊎ (k ≡ h → ⊥)) → slice_get (set harts h hart) k ≡ Some ((happens d w (Actor_is.Hart h)).flat.harts k)
    go k u (inl e) = rw e (slice_get-set_same harts h hart ∙ cond-true (ltb h (length harts)) _ _ (lt-ltb h (length harts) inside) ∙ ap Some is)
    go k u (inr ne) = slice_get-set_other harts h k hart ne ∙ s.each k u ∙ ap Some (sym (other-harts d w h k ne))
