-- A schedule's run over a host.
use Rattle.std.proofs.Common.{◌≡◌, ℕ, List, [], length, sym, ap, ◌∙◌, subst}
use Rattle.conda_host.specs.declared.outside.Role.{Role}
use Rattle.conda_host.specs.State.{HostState}
use Rattle.schedule_log.specs.Texts.{order_text}
use Rattle.schedule_log.specs.Verdict.{good, schedule_verdict}
use Rattle.chip_laws.specs.Design.{Design}
use Rattle.streams.specs.declared.sinks.Sinks.{Sinks}
use Rattle.streams.specs.Seen.{Seen, ShowsText}
use Rattle.streams.specs.Streaming.{has_sink, seen_over, AreMade, AreWhole}
use Rattle.streams.proofs.FilesFacts.{whole_holds, front_holds}
use Rattle.machine_run.specs.declared.ending.Ending.{Ending}
use Rattle.machine_run.specs.declared.machine.Machine.{Ghosts}
use Rattle.machine_run.specs.declared.run.Run.{Run}
use Rattle.machine_run.specs.Filing.{IsNew, HasRun, FilesHoldFronts}
use Rattle.machine_run.specs.Going.{IsEnded, IsBroken, verdict_of}
use Rattle.machine_run.specs.Running.{IsRun}
use Rattle.machine_run.proofs.RunFacts.{fronts_of_run}

same_text : {v : Seen} {role : Role} {a b : List ℕ} → a ≡ b → ShowsText v role a → ShowsText v role b
same_text e h = record { same = λ told is. h.same told is ∙ e }

pub starts_run : {A : Type 0} (m : Ghosts A) (d : Design) (v : Seen) (run : Run A) → (m.journal d [] ≡ []) × (m.output d [] ≡ []) → m.stands d run.machine [] → IsNew v run → IsRun m d v run []
starts_run m d v run none stands new = record {
  stands = stands;
  order = same_text (sym (ap order_text none.0)) new.order;
  output = same_text (sym none.1) new.output;
  count = new.events;
  bytes = new.bytes ∙ sym (ap length none.1);
}

pub fronts_filed : {A : Type 0} (m : Ghosts A) (d : Design) (bytes : List ℕ) (h : HostState) (from : Role) (a : Sinks) → AreMade h a → IsBroken m d bytes (seen_over h from a) → FilesHoldFronts m d h (has_sink a) (good d.config.harts d.config.cores bytes)
fronts_filed m d bytes h from a made broken = record { order = front_holds h from a _ _ made broken.order; output = front_holds h from a _ _ made broken.output }

-- the schedule's end was met, but the rest of the texts wasn't written
pub ended_filed : {A : Type 0} (m : Ghosts A) (d : Design) (bytes : List ℕ) (h : HostState) (from : Role) (a : Sinks) (v : Seen) (run : Run A) (ending : Ending) → AreMade h a → seen_over h from a ≡ v
    → IsEnded m d bytes v run ending → FilesHoldFronts m d h (has_sink a) (good d.config.harts d.config.cores bytes)
ended_filed m d bytes h from a v run ending made same ended =
    fronts_filed m d bytes h from a made (subst (IsBroken m d bytes) (sym same) (fronts_of_run m d v run _ ended.run_is))

pub run_filed : {A : Type 0} (m : Ghosts A) (d : Design) (bytes : List ℕ) (h : HostState) (from : Role) (a : Sinks) (v : Seen) (run : Run A) (ending : Ending) → AreMade h a → AreWhole a → seen_over h from a ≡ v
    → IsEnded m d bytes v run ending → (verdict_of ending ≡ schedule_verdict d.config.harts d.config.cores bytes) × HasRun m d h (has_sink a) run (good d.config.harts d.config.cores bytes)
run_filed m d bytes h from a v run ending made whole same ended =
    let e : IsEnded m d bytes (seen_over h from a) run ending = subst (λ x. IsEnded m d bytes x run ending) (sym same) ended in (
      e.verdict_is,
      record {
        stands = e.run_is.stands;
        order = whole_holds h from a _ _ made whole e.run_is.order;
        output = whole_holds h from a _ _ made whole e.run_is.output;
        count = e.run_is.count;
        bytes = e.run_is.bytes;
      },
    )
