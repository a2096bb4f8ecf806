-- A run on its way through a schedule.
use Rattle.std.specs.Prelude.{ℕ, ◌≡◌, ◌+◌, ◌≤◌, Bool, List, ◌++◌, length, IsTrue, None}
use Rattle.conda_base.specs.declared.actor.Actor.{Actor}
use Rattle.schedule_log.specs.Findings.{Finding, Progress, IsBegun, finds}
use Rattle.schedule_log.specs.Grammar.{is_on_chip}
use Rattle.schedule_log.specs.Verdict.{Verdict, Fine, BadLine, TooLarge, most_bytes, most_events, good, good_after, verdict_after, verdict_at_end, schedule_verdict}
use Rattle.chip_laws.specs.Design.{Design}
use Rattle.streams.specs.Seen.{Seen}
use Rattle.machine_run.specs.declared.ending.Ending.{Ending}
use Rattle.machine_run.specs.declared.ending.Ending.TheVariants as Ending_is
use Rattle.machine_run.specs.declared.machine.Machine.{Ghosts}
use Rattle.machine_run.specs.declared.run.Run.{Run}
use Rattle.machine_run.specs.Running.{IsRun, HaveFronts, KeepsSource}

-- what an ending says of a schedule
abbrev pub verdict_of : Ending → Verdict
verdict_of Ending_is.Whole = Fine
verdict_of (Ending_is.BadLine line why) = BadLine line why
verdict_of Ending_is.TooManyEvents = TooLarge most_events
verdict_of Ending_is.TooManyBytes = TooLarge most_bytes

-- ---- where a run stands in its schedule

-- the first events of a schedule were run, and this is what its lines say from here on
pub record IsGoing {A : Type 0} (m : Ghosts A) (d : Design) (bytes : List ℕ) (streams : Seen)
    (run : Run A) (ahead : List Finding) : Type 0 where
  pub events : List Actor
  pub run_is : IsRun m d streams run events
  pub events_are : good d.config.harts d.config.cores bytes ≡ events ++ good_after (length events) ahead
  pub verdict_is : schedule_verdict d.config.harts d.config.cores bytes
      ≡ verdict_after (length events) (verdict_at_end bytes) ahead

-- the events of a schedule that run were run, and this ending is the verdict on it
pub record IsEnded {A : Type 0} (m : Ghosts A) (d : Design) (bytes : List ℕ) (streams : Seen)
    (run : Run A) (ending : Ending) : Type 0 where
  pub run_is : IsRun m d streams run (good d.config.harts d.config.cores bytes)
  pub verdict_is : verdict_of ending ≡ schedule_verdict d.config.harts d.config.cores bytes

-- a call failed on the way: the texts are fronts of those of the events that run
abbrev pub IsBroken : {A : Type 0} → Ghosts A → Design → List ℕ → Seen → Type 0
IsBroken m d bytes streams = HaveFronts m d streams (good d.config.harts d.config.cores bytes)

-- a run between two calls: what it shows, and how far its reader has come
pub record Point (A : Type 0) : Type 0 where
  pub run : Run A
  pub streams : Seen
  pub reader : Progress

abbrev pub point : {A : Type 0} → Run A → Seen → Progress → Point A
point run streams reader = record { run = run; streams = streams; reader = reader }

-- no bad line was met, and the machine has every actor that the reader lets through
pub record CanGoOn {A : Type 0} (m : Ghosts A) (p : Point A) : Type 0 where
  pub good_lines : p.reader.bad ≡ None
  pub begun : IsBegun p.reader.begun
  pub on_chip : (a : Actor) → IsTrue (is_on_chip p.reader.harts p.reader.cores a)
      → IsTrue (is_on_chip (m.hart_count p.run.machine) (m.core_count p.run.machine) a)

-- this text of the schedule is ahead, and after it more is to come or nothing
abbrev pub IsAt : {A : Type 0} → Ghosts A → Design → List ℕ → Point A → Bool → List ℕ → Type 0
IsAt m d bytes p more text = IsGoing m d bytes p.streams p.run (finds more p.reader text)

-- ---- what calls do with a piece of the schedule, whatever the schedule is and whatever follows
-- the piece

-- they went on, and this is left of the piece
pub record GoesOn {A : Type 0} (m : Ghosts A) (old new : Point A) (piece left : List ℕ)
    : Type 0 where
  pub fewer : length left ≤ length piece
  pub lines : new.reader.ended + length left ≤ old.reader.ended + length piece
  pub can : CanGoOn m new
  pub source : KeepsSource old.streams new.streams
  pub going : (d : Design) (bytes rest : List ℕ) (more : Bool)
      → IsAt m d bytes old more (piece ++ rest) → IsAt m d bytes new more (left ++ rest)

-- the run came to its ending
pub record EndsIn {A : Type 0} (m : Ghosts A) (old : Point A) (streams : Seen) (run : Run A)
    (piece : List ℕ) (ending : Ending) : Type 0 where
  pub ended : (d : Design) (bytes rest : List ℕ) (more : Bool)
      → IsAt m d bytes old more (piece ++ rest) → IsEnded m d bytes streams run ending

-- a call failed
pub record Breaks {A : Type 0} (m : Ghosts A) (old : Point A) (streams : Seen) (piece : List ℕ)
    : Type 0 where
  pub broken : (d : Design) (bytes rest : List ℕ) (more : Bool)
      → IsAt m d bytes old more (piece ++ rest) → IsBroken m d bytes streams
