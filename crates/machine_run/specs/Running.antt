-- A run after some events.
use Rattle.std.specs.Prelude.{◌≡◌, ℕ, ◌+◌, ◌<◌, ◌≤◌, Bool, true, false, List, [], ◌∷◌, ◌++◌, length, replicate, Result, Ok, Err}
use Rattle.conda_base.specs.declared.actor.Actor.{Actor}
use Rattle.conda_host.specs.declared.outside.Role.TheVariants.{Order, Output}
use Rattle.schedule_log.specs.declared.entry.Entry.{Entry}
use Rattle.schedule_log.specs.Texts.{order_text, text_of}
use Rattle.schedule_log.specs.Verdict.{most_events}
use Rattle.chip_laws.specs.Design.{Design}
use Rattle.streams.specs.Seen.{Seen, ShowsText, ShowsFront}
use Rattle.streams.specs.declared.fault.Fault.{Fault}
use Rattle.machine_run.specs.declared.machine.Machine.{Ghosts}
use Rattle.machine_run.specs.declared.run.Run.{Run}

-- the source stands where it stood
pub record KeepsSource (old new : Seen) : Type 0 where
  pub tells : new.tells ≡ old.tells
  pub left : new.left ≡ old.left

-- an entry's line, with its line feed
abbrev pub entry_line : Entry → List ℕ
entry_line entry = text_of entry ++ 10 ∷ []

-- the line of an entry was added to the order, and bytes to the output
pub record Records (old new : Seen) (entry : Entry) (out : List ℕ) : Type 0 where
  pub order : (text : List ℕ) → ShowsText old Order text
      → ShowsText new Order (text ++ entry_line entry)
  pub output : (text : List ℕ) → ShowsText old Output text → ShowsText new Output (text ++ out)
  pub source : KeepsSource old new

-- the same, but a call failed
pub record RecordsPart (old new : Seen) (entry : Entry) (out : List ℕ) : Type 0 where
  pub order : (text : List ℕ) → ShowsText old Order text
      → ShowsFront new Order (text ++ entry_line entry)
  pub output : (text : List ℕ) → ShowsText old Output text → ShowsFront new Output (text ++ out)

-- the machine stands for these events, and the texts are those of their journal and of their output
pub record IsRun {A : Type 0} (m : Ghosts A) (d : Design) (streams : Seen) (run : Run A)
    (events : List Actor) : Type 0 where
  pub stands : m.stands d run.machine events
  pub order : ShowsText streams Order (order_text (m.journal d events))
  pub output : ShowsText streams Output (m.output d events)
  pub count : run.events ≡ length events
  pub bytes : run.output_bytes ≡ length (m.output d events)

-- the texts are fronts of those of these events
pub record HaveFronts {A : Type 0} (m : Ghosts A) (d : Design) (streams : Seen) (events : List Actor)
    : Type 0 where
  pub order : ShowsFront streams Order (order_text (m.journal d events))
  pub output : ShowsFront streams Output (m.output d events)

-- a machine with the same harts and cores
pub record KeepsActors {A : Type 0} (m : Ghosts A) (old new : A) : Type 0 where
  pub harts : m.hart_count new ≡ m.hart_count old
  pub cores : m.core_count new ≡ m.core_count old

-- these events were run after any others
pub record Runs {A : Type 0} (m : Ghosts A) (before after : Seen) (old new : Run A)
    (more : List Actor) : Type 0 where
  pub ran : (d : Design) (events : List Actor) → IsRun m d before old events
      → IsRun m d after new (events ++ more)
  pub source : KeepsSource before after

-- the same, but a call failed
pub record RunsPart {A : Type 0} (m : Ghosts A) (before after : Seen) (old : Run A)
    (more : List Actor) : Type 0 where
  pub fronts : (d : Design) (events : List Actor) → IsRun m d before old events
      → HaveFronts m d after (events ++ more)

-- a line's events were run, or they were too many and none was, or a call failed
abbrev pub RunsLine : {A : Type 0} → Ghosts A → Seen → Seen → Run A → Run A → Actor → ℕ
    → Result Bool Fault → Type 0
RunsLine m before after old new a count (Ok true) =
    (old.events + count ≤ most_events) × Runs m before after old new (replicate count a)
RunsLine m before after old new a count (Ok false) =
    (most_events < old.events + count) × Runs m before after old new []
RunsLine m before after old new a count (Err fault) =
    (old.events + count ≤ most_events) × RunsPart m before after old (replicate count a)
