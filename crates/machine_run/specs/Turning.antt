-- What each call of the loop does, by its result.
use Rattle.std.specs.Prelude.{ℕ, ◌≡◌, ◌+◌, ◌-◌, ◌≤◌, ◌<◌, false, List, [], ◌++◌, length, drop, take, IsTrue, Option, Some, None, Result, Ok, Err}
use Rattle.schedule_log.specs.Findings.{left_over}
use Rattle.schedule_log.specs.Verdict.{is_too_long, most_bytes}
use Rattle.chip_laws.specs.Design.{Design}
use Rattle.streams.specs.Seen.{Seen, IsLeft}
use Rattle.streams.specs.declared.fault.Fault.{Fault}
use Rattle.machine_run.specs.declared.ending.Ending.{Ending}
use Rattle.machine_run.specs.declared.ending.Turn.{Turn}
use Rattle.machine_run.specs.declared.ending.Turn.TheVariants.{Goes, Ends}
use Rattle.machine_run.specs.declared.machine.Machine.{Ghosts}
use Rattle.machine_run.specs.declared.run.Run.{Run}
use Rattle.machine_run.specs.Running.{IsRun}
use Rattle.machine_run.specs.Going.{Point, IsGoing, IsEnded, IsBroken, IsAt, CanGoOn, GoesOn, EndsIn, Breaks}

-- a schedule of these bytes, of which a piece and then the rest are ahead, and so many may still be
-- judged
pub record IsCut {A : Type 0} (m : Ghosts A) (d : Design) (bytes : List ℕ) (p : Point A)
    (piece rest : List ℕ) (room : ℕ) : Type 0 where
  pub size : length bytes + room ≡ most_bytes + (length piece + length rest)
  pub going : IsAt m d bytes p (is_too_long bytes) (take room (piece ++ rest))

-- a run between two readings of its source, of which so many bytes may still be judged
pub record IsMidway {A : Type 0} (m : Ghosts A) (d : Design) (bytes : List ℕ) (p : Point A)
    (room : ℕ) : Type 0 where
  pub told : IsTrue p.streams.tells
  pub size : length bytes + room ≡ most_bytes + length p.streams.left
  pub going : IsAt m d bytes p (is_too_long bytes) (take room p.streams.left)

-- some bytes of a piece were used, where it has some
pub record UsesSome (piece : List ℕ) (used : ℕ) : Type 0 where
  pub bound : used ≤ length piece
  pub some : 0 < length piece → 0 < used

-- the first line of a piece that asks for events, and those before it
abbrev pub MakesTurn : {A : Type 0} → Ghosts A → Point A → Point A → List ℕ → Result Turn Fault → Type 0
MakesTurn m old new piece (Ok (Goes used)) = UsesSome piece used
    × GoesOn m old new piece (drop used piece)
MakesTurn m old new piece (Ok (Ends ending)) = EndsIn m old new.streams new.run piece ending
MakesTurn m old new piece (Err fault) = Breaks m old new.streams piece

-- all lines that a piece ends
abbrev pub RunsPiece : {A : Type 0} → Ghosts A → Point A → Point A → List ℕ
    → Result (Option Ending) Fault → Type 0
RunsPiece m old new piece (Ok None) = GoesOn m old new piece []
RunsPiece m old new piece (Ok (Some ending)) = EndsIn m old new.streams new.run piece ending
RunsPiece m old new piece (Err fault) = Breaks m old new.streams piece

-- the line that the schedule's end ends, where nothing is ahead but what the reader holds
abbrev pub RunsLast : {A : Type 0} → Ghosts A → Point A → Seen → Run A → Result Ending Fault
    → Type 0
RunsLast m old streams run (Ok ending) = (d : Design) (bytes : List ℕ) → is_too_long bytes ≡ false
    → IsGoing m d bytes old.streams old.run (left_over old.reader)
    → IsEnded m d bytes streams run ending
RunsLast m old streams run (Err fault) = (d : Design) (bytes : List ℕ)
    → IsGoing m d bytes old.streams old.run (left_over old.reader) → IsBroken m d bytes streams

-- the lines of a piece, as far as there is room for it
abbrev pub RunsWithin : {A : Type 0} → Ghosts A → Point A → Point A → List ℕ → ℕ
    → Result (Option Ending) Fault → Type 0
RunsWithin m old new piece room (Ok None) = (length piece ≤ room) × GoesOn m old new piece []
RunsWithin m old new piece room (Ok (Some ending)) =
    (d : Design) (bytes rest : List ℕ) → IsCut m d bytes old piece rest room
    → IsEnded m d bytes new.streams new.run ending
RunsWithin m old new piece room (Err fault) =
    (d : Design) (bytes rest : List ℕ) → IsCut m d bytes old piece rest room
    → IsBroken m d bytes new.streams

-- after a round that used so many bytes: none only at the source's end
pub record RoundsOn {A : Type 0} (m : Ghosts A) (old new : Point A) (room used : ℕ) : Type 0 where
  pub within : used ≤ room
  pub lines : new.reader.ended + (room - used) ≤ old.reader.ended + room
  pub can : CanGoOn m new
  pub midway : (d : Design) (bytes : List ℕ) → IsMidway m d bytes old room
      → IsMidway m d bytes new (room - used)
  pub ended : IsTrue new.streams.tells → used ≡ 0 → new.streams.left ≡ []

-- the next bytes of the schedule are read and their lines run
abbrev pub Rounds : {A : Type 0} → Ghosts A → Point A → Point A → ℕ → Result Turn Fault → Type 0
Rounds m old new room (Ok (Goes used)) = RoundsOn m old new room used
Rounds m old new room (Ok (Ends ending)) = (d : Design) (bytes : List ℕ)
    → IsMidway m d bytes old room → IsEnded m d bytes new.streams new.run ending
Rounds m old new room (Err fault) = (d : Design) (bytes : List ℕ) → IsMidway m d bytes old room
    → IsBroken m d bytes new.streams

-- A whole schedule is run: the events of it that run, and the ending is the verdict on it. After a
-- fault the texts are fronts of those of these events.
abbrev pub RunsSchedule : {A : Type 0} → Ghosts A → Seen → Seen → Run A → Run A
    → Result Ending Fault → Type 0
RunsSchedule m before after old new (Ok ending) =
    (d : Design) (bytes : List ℕ) → IsLeft before bytes → IsRun m d before old []
    → IsEnded m d bytes after new ending
RunsSchedule m before after old new (Err fault) =
    (d : Design) (bytes : List ℕ) → IsLeft before bytes → IsRun m d before old []
    → IsBroken m d bytes after
