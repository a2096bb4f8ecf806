-- How a whole schedule is judged, and which of its events run.
use Rattle.std.specs.Prelude.{ℕ, ◌+◌, Bool, List, [], ◌∷◌, ◌++◌, length, take, replicate, if◌then◌else◌, nat_le, nat_lt}
use Rattle.conda_base.specs.declared.actor.Actor.{Actor}
use Rattle.schedule_log.specs.Schedule.{judged_lines}
use Rattle.schedule_log.specs.declared.limits.TheConstants.{MOST_BYTES, MOST_EVENTS}
use Rattle.schedule_log.specs.Findings.{Finding, Asks, Fails, findings, found_from}

-- every line is good and no limit is passed; a line of this number is bad for this cause; or this limit is passed
pub data Verdict : Type 0 where
  Fine : Verdict
  BadLine : ℕ → ℕ → Verdict
  TooLarge : ℕ → Verdict

-- the most events of a schedule, and the most bytes
abbrev pub most_events : ℕ
most_events = MOST_EVENTS

abbrev pub most_bytes : ℕ
most_bytes = MOST_BYTES

-- the events that lines ask for, each actor as often as its line says
abbrev pub events_of : List Finding → List Actor
events_of [] = []
events_of (Asks actor count ∷ later) = replicate count actor ++ events_of later
events_of (Fails line why ∷ later) = []

-- the events of a schedule
unfoldable pub events : ℕ → ℕ → List ℕ → List Actor
events harts cores bytes = events_of (findings harts cores bytes)

-- a schedule with more bytes than are judged
abbrev pub is_too_long : List ℕ → Bool
is_too_long bytes = nat_lt most_bytes (length bytes)

-- What the lines within the byte limit say. Where the schedule goes on after the limit, its last part there counts
-- only once it is too long for a line.
abbrev pub judged_findings : ℕ → ℕ → List ℕ → List Finding
judged_findings harts cores bytes = found_from harts cores 1 (judged_lines (is_too_long bytes) (take most_bytes bytes))

-- the verdict on lines after so many events, and the one where nothing is wrong with them
abbrev pub verdict_after : ℕ → Verdict → List Finding → Verdict
verdict_after run at_end [] = at_end
verdict_after run at_end (Asks actor count ∷ later) =
    if nat_le (run + count) most_events then verdict_after (run + count) at_end later
    else TooLarge most_events
verdict_after run at_end (Fails line why ∷ later) = BadLine line why

-- the verdict where the lines within the limit are good
abbrev pub verdict_at_end : List ℕ → Verdict
verdict_at_end bytes = if is_too_long bytes then TooLarge most_bytes else Fine

-- the verdict on a schedule: its lines come first, then its length
unfoldable pub schedule_verdict : ℕ → ℕ → List ℕ → Verdict
schedule_verdict harts cores bytes = verdict_after 0 (verdict_at_end bytes) (judged_findings harts cores bytes)

-- the events of lines that run after so many others: none of a line that passes the limit, and none after it
abbrev pub good_after : ℕ → List Finding → List Actor
good_after run [] = []
good_after run (Asks actor count ∷ later) =
    if nat_le (run + count) most_events then replicate count actor ++ good_after (run + count) later
    else []
good_after run (Fails line why ∷ later) = []

-- the events of a schedule that run
unfoldable pub good : ℕ → ℕ → List ℕ → List Actor
good harts cores bytes = good_after 0 (judged_findings harts cores bytes)
