-- What a schedule asks for, line by line, and a reader that has met a part of it.
use Rattle.std.specs.Prelude.{◌≡◌, ℕ, ◌+◌, ◌-◌, ◌<◌, ◌≤◌, Bool, true, false, List, [], ◌∷◌, ◌++◌, length, ◌⊎◌, Option, Some, None, slice_get, take, IsTrue, if◌then◌else◌}
use Rattle.std.specs.List.{list_any}
use Rattle.conda_base.specs.declared.actor.Actor.{Actor}
use Rattle.schedule_log.specs.declared.line.Reading.{Reading}
use Rattle.schedule_log.specs.declared.line.Reading.TheVariants as Reading_is
use Rattle.schedule_log.specs.declared.line.BadLine.{BadLine}
use Rattle.schedule_log.specs.declared.fed.Fed.{Fed}
use Rattle.schedule_log.specs.declared.fed.Fed.TheVariants as Fed_is
use Rattle.schedule_log.specs.declared.fed.Last.{Last}
use Rattle.schedule_log.specs.declared.fed.Last.TheVariants as Last_is
use Rattle.schedule_log.specs.Schedule.{is_feed, judged_lines}
use Rattle.schedule_log.specs.Grammar.{reading, is_on_chip}

-- a line that asks for so many events of an actor, or a bad line with its number and why it is bad
pub data Finding : Type 0 where
  Asks : Actor → ℕ → Finding
  Fails : ℕ → ℕ → Finding

-- each actor that is asked for is one of a chip with so many harts and cores
abbrev pub AreOnChip : ℕ → ℕ → List Finding → Type 0
AreOnChip harts cores [] = Unit {0}
AreOnChip harts cores (Asks a count ∷ later) = IsTrue (is_on_chip harts cores a) × AreOnChip harts cores later
AreOnChip harts cores (Fails line why ∷ later) = Unit {0}

-- what the line of this number says, before what the lines after it say; none are looked at after a bad one
abbrev pub found_then : Reading → ℕ → List Finding → List Finding
found_then Reading_is.Blank number later = later
found_then (Reading_is.Events actor count) number later = Asks actor count ∷ later
found_then (Reading_is.Bad why) number later = Fails number why ∷ []

-- what lines say, up to and with the first bad one, where the first of them has this number
abbrev pub found_from : ℕ → ℕ → ℕ → List (List ℕ) → List Finding
found_from harts cores number [] = []
found_from harts cores number (line ∷ lines) =
    found_then (reading harts cores line) number (found_from harts cores (number + 1) lines)

-- what the lines of a whole schedule say, counted from 1
abbrev pub findings : ℕ → ℕ → List ℕ → List Finding
findings harts cores text = found_from harts cores 1 (judged_lines false text)

-- A reader between two pieces: the harts and cores of the chip, the number of lines ended, the bytes of the line
-- begun, and the bad line if one was met.
pub record Progress : Type 0 where
  pub harts : ℕ
  pub cores : ℕ
  pub ended : ℕ
  pub begun : List ℕ
  pub bad : Option BadLine

-- a reader that has met nothing
abbrev pub at_start : ℕ → ℕ → Progress
at_start harts cores = record { harts = harts; cores = cores; ended = 0; begun = []; bad = None }

-- after a bad line nothing but that line is found
abbrev pub unless_bad : Option BadLine → List Finding → List Finding
unless_bad None found = found
unless_bad (Some bad) found = Fails bad.line bad.why ∷ []

-- What a reader finds in the text that follows. Where more is to come after that text, its last part counts only
-- once it is too long for a line.
unfoldable pub finds : Bool → Progress → List ℕ → List Finding
finds more progress text =
    unless_bad progress.bad
    (found_from progress.harts progress.cores (progress.ended + 1)
    (judged_lines more (progress.begun ++ text)))

-- what a piece shows, whatever comes after it
abbrev pub found_in : Progress → List ℕ → List Finding
found_in progress piece = finds true progress piece

-- what a reader finds where nothing follows
abbrev pub left_over : Progress → List Finding
left_over progress = finds false progress []

-- A piece takes a reader from one state to another, and gives these findings on the way: whatever follows, the first
-- finds in all of it what the piece gave, and then what the second finds in the rest.
pub record Feeds (old : Progress) (piece : List ℕ) (given : List Finding) (new : Progress) : Type 0 where
  pub whole : (more : Bool) (rest : List ℕ) → finds more old (piece ++ rest) ≡ given ++ finds more new rest

-- the line begun has no line feed, and at most the 32 bytes of a good line
pub record IsBegun (line : List ℕ) : Type 0 where
  pub no_feed : list_any is_feed line ≡ false
  pub short : length line ≤ 32

-- the number of line feeds
abbrev pub feeds_in : List ℕ → ℕ
feeds_in [] = 0
feeds_in (byte ∷ text) = (if is_feed byte then 1 else 0) + feeds_in text

-- what one answer of a reader gives
abbrev pub given_by : Fed → List Finding
given_by (Fed_is.Events actor count used) = Asks actor count ∷ []
given_by (Fed_is.More used) = []
given_by (Fed_is.Bad line why) = []

-- how much of a piece an answer used up; where a line is bad, it doesn't matter
abbrev pub used_by : Fed → List ℕ → ℕ
used_by (Fed_is.Events actor count used) piece = used
used_by (Fed_is.More used) piece = used
used_by (Fed_is.Bad line why) piece = length piece

-- the answer that uses up so much of a piece, where the piece shows this
abbrev pub answer_at : ℕ → List Finding → Fed
answer_at used [] = Fed_is.More used
answer_at used (Asks actor count ∷ later) = Fed_is.Events actor count used
answer_at used (Fails line why ∷ later) = Fed_is.Bad line why

-- An answer with events ends at the line feed of their line: nothing is found before it. One that
-- wants more has used up the piece.
abbrev pub IsUsed : Progress → Fed → List ℕ → Type 0
IsUsed old (Fed_is.Events actor count used) piece =
    (slice_get piece (used - 1) ≡ Some 10) × (0 < used) × (used ≤ length piece)
    × (found_in old (take (used - 1) piece) ≡ [])
IsUsed old (Fed_is.More used) piece = used ≡ length piece
IsUsed old (Fed_is.Bad line why) piece = Unit {0}

-- the bad line that an answer names
abbrev pub bad_by : Fed → Option BadLine
bad_by (Fed_is.Events actor count used) = None
bad_by (Fed_is.More used) = None
bad_by (Fed_is.Bad line why) = Some (record { line = line; why = why })

-- what the answer at a schedule's end says
abbrev pub said_by : Last → List Finding
said_by Last_is.Nothing = []
said_by (Last_is.Events actor count) = Asks actor count ∷ []
said_by (Last_is.Bad line why) = Fails line why ∷ []

-- no bad line was met, and nothing is left, or one carriage return
pub record IsEndedWell (progress : Progress) : Type 0 where
  pub good : progress.bad ≡ None
  pub rest : (progress.begun ≡ []) ⊎ (progress.begun ≡ 13 ∷ [])
