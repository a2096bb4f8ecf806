-- A reader of an order that has met a part of it.
use Rattle.std.specs.Prelude.{◌≡◌, ℕ, ◌+◌, ◌<◌, ◌≤◌, Bool, true, false, List, [], ◌∷◌, ◌++◌, length, drop, Option, Some, None}
use Rattle.schedule_log.specs.declared.entry.Entry.{Entry}
use Rattle.schedule_log.specs.EntryReading.{entry_in}
use Rattle.schedule_log.specs.Findings.{IsBegun}
use Rattle.schedule_log.specs.Schedule.{is_feed}
use Rattle.order_reading.specs.declared.fed.Fed.{Fed}
use Rattle.order_reading.specs.declared.fed.Fed.TheVariants as Fed_is
use Rattle.order_reading.specs.declared.fed.Last.{Last}
use Rattle.order_reading.specs.declared.fed.Last.TheVariants as Last_is
use Rattle.order_reading.specs.declared.fed.TheConstants.{NO_ENTRY}
use Rattle.order_reading.specs.declared.reader.Taken.{Taken}
use Rattle.order_reading.specs.declared.reader.Taken.TheVariants as Taken_is
use Rattle.order_reading.specs.Lines.{entry_lines}

-- a reader between two pieces: the number of lines ended, the bytes of the line begun, and whether a line was bad
pub record Progress : Type 0 where
  pub ended : ℕ
  pub begun : List ℕ
  pub bad : Bool

-- a reader that has met nothing
abbrev pub at_start : Progress
at_start = record { ended = 0; begun = []; bad = false }

-- a reader after the line feed of a line that is an entry
abbrev pub after_feed : Progress → Progress
after_feed p = record p { ended = p.ended + 1; begun = [] }

-- the lines of the text that follows, the line begun among them
abbrev pub ahead : Bool → Progress → List ℕ → List (Option Entry)
ahead more p text = entry_lines more (p.begun ++ text)

-- the first of the lines is bad
pub record BeginsBad (lines : List (Option Entry)) : Type 0 where
  pub later : List (Option Entry)
  pub same : lines ≡ None ∷ later

-- whatever follows, the first line is this entry, and then come the lines of the rest of the piece
pub record GivesEntry (old : Progress) (piece : List ℕ) (entry : Entry) (used : ℕ) (new : Progress) : Type 0 where
  pub some : 0 < used
  pub bound : used ≤ length piece
  pub lines : (more : Bool) (rest : List ℕ)
      → ahead more old (piece ++ rest) ≡ Some entry ∷ ahead more new (drop used piece ++ rest)

-- the whole piece was taken, and no line in it ended
pub record WantsMore (old : Progress) (piece : List ℕ) (used : ℕ) (new : Progress) : Type 0 where
  pub all : used ≡ length piece
  pub lines : (more : Bool) (rest : List ℕ) → ahead more old (piece ++ rest) ≡ ahead more new rest

-- whatever follows, the line after those ended is bad
pub record MeetsBad (old : Progress) (piece : List ℕ) (line why : ℕ) : Type 0 where
  pub number : line ≡ old.ended + 1
  pub cause : why ≡ NO_ENTRY
  pub lines : (more : Bool) (rest : List ℕ) → BeginsBad (ahead more old (piece ++ rest))

-- what a piece brings, by the answer
abbrev pub Feeds : Progress → List ℕ → Fed → Progress → Type 0
Feeds old piece (Fed_is.Entry entry used) new = GivesEntry old piece entry used new
Feeds old piece (Fed_is.More used) new = WantsMore old piece used new
Feeds old piece (Fed_is.Bad line why) new = MeetsBad old piece line why

abbrev pub is_bad : Fed → Bool
is_bad (Fed_is.Entry entry used) = false
is_bad (Fed_is.More used) = false
is_bad (Fed_is.Bad line why) = true

-- the number of lines that an answer ends
abbrev pub ends_line : Fed → ℕ
ends_line (Fed_is.Entry entry used) = 1
ends_line (Fed_is.More used) = 0
ends_line (Fed_is.Bad line why) = 0

-- after a bad line that line is told again, and nothing else happens
pub record StaysBad (old : Progress) (answer : Fed) (new : Progress) : Type 0 where
  pub same : new ≡ old
  pub told : answer ≡ Fed_is.Bad (old.ended + 1) NO_ENTRY

-- what the end brings, where no line was bad before it
abbrev pub Ends : Progress → Last → Type 0
Ends p Last_is.Nothing = (p.bad ≡ false) × (ahead false p [] ≡ [])
Ends p (Last_is.Bad line why) =
    (line ≡ p.ended + 1) × (why ≡ NO_ENTRY) × (p.bad ≡ false → ahead false p [] ≡ None ∷ [])

-- what a byte brings
abbrev pub Takes : Progress → ℕ → Taken → Progress → Type 0
Takes old byte Taken_is.Nothing new =
    (is_feed byte ≡ false) × (new ≡ record old { begun = old.begun ++ byte ∷ [] }) × IsBegun new.begun
Takes old byte (Taken_is.Entry entry) new =
    (byte ≡ 10) × (entry_in old.begun ≡ Some entry) × (new ≡ after_feed old)
Takes old byte Taken_is.Bad new =
    (new ≡ record old { bad = true }) × ((more : Bool) (rest : List ℕ) → BeginsBad (ahead more old (byte ∷ rest)))
