-- What one byte more does to a reader.
use Rattle.std.specs.Prelude.{ℕ, ◌+◌, List, [], ◌∷◌, ◌++◌, length, Some, if◌then◌else◌, nat_lt}
use Rattle.schedule_log.specs.declared.line.Reading.{Reading}
use Rattle.schedule_log.specs.declared.line.Reading.TheVariants.{Blank, Events, Bad}
use Rattle.schedule_log.specs.Schedule.{is_feed}
use Rattle.schedule_log.specs.Grammar.{reading}
use Rattle.schedule_log.specs.Findings.{Progress, Finding, Asks}

-- a reader after a line that says this
abbrev pub after_line : Progress → Reading → Progress
after_line p Blank = record p { ended = p.ended + 1; begun = [] }
after_line p (Events actor count) = record p { ended = p.ended + 1; begun = [] }
after_line p (Bad why) = record p { bad = Some (record { line = p.ended + 1; why = why }) }

-- what a reader says at a byte: what the line says that the byte ends, or that it makes the line too long
abbrev pub said_at : Progress → ℕ → Reading
said_at p byte =
    if is_feed byte then reading p.harts p.cores p.begun
    else (if nat_lt (length p.begun) 32 then Blank else Bad 4)

-- a reader after a byte
abbrev pub after_byte : Progress → ℕ → Progress
after_byte p byte =
    if is_feed byte then after_line p (reading p.harts p.cores p.begun)
    else (if nat_lt (length p.begun) 32 then record p { begun = p.begun ++ byte ∷ [] } else after_line p (Bad 4))

-- the events that a line asks for
abbrev pub asked_by : Reading → List Finding
asked_by Blank = []
asked_by (Events actor count) = Asks actor count ∷ []
asked_by (Bad why) = []
