-- What an order says, line by line.
use Rattle.std.specs.Prelude.{ℕ, Bool, List, [], ◌∷◌, ◌++◌, map, Option, None, if◌then◌else◌}
use Rattle.schedule_log.specs.declared.entry.Entry.{Entry}
use Rattle.schedule_log.specs.EntryReading.{entry_in}
use Rattle.schedule_log.specs.Schedule.{ended_lines, last_part, is_last_line}

-- What follows the last line feed is a line too, where it isn't empty, and never an entry. Where more of the text is to
-- come, it is a line only once it is too long for one.
abbrev pub unended : Bool → List ℕ → List (Option Entry)
unended more part = if is_last_line more part then None ∷ [] else []

-- the entry of each line of an order, and none where a line isn't an entry's text
abbrev pub entry_lines : Bool → List ℕ → List (Option Entry)
entry_lines more text = map entry_in (ended_lines text) ++ unended more (last_part text)
