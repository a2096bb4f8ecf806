-- A schedule's lines, and the counts in them.
use Rattle.std.specs.Prelude.{ℕ, ◌==◌, ◌&&◌, Bool, false, not, List, [], ◌∷◌, ◌++◌, length, Option, Some, None, if◌then◌else◌, nat_le, nat_lt}
use Rattle.std.specs.List.{list_all, list_any}
use Rattle.conda_base.specs.Digits.{is_digit, number_after}

-- text that begins with a byte other than the digit 0
abbrev pub begins_above_zero : List ℕ → Bool
begins_above_zero [] = false
begins_above_zero (byte ∷ bytes) = not (byte == 48)

-- digits with no leading zero, of a number of at most 67108864
abbrev pub is_count : List ℕ → Bool
is_count digits = begins_above_zero digits && list_all is_digit digits && nat_le (number_after 0 digits) 67108864

-- the number that such digits write
abbrev pub count_of : List ℕ → Option ℕ
count_of digits = if is_count digits then Some (number_after 0 digits) else None

-- a line feed
abbrev pub is_feed : ℕ → Bool
is_feed byte = byte == 10

-- a byte more at the front of the first line
abbrev pub onto_first_line : ℕ → List (List ℕ) → List (List ℕ)
onto_first_line byte [] = []
onto_first_line byte (line ∷ lines) = (byte ∷ line) ∷ lines

-- the lines that end in a line feed, which is no part of them
abbrev pub ended_lines : List ℕ → List (List ℕ)
ended_lines [] = []
ended_lines (byte ∷ text) = if is_feed byte then [] ∷ ended_lines text else onto_first_line byte (ended_lines text)

-- what follows the last line feed
abbrev pub last_part : List ℕ → List ℕ
last_part [] = []
last_part (byte ∷ text) = if list_any is_feed (byte ∷ text) then last_part text else byte ∷ text

-- What follows the last line feed is a line where it isn't empty. Where more of the text may come, it is a line
-- only if it has more bytes than any good line.
abbrev pub is_last_line : Bool → List ℕ → Bool
is_last_line more part = nat_lt (if more then 32 else 0) (length part)

-- that line
abbrev pub last_line : Bool → List ℕ → List (List ℕ)
last_line more part = if is_last_line more part then part ∷ [] else []

-- the lines of a text that may be the beginning of a longer one
abbrev pub judged_lines : Bool → List ℕ → List (List ℕ)
judged_lines more text = ended_lines text ++ last_line more (last_part text)
