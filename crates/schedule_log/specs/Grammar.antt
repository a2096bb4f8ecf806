-- What one line of a schedule says.
use Rattle.std.specs.Prelude.{ℕ, ◌-◌, ◌==◌, ◌&&◌, ◌||◌, Bool, List, length, take, drop, Option, Some, None, slice_index, if◌then◌else◌, nat_le, nat_lt}
use Rattle.std.specs.List.{list_all}
use Rattle.conda_base.specs.declared.actor.Actor.{Actor}
use Rattle.conda_base.specs.declared.actor.Actor.TheVariants.{Hart, Core}
use Rattle.schedule_log.specs.declared.line.Reading.{Reading}
use Rattle.schedule_log.specs.declared.line.Reading.TheVariants.{Blank, Events, Bad}
use Rattle.conda_base.specs.Digits.{is_digit}
use Rattle.schedule_log.specs.Schedule.{count_of}

-- a carriage return at the end
abbrev pub ends_in_return : List ℕ → Bool
ends_in_return line = slice_index line (length line - 1) == 13

-- a line without the one carriage return at its end
abbrev pub without_return : List ℕ → List ℕ
without_return line = if ends_in_return line then take (length line - 1) line else line

-- h or n
abbrev pub is_actor_letter : ℕ → Bool
is_actor_letter byte = (byte == 104) || (byte == 110)

-- h or n, one digit, one space, and one or more digits
abbrev pub has_form : List ℕ → Bool
has_form text =
    nat_le 4 (length text) && is_actor_letter (slice_index text 0) && is_digit (slice_index text 1)
    && (slice_index text 2 == 32) && list_all is_digit (drop 3 text)

-- the hart or core that a letter and a digit name
abbrev pub actor_of : ℕ → ℕ → Actor
actor_of letter digit = if letter == 104 then Hart (digit - 48) else Core (digit - 48)

-- an actor of a chip with so many harts and cores
abbrev pub is_on_chip : ℕ → ℕ → Actor → Bool
is_on_chip harts cores (Hart h) = nat_lt h harts
is_on_chip harts cores (Core j) = nat_lt j cores

-- an actor and the count that stands after it: why 2 is a bad count, and why 3 an actor that the chip hasn't
abbrev pub counted : ℕ → ℕ → Actor → Option ℕ → Reading
counted harts cores actor None = Bad 2
counted harts cores actor (Some count) = if is_on_chip harts cores actor then Events actor count else Bad 3

-- a text of the form of a line; why 1 is another form
abbrev pub worded : ℕ → ℕ → List ℕ → Reading
worded harts cores text =
    if has_form text
    then counted harts cores (actor_of (slice_index text 0) (slice_index text 1)) (count_of (drop 3 text))
    else Bad 1

-- a text with nothing in it is passed over
abbrev pub blank_or_worded : ℕ → ℕ → List ℕ → Reading
blank_or_worded harts cores text = if length text == 0 then Blank else worded harts cores text

-- What a line says to a chip with so many harts and cores. Why 4 is more than 32 bytes, a carriage return counted.
abbrev pub reading : ℕ → ℕ → List ℕ → Reading
reading harts cores line = if nat_lt 32 (length line) then Bad 4 else blank_or_worded harts cores (without_return line)
