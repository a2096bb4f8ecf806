-- What a text says, read line by line.
use Rattle.std.specs.Prelude.{ℕ, ◌+◌, ◌^◌, List, [], ◌∷◌, map, Option, Some, None, nat_lt, nat_eq, if◌then◌else◌}
use Rattle.rv32_asm.specs.Pieces.{text_lines}
use Rattle.rv32_asm.specs.Reading.{line_in}
use Rattle.conda_base.specs.Digits.{number_after}
use Rattle.rv32_asm.specs.Assembled.{Source}

unfoldable pub source_in : List ℕ → Source
source_in text = map line_in (text_lines text)

-- the length of a text's first line
abbrev pub line_len : List ℕ → ℕ
line_len [] = 0
line_len (byte ∷ text) = if nat_eq byte 10 then 0 else line_len text + 1

-- an address that is known, or that of what follows
abbrev pub address_or : Option ℕ → ℕ → ℕ
address_or None later = later
address_or (Some address) later = address

-- a number below 2 ^ 32
abbrev pub word_in_digits : List ℕ → Option ℕ
word_in_digits digits = if nat_lt (number_after 0 digits) (2 ^ 32) then Some (number_after 0 digits) else None
