-- Numbers and lines in a list of bytes, the lowest byte first.
use Rattle.std.specs.Prelude.{ℕ, ◌+◌, ◌-◌, ◌*◌, List, [], ◌∷◌, ◌++◌, take, drop, length, replicate, if◌then◌else◌, nat_le}
use Rattle.std.specs.Int.{to_le_bytes, w32}

-- the bytes with the low `size` bytes of the value at `offset`, the lowest first
abbrev pub stored : List ℕ → ℕ → ℕ → ℕ → List ℕ
stored bytes offset size value = take offset bytes ++ take size (to_le_bytes w32 value) ++ drop (offset + size) bytes

-- a number by its bytes, the lowest first
abbrev pub number_of : List ℕ → ℕ
number_of [] = 0
number_of (byte ∷ bytes) = byte + 256 * number_of bytes

-- the number whose `size` bytes stand at `offset`
abbrev pub value_at : List ℕ → ℕ → ℕ → ℕ
value_at bytes offset size = number_of (take size (drop offset bytes))

-- the bytes of line l in a memory from this base on; a line below the base has none
abbrev pub bytes_of_line : ℕ → ℕ → List ℕ → ℕ → List ℕ
bytes_of_line base line_bytes memory l =
    if nat_le base (l * line_bytes) then take line_bytes (drop (l * line_bytes - base) memory) else []

-- a line's bytes in a buffer of 128, with zeros after them
abbrev pub handed_out : List ℕ → List ℕ
handed_out bytes = bytes ++ replicate (128 - length bytes) 0
