-- Which holders each line has.
use Rattle.std.specs.Prelude.{ℕ, Bool, ◌+◌, ◌-◌, ◌^◌, ◌<◌, ◌≤◌, ◌==◌, List, length, slice_index_or, slice_set, map, nat_lt, if◌then◌else◌, bit_or, bit_xor}
use Rattle.std.specs.Int.{bit_at}
use Rattle.conda_base.specs.declared.Line.{Line}
use Rattle.mesi_directory.specs.declared.row.Row.{Row}
use Rattle.mesi_directory.specs.declared.row.Row.TheVariants.{Nobody, Owner, Shared}

-- a row's holders, a bit for each: bit h is 1 where holder h has the line
abbrev pub holder_bits : Row → ℕ
holder_bits Nobody = 0
holder_bits (Owner h) = 2 ^ h
holder_bits (Shared bits) = bits

-- holder h has the line
abbrev pub has_holder : Row → ℕ → Bool
has_holder row h = bit_at (holder_bits row) h == 1

-- an owner is below 12; sharers are below 12 too, and there is one at least
abbrev pub IsRow : Row → Type 0
IsRow Nobody = Unit {0}
IsRow (Owner h) = h < 12
IsRow (Shared bits) = (0 < bits) × (bits < 2 ^ 12)

-- h shares the line with those that have it
abbrev pub shared_with : Row → ℕ → Row
shared_with row h = Shared (bit_or (holder_bits row) (2 ^ h))

-- the holders with these bits share the line; without any, nobody has it
abbrev pub sharers : ℕ → Row
sharers bits = if bits == 0 then Nobody else Shared bits

-- h, which has the line, has it no longer
abbrev pub without_holder : Row → ℕ → Row
without_holder row h = sharers (bit_xor (holder_bits row) (2 ^ h))

-- the lowest line, and the row of each line from it on
pub record Rows : Type 0 where
  pub first : ℕ
  pub rows : List Row

-- every row is one of a line
abbrev pub AreRows : List Row → Type 0
AreRows rows = (k : ℕ) → IsRow (slice_index_or rows k Nobody)

-- there is a row for the line
pub record HasRow (d : Rows) (l : Line) : Type 0 where
  pub from : d.first ≤ l.0
  pub below : l.0 < d.first + length d.rows

-- the row of a line
abbrev pub row_of : Rows → Line → Row
row_of d l = slice_index_or d.rows (l.0 - d.first) Nobody

-- another row for a line; every other line keeps its row
abbrev pub with_row : Rows → Line → Row → Rows
with_row d l row = record { first = d.first; rows = slice_set d.rows (l.0 - d.first) row }

-- the row that a number stands for: 0 is Nobody, 1 + h is Owner h, 65536 plus a mask is Shared
abbrev pub unpacked : ℕ → Row
unpacked n = if n == 0 then Nobody else (if nat_lt n 65536 then Owner (n - 1) else Shared (n - 65536))

-- the rows that numbers stand for
abbrev pub unpacked_rows : List ℕ → List Row
unpacked_rows numbers = map unpacked numbers
