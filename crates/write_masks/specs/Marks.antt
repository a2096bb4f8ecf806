-- The marks that an access adds, and those that it asks for.
use Rattle.std.specs.Prelude.{ℕ, Bool, ◌+◌, ◌<◌, ◌≤◌, ◌&&◌, nat_le, nat_lt, IsTrue}
use Rattle.conda_base.specs.Marks.{is_marked}

-- the place is one of the access's bytes
abbrev pub is_within : ℕ → ℕ → ℕ → Bool
is_within offset size place = nat_le offset place && nat_lt place (offset + size)

-- each byte of the access is marked
abbrev pub Covers : ℕ → ℕ → ℕ → Type 0
Covers mask offset size = (place : ℕ) → offset ≤ place → place < offset + size → IsTrue (is_marked mask place)
