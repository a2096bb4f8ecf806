-- The bytes of a number.
use Rattle.std.proofs.Common.{◌≡◌, ℕ, ◌≤◌, length, take, arith}
use Rattle.std.specs.Int.{to_le_bytes, w32}
use Rattle.std.proofs.lemmas.List.{length-take-le}
use Rattle.conda_base.specs.Lines.{IsAccessSize}
use Rattle.conda_base.proofs.LineLemmas.{access_size_cases}

-- an access stores as many bytes as it has
pub length-low_bytes : (size value : ℕ) → IsAccessSize size → length (take size (to_le_bytes w32 value)) ≡ size
length-low_bytes size value access =
    let sizes = access_size_cases size access in
    let few : size ≤ 4 = grind arith in
    length-take-le size (to_le_bytes w32 value) few
