-- Writes to the first items of a list.
use Rattle.std.proofs.Common.{◌≡◌, ◌<◌, ℕ, List, length, take, set, arith}
use Rattle.std.proofs.lemmas.List.{length-take}
use Rattle.std.proofs.Math.Seq.{take-set-lt}

pub take-set_in_list : (n : ℕ) (list : List ℕ) (i value : ℕ) → i < length (take n list) → take n (set list i value) ≡ set (take n list) i value
take-set_in_list n list i value within =
    let len = length-take n list in
    take-set-lt n list i value (grind arith)
