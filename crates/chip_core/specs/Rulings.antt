-- What open tries are told of a commit.
use Rattle.std.specs.Prelude.{ℕ, ◌≡◌, List, map}
use Rattle.bloom_sig.specs.Signatures.{Sets, joined}
use Rattle.chip_core.specs.declared.stage.Stage.{Stage}
use Rattle.chip_core.specs.declared.stage.Stage.TheVariants as Stage_is

-- an open try's foreign sets have so many bits
abbrev pub HasBits : ℕ → Stage → Type 0
HasBits bits (Stage_is.Ready s) = Unit {0}
HasBits bits (Stage_is.Open s) = bits ≡ s.limits.sig_bits
HasBits bits (Stage_is.Flushing s) = Unit {0}
HasBits bits Stage_is.Moved = Unit {0}

abbrev pub joined_portion : Sets → Stage → Stage
joined_portion sets (Stage_is.Ready s) = Stage_is.Ready s
joined_portion sets (Stage_is.Open s) =
    Stage_is.Open (record s { foreign_set = joined s.foreign_set sets })
joined_portion sets (Stage_is.Flushing s) = Stage_is.Flushing s
joined_portion sets Stage_is.Moved = Stage_is.Moved

-- every open try takes note of these sets
abbrev pub all_joined : Sets → List Stage → List Stage
all_joined sets portions = map (joined_portion sets) portions
