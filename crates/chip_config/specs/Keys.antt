-- The keys of a configuration, and what their numbers may be.
use Rattle.std.specs.Prelude.{ℕ, ◌+◌, ◌==◌, ◌&&◌, ◌||◌, ◌%◌, Bool, List, [], ◌∷◌, codes, nat_le}
use Rattle.std.specs.List.{list_any}
use Rattle.std.specs.Str.{bytes_eq}
use Rattle.std.specs.Int.{is_power_of_two}
use Rattle.chip_config.specs.declared.keys.Entry.{Entry}
use Rattle.chip_config.specs.declared.keys.Range.{Range}
use Rattle.chip_config.specs.declared.keys.Range.TheVariants.{Between, PowerUpTo, MultipleOf64, LineSize}

-- a number in a range
abbrev pub within : Range → ℕ → Bool
within (Between low high) n = nat_le low n && nat_le n high
within (PowerUpTo high) n = is_power_of_two n && nat_le n high
within (MultipleOf64 low high) n = (n % 64 == 0) && nat_le low n && nat_le n high
within LineSize n = (n == 32) || (n == 64) || (n == 128)

-- a key: its number, its name, what stands where it is missing, and its range
pub record Key : Type 0 where
  pub number : ℕ
  pub name : List ℕ
  pub default : ℕ
  pub range : Range

abbrev pub key : ℕ → List ℕ → ℕ → Range → Key
key number name default range = record { number = number; name = name; default = default; range = range }

-- the sixteen keys, in the order of their numbers
abbrev pub harts : Key
harts = key 1 (codes "harts") 1 (Between 1 8)

abbrev pub cores : Key
cores = key 2 (codes "cores") 1 (Between 1 4)

abbrev pub mem_base : Key
mem_base = key 3 (codes "mem_base") 0 (MultipleOf64 0 4294967232)

abbrev pub mem_bytes : Key
mem_bytes = key 4 (codes "mem_bytes") 16777216 (MultipleOf64 4096 67108864)

abbrev pub hart_sets : Key
hart_sets = key 5 (codes "hart_sets") 64 (PowerUpTo 256)

abbrev pub hart_ways : Key
hart_ways = key 6 (codes "hart_ways") 8 (Between 1 8)

abbrev pub core_sets : Key
core_sets = key 7 (codes "core_sets") 64 (PowerUpTo 64)

abbrev pub core_ways : Key
core_ways = key 8 (codes "core_ways") 4 (Between 1 8)

abbrev pub sig_bits : Key
sig_bits = key 9 (codes "sig_bits") 9 (Between 1 10)

abbrev pub read_limit : Key
read_limit = key 10 (codes "read_limit") 256 (Between 1 4096)

abbrev pub write_limit : Key
write_limit = key 11 (codes "write_limit") 256 (Between 1 4096)

abbrev pub portion_max : Key
portion_max = key 12 (codes "portion_max") 4096 (Between 1 65536)

abbrev pub out_max : Key
out_max = key 13 (codes "out_max") 64 (Between 1 64)

abbrev pub retries : Key
retries = key 14 (codes "retries") 3 (Between 0 255)

abbrev pub trace_last : Key
trace_last = key 15 (codes "trace_last") 64 (Between 1 65536)

abbrev pub line_bytes : Key
line_bytes = key 16 (codes "line_bytes") 64 LineSize

unfoldable pub keys : List Key
keys =
    harts ∷ cores ∷ mem_base ∷ mem_bytes ∷ hart_sets ∷ hart_ways ∷ core_sets ∷ core_ways ∷ sig_bits
    ∷ read_limit ∷ write_limit ∷ portion_max ∷ out_max ∷ retries ∷ trace_last ∷ line_bytes ∷ []

-- the name of one of them
abbrev pub is_key : List ℕ → Bool
is_key name = list_any (λ k. bytes_eq k.name name) keys

-- keys as the code has them, where the first has this number
abbrev pub keys_from : ℕ → List Entry → List Key
keys_from number [] = []
keys_from number (entry ∷ rest) = key number entry.name.now entry.default entry.range ∷ keys_from (number + 1) rest
