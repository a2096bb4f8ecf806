-- What JSON data says as a configuration.
use Rattle.std.specs.Prelude.{◌≡◌, ℕ, ◌+◌, ◌%◌, ◌^◌, ◌≤◌, ◌==◌, ◌&&◌, Bool, true, List, [], ◌∷◌, map, slice_index, IsTrue, Option, Some, None, is_some, unwrap_or, option_and_then, Result, Ok, Err, if◌then◌else◌, nat_le}
use Rattle.std.specs.Int.{is_power_of_two}
use Rattle.std.specs.Str.{is_utf8}
use Rattle.conda_base.specs.Lines.{IsLineSize}
use Rattle.serde_json.specs.Data.{Data, Members, no_members, member}
use Rattle.serde_json.specs.Find.{get, as_number, as_object, as_u64}
use Rattle.serde_json.specs.Read.{read as read_text}
use Rattle.chip_config.specs.declared.config.Config.{Config}
use Rattle.chip_config.specs.declared.fault.ConfigFault.{ConfigFault}
use Rattle.chip_config.specs.declared.fault.ConfigFault.TheVariants.{NotJson, NotObject, UnknownKey, NotNumber, OutOfRange, BadMemory}
use Rattle.chip_config.specs.Keys.{Key, is_key, keys, within}

-- what a configuration sets, by its keys
pub record Settings : Type 0 where
  pub harts : ℕ
  pub cores : ℕ
  pub mem_base : ℕ
  pub mem_bytes : ℕ
  pub hart_sets : ℕ
  pub hart_ways : ℕ
  pub core_sets : ℕ
  pub core_ways : ℕ
  pub sig_bits : ℕ
  pub read_limit : ℕ
  pub write_limit : ℕ
  pub portion_max : ℕ
  pub out_max : ℕ
  pub retries : ℕ
  pub trace_last : ℕ
  pub line_bytes : ℕ

abbrev pub settings : Config → Settings
settings c = record {
  harts = c.harts;
  cores = c.cores;
  mem_base = c.mem_base;
  mem_bytes = c.mem_bytes;
  hart_sets = c.hart_sets;
  hart_ways = c.hart_ways;
  core_sets = c.core_sets;
  core_ways = c.core_ways;
  sig_bits = c.sig_bits;
  read_limit = c.read_limit;
  write_limit = c.write_limit;
  portion_max = c.portion_max;
  out_max = c.out_max;
  retries = c.retries;
  trace_last = c.trace_last;
  line_bytes = c.line_bytes;
}

-- numbers in the order of the keys, and what they set
abbrev pub settings_at : List ℕ → Settings
settings_at numbers = record {
  harts = slice_index numbers 0;
  cores = slice_index numbers 1;
  mem_base = slice_index numbers 2;
  mem_bytes = slice_index numbers 3;
  hart_sets = slice_index numbers 4;
  hart_ways = slice_index numbers 5;
  core_sets = slice_index numbers 6;
  core_ways = slice_index numbers 7;
  sig_bits = slice_index numbers 8;
  read_limit = slice_index numbers 9;
  write_limit = slice_index numbers 10;
  portion_max = slice_index numbers 11;
  out_max = slice_index numbers 12;
  retries = slice_index numbers 13;
  trace_last = slice_index numbers 14;
  line_bytes = slice_index numbers 15;
}

-- what is set where every key is missing
abbrev pub plain_settings : Settings
plain_settings = settings_at (map (λ k. k.default) keys)

-- the number that stands for a key: its default where it is missing, and none where its value is no whole number
abbrev pub number_or : ℕ → Option Data → Option ℕ
number_or default None = Some default
number_or default (Some found) = option_and_then as_u64 (as_number found)

abbrev pub key_number : Data → Key → Option ℕ
key_number value k = number_or k.default (get k.name value)

-- the same, where every key has a number
abbrev pub number_at_key : Data → Key → ℕ
number_at_key value k = unwrap_or (key_number value k) 0

-- every key of an object is one of the sixteen
abbrev pub are_keys : Members → Bool
are_keys no_members = true
are_keys (member name of_name rest) = is_key name && are_keys rest

-- the first of these keys that has no number
abbrev pub first_without : Data → List Key → Option ConfigFault
first_without value [] = None
first_without value (k ∷ rest) =
    if is_some (key_number value k) then first_without value rest else Some (NotNumber k.number)

-- the numbers of the keys
abbrev pub numbers_of : Data → List ℕ
numbers_of value = map (number_at_key value) keys

-- the first of these keys whose number, of those beside them, is out of its range
abbrev pub first_outside : List Key → List ℕ → Option ConfigFault
first_outside [] numbers = None
first_outside (k ∷ rest) [] = None
first_outside (k ∷ rest) (n ∷ numbers) =
    if within k.range n then first_outside rest numbers else Some (OutOfRange k.number n)

-- memory ends by 2 ^ 32, and is a whole number of lines
abbrev pub is_memory : Settings → Bool
is_memory s =
    nat_le (s.mem_base + s.mem_bytes) 4294967296
    && (s.mem_base % s.line_bytes == 0) && (s.mem_bytes % s.line_bytes == 0)

abbrev pub memory_fault : Settings → Option ConfigFault
memory_fault s = if is_memory s then None else Some (BadMemory s.mem_base s.mem_bytes)

-- the first fault of two
abbrev pub or_else : Option ConfigFault → Option ConfigFault → Option ConfigFault
or_else None later = later
or_else (Some fault) later = Some fault

-- what data sets, by the places of the keys
abbrev pub settings_in : Data → Settings
settings_in value = settings_at (numbers_of value)

-- the first fault of numbers: one out of its key's range, or a bad memory
abbrev pub numbers_fault : Data → Option ConfigFault
numbers_fault value =
    or_else (first_outside keys (numbers_of value)) (memory_fault (settings_in value))

-- the first fault of an object's members
abbrev pub members_fault : Data → Members → Option ConfigFault
members_fault value members =
    if are_keys members then or_else (first_without value keys) (numbers_fault value)
    else Some UnknownKey

abbrev pub object_fault : Data → Option Members → Option ConfigFault
object_fault value None = Some NotObject
object_fault value (Some members) = members_fault value members

-- the first fault of value
abbrev pub data_fault : Data → Option ConfigFault
data_fault value = object_fault value (as_object value)

-- settings, unless there is a fault
abbrev pub unless_fault : Option ConfigFault → Settings → Result Settings ConfigFault
unless_fault None set = Ok set
unless_fault (Some fault) set = Err fault

abbrev pub settings_of : Data → Result Settings ConfigFault
settings_of value = unless_fault (data_fault value) (settings_in value)

-- the data that bytes are, if they are UTF-8 text of one JSON value
abbrev pub data_of : List ℕ → Option Data
data_of bytes = if is_utf8 bytes then read_text bytes else None

abbrev pub settings_or_not_json : Option Data → Result Settings ConfigFault
settings_or_not_json None = Err NotJson
settings_or_not_json (Some value) = settings_of value

-- what bytes set, or the first fault of the bytes
unfoldable pub configured : List ℕ → Result Settings ConfigFault
configured bytes = settings_or_not_json (data_of bytes)

-- each number is in its key's range
pub record AreRanged (s : Settings) : Type 0 where
  pub harts : (1 ≤ s.harts) × (s.harts ≤ 8)
  pub cores : (1 ≤ s.cores) × (s.cores ≤ 4)
  pub mem_base : (s.mem_base % 64 ≡ 0) × (s.mem_base ≤ 4294967232)
  pub mem_bytes : (s.mem_bytes % 64 ≡ 0) × (4096 ≤ s.mem_bytes) × (s.mem_bytes ≤ 67108864)
  pub hart_sets : IsTrue (is_power_of_two s.hart_sets) × (1 ≤ s.hart_sets) × (s.hart_sets ≤ 256)
  pub hart_ways : (1 ≤ s.hart_ways) × (s.hart_ways ≤ 8)
  pub core_sets : IsTrue (is_power_of_two s.core_sets) × (1 ≤ s.core_sets) × (s.core_sets ≤ 64)
  pub core_ways : (1 ≤ s.core_ways) × (s.core_ways ≤ 8)
  pub sig_bits : (1 ≤ s.sig_bits) × (s.sig_bits ≤ 10)
  pub read_limit : (1 ≤ s.read_limit) × (s.read_limit ≤ 4096)
  pub write_limit : (1 ≤ s.write_limit) × (s.write_limit ≤ 4096)
  pub portion_max : (1 ≤ s.portion_max) × (s.portion_max ≤ 65536)
  pub out_max : (1 ≤ s.out_max) × (s.out_max ≤ 64)
  pub retries : s.retries ≤ 255
  pub trace_last : (1 ≤ s.trace_last) × (s.trace_last ≤ 65536)
  pub line_bytes : IsLineSize s.line_bytes

-- they are a chip's: each is in its range, and memory is a whole number of lines below 2 ^ 32
pub record IsAccepted (s : Settings) : Type 0 where
  pub ranged : AreRanged s
  pub ends : s.mem_base + s.mem_bytes ≤ 2 ^ 32
  pub whole_base : s.mem_base % s.line_bytes ≡ 0
  pub whole_bytes : s.mem_bytes % s.line_bytes ≡ 0
