-- Bytes that acts store: lists of addresses with the byte stored there, in order.
use Rattle.std.specs.Prelude.{ℕ, zero, suc, ◌+◌, ◌-◌, ◌*◌, ◌/◌, ◌%◌, ◌<◌, ◌≤◌, ◌==◌, ◌||◌, Bool, false, List, [], ◌∷◌, slice_index, slice_set, map, if◌then◌else◌}

-- the stores of a number of `size` bytes, the lowest first
abbrev pub bytes_from : ℕ → ℕ → ℕ → List (ℕ × ℕ)
bytes_from addr zero value = []
bytes_from addr (suc size) value = (addr, value % 256) ∷ bytes_from (suc addr) size (value / 256)

-- stores laid over a memory from this base on, in order
abbrev pub overlay : ℕ → List ℕ → List (ℕ × ℕ) → List ℕ
overlay base memory [] = memory
overlay base memory (store ∷ stores) = overlay base (slice_set memory (store.0 - base) store.1) stores

-- a store into the `room` bytes from `base` on
abbrev pub Inside : ℕ → ℕ → ℕ × ℕ → Type 0
Inside base room store = (base ≤ store.0) × (store.0 < base + room)

-- the byte of a memory at an address
abbrev pub byte_at : ℕ → List ℕ → ℕ → ℕ
byte_at base memory addr = slice_index memory (addr - base)

-- the last byte stored at an address, or else this one
abbrev pub latest : List (ℕ × ℕ) → ℕ → ℕ → ℕ
latest [] addr byte = byte
latest (store ∷ stores) addr byte = latest stores addr (if store.0 == addr then store.1 else byte)

-- the number that `size` bytes from an address on make, by the byte at each address
abbrev pub number_at : (ℕ → ℕ) → ℕ → ℕ → ℕ
number_at byte addr zero = 0
number_at byte addr (suc size) = byte addr + 256 * number_at byte (suc addr) size

-- the addresses of `size` bytes
abbrev pub addresses_from : ℕ → ℕ → List ℕ
addresses_from addr zero = []
addresses_from addr (suc size) = addr ∷ addresses_from (suc addr) size

abbrev pub stored_addresses : List (ℕ × ℕ) → List ℕ
stored_addresses stores = map (λ (store : ℕ × ℕ). store.0) stores

-- a list has this number
abbrev pub is_listed : List ℕ → ℕ → Bool
is_listed [] n = false
is_listed (x ∷ xs) n = (x == n) || is_listed xs n
