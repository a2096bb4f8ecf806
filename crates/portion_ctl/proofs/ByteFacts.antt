-- The bytes of numbers that a try stores and reads.
use Rattle.std.proofs.Common.{◌≡◌, ℕ, zero, suc, ◌+◌, ◌-◌, ◌/◌, ◌<◌, ◌≤◌, List, length, get_or, sym, ap, ◌∙◌, arith}
use Rattle.std.proofs.lemmas.Bool.Decides.{nat_tests}
use Rattle.conda_base.specs.Lines.{IsAccessSize}
use Rattle.conda_base.specs.Bytes.{stored, value_at}
use Rattle.write_masks.specs.Marks.{is_within}
use Rattle.offload_calls.specs.Stores.{bytes_from, latest, number_at, byte_at, overlay}
use Rattle.try_runs.specs.Tries.{is_stored}
use Rattle.offload_calls.proofs.StoreLemmas.{byte_at-overlay, bytes_from-inside, number_at-memory, number_at-same, overlay-stored}

-- the bytes of a number
pub is_stored-bytes : (addr size value a : ℕ) → is_stored (bytes_from addr size value) a ≡ is_within addr size a
is_stored-bytes addr zero value a = grind (arith, nat_tests)
is_stored-bytes addr (suc size) value a =
    let rest = is_stored-bytes (suc addr) size (value / 256) a in
    rw rest (grind (arith, nat_tests))

-- a byte of a list with a number stored at a place
pub get_or-stored : (bytes : List ℕ) (base place size value k : ℕ) → IsAccessSize size → place + size ≤ length bytes
    → get_or (stored bytes place size value) k 0 ≡ latest (bytes_from (base + place) size value) (base + k) (get_or bytes k 0)
get_or-stored bytes base place size value k access room =
    let at : base + place - base ≡ place = omega arith in
    let back : base + k - base ≡ k = omega arith in
    let over : overlay base bytes (bytes_from (base + place) size value) ≡ stored bytes place size value =
    overlay-stored base bytes (base + place) size value access (omega arith) (omega arith) ∙ ap (λ p. stored bytes p size value) at in
    let byte = byte_at-overlay base bytes (bytes_from (base + place) size value) (base + k) (bytes_from-inside base (length bytes) (base + place) size value (omega arith) (omega arith)) (omega arith) in
    ap (λ xs. get_or xs k 0) (sym over)
    ∙ ap (λ i. get_or (overlay base bytes (bytes_from (base + place) size value)) i 0) (sym back)
    ∙ byte
    ∙ ap (λ i. latest (bytes_from (base + place) size value) (base + k) (get_or bytes i 0)) back

-- the number at a place of a list, by a reader that has its bytes from an address on
pub value_at-reader : (bytes : List ℕ) (byte : ℕ → ℕ) (base place size : ℕ) → place + size ≤ length bytes
    → ((k : ℕ) → place ≤ k → k < place + size → get_or bytes k 0 ≡ byte (base + k))
    → value_at bytes place size ≡ number_at byte (base + place) size
value_at-reader bytes byte base place size room same =
    let at : base + place - base ≡ place = omega arith in
    sym (number_at-memory base bytes (base + place) size (omega arith) (omega arith) ∙ ap (λ p. value_at bytes p size) at)
    ∙ number_at-same (byte_at base bytes) byte (base + place) size
    (λ x low high.
    let there : base + (x - base) ≡ x = omega arith in
    same (x - base) (omega arith) (omega arith) ∙ ap byte there)
