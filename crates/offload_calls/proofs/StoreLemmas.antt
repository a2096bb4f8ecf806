-- Stores laid over memory, and what is read there.
use Rattle.std.proofs.Common.{◌≡◌, ◌≢◌, ℕ, zero, suc, ◌+◌, ◌-◌, ◌*◌, ◌/◌, ◌%◌, ◌<◌, ◌≤◌, Bool, true, false, ◌||◌, cond, eqb, List, [], ◌∷◌, ◌++◌, length, set, get_or, take, drop, refl, sym, ap, ◌∙◌, arith, append_assoc, add-zero, ⊎_elim, length-set}
use Rattle.std.specs.Prelude.{All}
use Rattle.std.specs.Int.{to_le_bytes, w32}
use Rattle.std.proofs.Math.Seq.{drop-cons, take-suc-set}
use Rattle.std.proofs.Math.Nat.{div-div-eq-div-mul}
use Rattle.std.proofs.lemmas.Bool.{eqb-true, eqb-false, or_parts, false≢true}
use Rattle.std.proofs.lemmas.List.{drop-set-lt, take-append-drop, append-nil, get_or-set_same, get_or-set_other}
use Rattle.std.proofs.lemmas.List.Elements.{All-nil, All-cons, All-head, All-tail}
use Rattle.conda_base.specs.Bytes.{stored, value_at, number_of}
use Rattle.conda_base.specs.Lines.{IsAccessSize}
use Rattle.conda_base.proofs.LineLemmas.{access_size_cases}
use Rattle.offload_calls.specs.Stores.{Inside, bytes_from, overlay, byte_at, latest, number_at, stored_addresses, is_listed}

-- ---- the bytes of a number

low_bytes : ℕ → ℕ → List ℕ
low_bytes zero value = []
low_bytes (suc size) value = value % 256 ∷ low_bytes size (value / 256)

four_bytes : (value : ℕ) → low_bytes 4 value ≡ take 4 (to_le_bytes w32 value)
unfolding low_bytes
four_bytes value =
    let second : value / 256 / 256 ≡ value / 65536 = div-div-eq-div-mul value 256 256 in
    let third : value / 256 / 256 / 256 ≡ value / 16777216 = ap (λ n. n / 256) second ∙ div-div-eq-div-mul value 65536 256 in
    rw (third, second) refl

low_bytes-le : (size value : ℕ) → IsAccessSize size → low_bytes size value ≡ take size (to_le_bytes w32 value)
unfolding low_bytes
low_bytes-le size value access =
    ⊎_elim (λ one. rw one refl) (λ more. ⊎_elim (λ two. rw two refl) (λ four. rw four (four_bytes value)) more)
    (access_size_cases size access)

-- a number stored over memory
overlay-bytes : (base : ℕ) (memory : List ℕ) (addr place size value : ℕ) → addr ≡ base + place → place + size ≤ length memory
    → overlay base memory (bytes_from addr size value) ≡ take place memory ++ low_bytes size value ++ drop (place + size) memory
unfolding low_bytes
overlay-bytes base memory addr place zero value at room =
    sym (rw (append-nil, add-zero) (take-append-drop place memory))
overlay-bytes base memory addr place (suc size) value at room =
    let byte : ℕ = value % 256 in
    let new : List ℕ = set memory place byte in
    let long : length new ≡ length memory = length-set memory place byte in
    let here : set memory (addr - base) byte ≡ new = ap (λ k. set memory k byte) (omega arith) in
    let rest = overlay-bytes base new (suc addr) (suc place) size (value / 256) (omega arith) (omega arith) in
    let front : take (suc place) new ≡ take place memory ++ byte ∷ [] = take-suc-set memory place byte (omega arith) in
    let back : drop (suc place + size) new ≡ drop (place + suc size) memory =
    drop-set-lt (suc place + size) memory place byte (omega arith) ∙ ap (λ k. drop k memory) (omega arith) in
    ap (λ m. overlay base m (bytes_from (suc addr) size (value / 256))) here ∙ rest
    ∙ ap (λ xs. xs ++ low_bytes size (value / 256) ++ drop (suc place + size) new) front
    ∙ ap (λ xs. take place memory ++ byte ∷ [] ++ low_bytes size (value / 256) ++ xs) back
    ∙ ap (λ xs. xs ++ drop (place + suc size) memory) (append_assoc (take place memory) (byte ∷ []) (low_bytes size (value / 256)))

-- a number stored in memory's bytes
pub overlay-stored : (base : ℕ) (memory : List ℕ) (addr size value : ℕ) → IsAccessSize size → base ≤ addr → addr + size ≤ base + length memory
    → overlay base memory (bytes_from addr size value) ≡ stored memory (addr - base) size value
overlay-stored base memory addr size value access low high =
    overlay-bytes base memory addr (addr - base) size value (omega arith) (omega arith)
    ∙ ap (λ xs. take (addr - base) memory ++ xs ++ drop (addr - base + size) memory) (low_bytes-le size value access)

pub length-overlay : (base : ℕ) (memory : List ℕ) (stores : List (ℕ × ℕ)) → length (overlay base memory stores) ≡ length memory
length-overlay base memory [] = refl
length-overlay base memory (store ∷ stores) =
    length-overlay base (set memory (store.0 - base) store.1) stores ∙ length-set memory (store.0 - base) store.1

-- ---- what is read

number_at-place : (base : ℕ) (memory : List ℕ) (addr place size : ℕ) → addr ≡ base + place → place + size ≤ length memory
    → number_at (byte_at base memory) addr size ≡ value_at memory place size
number_at-place base memory addr place zero at room = refl
number_at-place base memory addr place (suc size) at room =
    let here : drop place memory ≡ get_or memory place 0 ∷ drop (suc place) memory = drop-cons memory place 0 (omega arith) in
    let byte : byte_at base memory addr ≡ get_or memory place 0 = ap (λ k. get_or memory k 0) (omega arith) in
    let rest = number_at-place base memory (suc addr) (suc place) size (omega arith) (omega arith) in
    ap (λ n. n + 256 * number_at (byte_at base memory) (suc addr) size) byte
    ∙ ap (λ n. get_or memory place 0 + 256 * n) rest
    ∙ sym (ap (λ xs. number_of (take (suc size) xs)) here)

-- an aligned value that memory holds
pub number_at-memory : (base : ℕ) (memory : List ℕ) (addr size : ℕ) → base ≤ addr → addr + size ≤ base + length memory
    → number_at (byte_at base memory) addr size ≡ value_at memory (addr - base) size
number_at-memory base memory addr size low high =
    number_at-place base memory addr (addr - base) size (omega arith) (omega arith)

-- ---- bytes of memory after stores

byte_at-set : (base : ℕ) (memory : List ℕ) (place byte addr : ℕ) → base ≤ place → place < base + length memory → base ≤ addr
    → byte_at base (set memory (place - base) byte) addr ≡ cond (eqb place addr) byte (byte_at base memory addr)
byte_at-set base memory place byte addr low high from = go (eqb place addr) refl
  where
    go : (b : Bool) → eqb place addr ≡ b → byte_at base (set memory (place - base) byte) addr ≡ cond b byte (byte_at base memory addr)
    go true e =
        let same : place ≡ addr = eqb-true place addr e in
        let here : addr - base ≡ place - base = ap (λ k. k - base) (sym same) in
        ap (λ k. get_or (set memory (place - base) byte) k 0) here ∙ get_or-set_same memory (place - base) byte 0 (omega arith)
    go false e =
        let other : place ≢ addr = eqb-false place addr e in
        get_or-set_other memory (place - base) (addr - base) byte 0 (λ same. other (omega arith))

-- the byte at an address is the last one stored there, or the byte before
pub byte_at-overlay : (base : ℕ) (memory : List ℕ) (stores : List (ℕ × ℕ)) (addr : ℕ) → All (Inside base (length memory)) stores → base ≤ addr
    → byte_at base (overlay base memory stores) addr ≡ latest stores addr (byte_at base memory addr)
byte_at-overlay base memory [] addr inside from = refl
byte_at-overlay base memory (store ∷ stores) addr inside from =
    let new : List ℕ = set memory (store.0 - base) store.1 in
    let here : Inside base (length memory) store = All-head (Inside base (length memory)) store stores inside in
    let rest : All (Inside base (length memory)) stores = All-tail (Inside base (length memory)) store stores inside in
    byte_at-overlay base new stores addr (rw length-set rest) from
    ∙ ap (latest stores addr) (byte_at-set base memory store.0 store.1 addr here.0 here.1 from)

-- an address that isn't among the stored ones keeps its byte
pub latest-elsewhere : (stores : List (ℕ × ℕ)) (addr byte : ℕ) → is_listed (stored_addresses stores) addr ≡ false → latest stores addr byte ≡ byte
latest-elsewhere [] addr byte other = refl
latest-elsewhere (store ∷ stores) addr byte other =
    let parts = or_parts (eqb store.0 addr) (is_listed (stored_addresses stores) addr) other in
    ap (λ b. latest stores addr (cond b store.1 byte)) parts.0 ∙ latest-elsewhere stores addr byte parts.1

-- and one that is keeps none of what is below it
pub latest_stored : (stores : List (ℕ × ℕ)) (addr x y : ℕ) → is_listed (stored_addresses stores) addr ≡ true → latest stores addr x ≡ latest stores addr y
latest_stored [] addr x y there = absurd (false≢true there)
latest_stored (store ∷ stores) addr x y there = go (eqb store.0 addr) there (latest_stored stores addr x y)
  where
    go : (b : Bool) → (b || is_listed (stored_addresses stores) addr) ≡ true
        → (is_listed (stored_addresses stores) addr ≡ true → latest stores addr x ≡ latest stores addr y)
        → latest stores addr (cond b store.1 x) ≡ latest stores addr (cond b store.1 y)
    go true there rest = refl
    go false there rest = rest there

-- ---- stores behind stores

pub overlay-append : (base : ℕ) (memory : List ℕ) (stores more : List (ℕ × ℕ)) → overlay base memory (stores ++ more) ≡ overlay base (overlay base memory stores) more
overlay-append base memory [] more = refl
overlay-append base memory (store ∷ stores) more = overlay-append base (set memory (store.0 - base) store.1) stores more

pub latest-append : (stores more : List (ℕ × ℕ)) (addr byte : ℕ) → latest (stores ++ more) addr byte ≡ latest more addr (latest stores addr byte)
latest-append [] more addr byte = refl
latest-append (store ∷ stores) more addr byte = latest-append stores more addr (cond (eqb store.0 addr) store.1 byte)

-- ---- the bytes of a number

pub bytes_from-inside : (base room addr size value : ℕ) → base ≤ addr → addr + size ≤ base + room → All (Inside base room) (bytes_from addr size value)
bytes_from-inside base room addr zero value low high = All-nil (Inside base room)
bytes_from-inside base room addr (suc size) value low high =
    All-cons (Inside base room) (addr, value % 256) (bytes_from (suc addr) size (value / 256)) (low, omega arith)
    (bytes_from-inside base room (suc addr) size (value / 256) (omega arith) (omega arith))

-- two readers that agree on a span read one number there
pub number_at-same : (f g : ℕ → ℕ) (addr size : ℕ) → ((x : ℕ) → addr ≤ x → x < addr + size → f x ≡ g x) → number_at f addr size ≡ number_at g addr size
number_at-same f g addr zero same = refl
number_at-same f g addr (suc size) same =
    let here : f addr ≡ g addr = same addr (omega arith) (omega arith) in
    let rest : number_at f (suc addr) size ≡ number_at g (suc addr) size = number_at-same f g (suc addr) size (λ x low high. same x (omega arith) (omega arith)) in
    cc
