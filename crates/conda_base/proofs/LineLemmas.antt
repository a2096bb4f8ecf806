-- What the layers above use of lines and offsets, so that none of them divides.
use Rattle.std.proofs.Common.{◌≡◌, ℕ, ◌+◌, ◌-◌, ◌*◌, ◌/◌, ◌%◌, ◌<◌, ◌≤◌, ◌⊎◌, inl, inr, ⊎_elim, IsTrue, ◌∙◌, ap, arith, eqb, ◌||◌}
use Rattle.std.proofs.Math.Nat.{div-add-mod', mod-lt}
use Rattle.std.proofs.lemmas.Nat.{div-mul-add, mod-mul-add}
use Rattle.std.proofs.lemmas.Bool.{or_cases, eqb-true}
use Rattle.conda_base.specs.declared.line.Line.{Line}
use Rattle.conda_base.specs.Lines.{IsLineSize, IsAccessSize, IsWhole, IsLineOf, line_number, line_offset}

-- a line is its number
pub line_by_number : (a b : Line) → a.0 ≡ b.0 → a ≡ b
line_by_number a b same = ap (λ n. record { 0 = n }) same

-- one of three tests
one_of_three : (n a b c : ℕ) → IsTrue (eqb n a || eqb n b || eqb n c) → (n ≡ a) ⊎ ((n ≡ b) ⊎ (n ≡ c))
one_of_three n a b c h =
    ⊎_elim (λ front. ⊎_elim (λ e. inl (eqb-true n a e)) (λ e. inr (inl (eqb-true n b e))) (or_cases _ _ front))
    (λ e. inr (inr (eqb-true n c e))) (or_cases _ _ h)

-- the three sizes of a line and of an access
pub line_size_cases : (n : ℕ) → IsLineSize n → (n ≡ 32) ⊎ ((n ≡ 64) ⊎ (n ≡ 128))
line_size_cases n h = one_of_three n 32 64 128 h

pub access_size_cases : (n : ℕ) → IsAccessSize n → (n ≡ 1) ⊎ ((n ≡ 2) ⊎ (n ≡ 4))
access_size_cases n h = one_of_three n 1 2 4 h

pub line_size_bounds : (n : ℕ) → IsLineSize n → (32 ≤ n) × (n ≤ 128)
line_size_bounds n h = let three = line_size_cases n h in grind arith

pub line_size_positive : (n : ℕ) → IsLineSize n → 0 < n
line_size_positive n h = let bounds = line_size_bounds n h in omega arith

-- an address is its line and its offset
pub line_split : (addr n : ℕ) → line_number addr n * n + line_offset addr n ≡ addr
line_split addr n = div-add-mod' addr n

pub offset_below : (addr n : ℕ) → IsLineSize n → line_offset addr n < n
offset_below addr n h = mod-lt addr (line_size_positive n h)

-- the line and the offset of a place in a line
pub line_number_of_place : (l n k : ℕ) → k < n → line_number (l * n + k) n ≡ l
line_number_of_place l n k h = div-mul-add l n k h

pub line_offset_of_place : (l n k : ℕ) → k < n → line_offset (l * n + k) n ≡ k
line_offset_of_place l n k h = mod-mul-add l n k h

-- the bytes of an access
pub line_number-add : (addr k n : ℕ) → line_offset addr n + k < n → line_number (addr + k) n ≡ line_number addr n
line_number-add addr k n h =
    ap (λ a. a / n) (omega (arith, line_split addr n)) ∙ line_number_of_place (line_number addr n) n (line_offset addr n + k) h

-- an aligned access stays in its line
pub access_in_line : (addr size n : ℕ) → IsLineSize n → IsAccessSize size → addr % size ≡ 0 → line_offset addr n + size ≤ n
access_in_line addr size n line access aligned =
    let lines = line_size_cases n line in
    let sizes = access_size_cases size access in
    grind arith

-- memory is whole lines
pub whole_split : (m n : ℕ) → IsWhole m n → m / n * n ≡ m
whole_split m n whole = omega (arith, div-add-mod' m n)

pub line_in_memory : (base bytes n addr : ℕ) → IsLineSize n → IsWhole base n → IsWhole bytes n → base ≤ addr → addr < base + bytes → IsLineOf base bytes n (line_number addr n)
line_in_memory base bytes n addr line whole_base whole_bytes low high =
    let lines = line_size_cases n line in
    record { from = grind arith; below = grind arith }

pub line_bytes_in_memory : (base bytes n l : ℕ) → IsLineSize n → IsWhole base n → IsWhole bytes n → IsLineOf base bytes n l → (base ≤ l * n) × (l * n + n ≤ base + bytes)
line_bytes_in_memory base bytes n l line whole_base whole_bytes within =
    let lines = line_size_cases n line in
    let from = within.from in
    let below = within.below in
    (grind arith, grind arith)

-- the place of an address in memory's list of bytes
pub place_in_memory : (base n addr : ℕ) → IsLineSize n → IsWhole base n → base ≤ addr → (line_number addr n - base / n) * n + line_offset addr n ≡ addr - base
place_in_memory base n addr line whole low =
    let lines = line_size_cases n line in grind arith
