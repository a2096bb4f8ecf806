-- A holder's bit in a row, and one line's row in a directory.
use Rattle.std.proofs.Common.{◌≡◌, ◌≢◌, ℕ, false, suc, zero, ◌-◌, ◌*◌, ◌%◌, ◌^◌, ◌<◌, ◌≤◌, ◌⊎◌, ⊎_elim, eqb, IsTrue, sym, ◌∙◌, ap, refl, inl, inr, arith, List, [], ◌∷◌, length, get_or, set, replicate}
use Rattle.std.specs.Prelude.{bit_or, bit_xor, ◌||◌, ◌&&◌, ◌==◌, not}
use Rattle.std.specs.Int.{bit_at}
use Rattle.std.proofs.lemmas.Nat.{pow_below, pow_pos, or_lt, xor_lt, one_shl}
use Rattle.std.proofs.lemmas.Nat.Bits.{bit_at_or, bit_at_xor, bit_at-lt, bit_at-zero, bit_at-pow_same, bit_at-pow_other, bit_at_above}
use Rattle.std.proofs.lemmas.Bool.{cases_eq, cases_lt, cases_Bool, eqb-true}
use Rattle.std.proofs.lemmas.Bool.Decides.{nat_tests}
use Rattle.std.proofs.lemmas.List.{get_or-set_same, get_or-set_other, map-set}
use Rattle.std.proofs.lemmas.List.{get_or-map as get_or-map_within}
use Rattle.conda_base.specs.declared.Line.{Line}
use Rattle.mesi_directory.specs.declared.row.Row.{Row}
use Rattle.mesi_directory.specs.declared.row.Row.TheVariants.{Nobody, Owner, Shared}
use Rattle.mesi_directory.specs.Rows.{Rows, HasRow, row_of, with_row, holder_bits, has_holder, IsRow, shared_with, sharers, without_holder, AreRows, unpacked, unpacked_rows}

-- the bit of one holder, at each place
bit_at_pow : (h k : ℕ) → ((k ≡ h) × (bit_at (2 ^ h) k ≡ 1)) ⊎ ((k ≢ h) × (bit_at (2 ^ h) k ≡ 0))
bit_at_pow h k =
    ⊎_elim (λ (same : k ≡ h). inl (same, rw same (bit_at-pow_same h)))
    (λ (apart : k ≢ h). inr (apart, bit_at-pow_other h k apart)) (cases_eq k h)

-- the only holder of a line with an owner is the owner
pub has-owner : (h k : ℕ) → has_holder (Owner h) k ≡ (k == h)
has-owner h k = let place = bit_at_pow h k in grind (arith, nat_tests)

pub bits_below : (row : Row) → IsRow row → holder_bits row < 2 ^ 12
bits_below Nobody is = pow_pos 12
bits_below (Owner h) is = pow_below h 12 is
bits_below (Shared bits) is = is.1

-- a bit that is set makes a number positive
some_bit : (n k : ℕ) → bit_at n k ≡ 1 → 0 < n
some_bit zero k one = absurd (omega (arith, bit_at-zero k))
some_bit (suc n) k one = omega arith

pub IsRow-shared_with : (row : Row) (h : ℕ) → IsRow row → h < 12 → IsRow (shared_with row h)
IsRow-shared_with row h is small = (
  some_bit (bit_or (holder_bits row) (2 ^ h)) h (omega (arith, bit_at_or (holder_bits row) (2 ^ h) h, bit_at-pow_same h, bit_at-lt (holder_bits row) h)),
  or_lt 12 (holder_bits row) (2 ^ h) (bits_below row is) (pow_below h 12 small),
)

pub has-shared_with : (row : Row) (h k : ℕ) → has_holder (shared_with row h) k ≡ (has_holder row k || k == h)
has-shared_with row h k =
    let place = bit_at_pow h k in
    let joined = bit_at_or (holder_bits row) (2 ^ h) k in
    let small = bit_at-lt (holder_bits row) k in
    grind (arith, nat_tests)

-- a row of sharers has those bits
pub bits_of_sharers : (bits : ℕ) → holder_bits (sharers bits) ≡ bits
bits_of_sharers bits =
    ⊎_elim (λ none. rw none (sym (eqb-true bits 0 none))) (λ some. rw some refl) (cases_Bool (eqb bits 0))

pub IsRow-sharers : (bits : ℕ) → bits < 2 ^ 12 → IsRow (sharers bits)
IsRow-sharers bits small =
    ⊎_elim (λ none. rw none tt)
    (λ (some : eqb bits 0 ≡ false). rw some (grind (arith, nat_tests), small)) (cases_Bool (eqb bits 0))

pub IsRow-without : (row : Row) (h : ℕ) → IsRow row → h < 12 → IsRow (without_holder row h)
IsRow-without row h is small =
    IsRow-sharers (bit_xor (holder_bits row) (2 ^ h)) (xor_lt 12 (holder_bits row) (2 ^ h) (bits_below row is) (pow_below h 12 small))

has-toggled : (bits h k : ℕ) → bit_at bits h ≡ 1 → eqb (bit_at (bit_xor bits (2 ^ h)) k) 1 ≡ (eqb (bit_at bits k) 1 && not (eqb k h))
has-toggled bits h k one =
    let toggled = bit_at_xor bits (2 ^ h) k in
    let small = bit_at-lt bits k in
    ⊎_elim (λ (here : (k ≡ h) × (bit_at (2 ^ h) k ≡ 1)).
    let was : bit_at bits k ≡ 1 = ap (λ n. bit_at bits n) here.0 ∙ one in
    grind (arith, nat_tests))
    (λ (apart : (k ≢ h) × (bit_at (2 ^ h) k ≡ 0)). grind (arith, nat_tests)) (bit_at_pow h k)

pub has-without : (row : Row) (h k : ℕ) → IsTrue (has_holder row h) → has_holder (without_holder row h) k ≡ (has_holder row k && not (k == h))
has-without row h k held =
    ap (λ n. eqb (bit_at n k) 1) (bits_of_sharers (bit_xor (holder_bits row) (2 ^ h))) ∙
    has-toggled (holder_bits row) h k (eqb-true _ _ held)

-- each holder is below 12
pub held_below : (row : Row) (h : ℕ) → IsRow row → IsTrue (has_holder row h) → h < 12
held_below row h is held =
    ⊎_elim (λ below. below)
    (λ (above : 12 ≤ h). absurd (omega (arith, eqb-true (bit_at (holder_bits row) h) 1 held, bit_at_above (holder_bits row) 12 h (bits_below row is) above)))
    (cases_lt h 12)

-- the bit of a holder, as the code makes it
pub bit_of : (h : ℕ) → h < 12 → 1 * 2 ^ h % 2 ^ 16 ≡ 2 ^ h
bit_of h small = one_shl h 16 (omega arith)

pub shared_with_by_bits : (row : Row) (h bits : ℕ) → h < 12 → bits ≡ holder_bits row → Shared (bit_or bits (1 * 2 ^ h % 2 ^ 16)) ≡ shared_with row h
shared_with_by_bits row h bits small is =
    ap (λ n. Shared (bit_or n (1 * 2 ^ h % 2 ^ 16))) is ∙ ap (λ n. Shared (bit_or (holder_bits row) n)) (bit_of h small)

pub toggled_bits : (row : Row) (h bits : ℕ) → h < 12 → bits ≡ holder_bits row → bit_xor bits (1 * 2 ^ h % 2 ^ 16) ≡ bit_xor (holder_bits row) (2 ^ h)
toggled_bits row h bits small is =
    ap (λ n. bit_xor n (1 * 2 ^ h % 2 ^ 16)) is ∙ ap (λ n. bit_xor (holder_bits row) n) (bit_of h small)

pub toggled_below : (row : Row) (h bits : ℕ) → IsRow row → h < 12 → bits ≡ holder_bits row → bit_xor bits (1 * 2 ^ h % 2 ^ 16) < 2 ^ 12
toggled_below row h bits row_is small is =
    rw (toggled_bits row h bits small is) (xor_lt 12 (holder_bits row) (2 ^ h) (bits_below row row_is) (pow_below h 12 small))

-- the row of the line that was changed, and the row of another line
pub row_of-with_row_same : (d : Rows) (l : Line) (row : Row) → HasRow d l → row_of (with_row d l row) l ≡ row
row_of-with_row_same d l row is = get_or-set_same d.rows (l.0 - d.first) row Nobody (omega (arith, is.from, is.below))

pub row_of-with_row_other : (d : Rows) (l m : Line) (row : Row) → HasRow d l → HasRow d m → m.0 ≢ l.0 → row_of (with_row d l row) m ≡ row_of d m
row_of-with_row_other d l m row is there apart =
    get_or-set_other d.rows (l.0 - d.first) (m.0 - d.first) row Nobody (λ same. apart (omega (arith, is.from, there.from, same)))

-- rows as numbers
pub row_at : (numbers : List ℕ) (k : ℕ) → k < length numbers → get_or (unpacked_rows numbers) k Nobody ≡ unpacked (get_or numbers k 0)
row_at numbers k within = get_or-map_within unpacked numbers k 0 Nobody within

pub rows_set : (numbers : List ℕ) (k n : ℕ) (row : Row) → unpacked n ≡ row → unpacked_rows (set numbers k n) ≡ set (unpacked_rows numbers) k row
rows_set numbers k n row is = map-set unpacked numbers k n ∙ ap (λ r. set (unpacked_rows numbers) k r) is

pub rows_none : (n : ℕ) → unpacked_rows (replicate n 0) ≡ replicate n Nobody
rows_none zero = refl
rows_none (suc n) = ap (λ rows. Nobody ∷ rows) (rows_none n)

pub AreRows-set : (rows : List Row) (k : ℕ) (row : Row) → AreRows rows → IsRow row → AreRows (set rows k row)
AreRows-set [] k row are is i = are i
AreRows-set (x ∷ rows) zero row are is zero = is
AreRows-set (x ∷ rows) zero row are is (suc i) = are (suc i)
AreRows-set (x ∷ rows) (suc k) row are is zero = are 0
AreRows-set (x ∷ rows) (suc k) row are is (suc i) = AreRows-set rows k row (λ j. are (suc j)) is i

pub AreRows-none : (n : ℕ) → AreRows (replicate n Nobody)
AreRows-none zero i = tt
AreRows-none (suc n) zero = tt
AreRows-none (suc n) (suc i) = AreRows-none n i
