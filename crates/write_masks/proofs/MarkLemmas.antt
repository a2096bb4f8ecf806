-- Marks on the places of a line.
use Rattle.std.proofs.Common.{◌≡◌, ℕ, ◌+◌, ◌-◌, ◌*◌, ◌%◌, ◌^◌, ◌<◌, ◌≤◌, ◌⊎◌, ◌||◌, ◌/◌, ◌++◌, ⊎_elim, inl, inr, Bool, true, false, List, [], ◌∷◌, length, take, drop, replicate, get_or, zero, suc, eqb, cond, refl, sym, ◌∙◌, ap, arith}
use Rattle.std.specs.Int.{bit_at, bit_not, w128}
use Rattle.std.proofs.lemmas.Grind.{same_number_lists}
use Rattle.conda_base.proofs.MarkLemmas.{length-mixed, get_or-mixed}
use Rattle.std.specs.Prelude.{bit_or, bit_and, min}
use Rattle.std.proofs.lemmas.Nat.{one_shl, shl_whole, pow-add, pow_pos}
use Rattle.std.proofs.lemmas.Nat.Bits.{bit_at_or, bit_at_and, bit_at_not, bit_at-lt, bit_at_mask_inside, bit_at_mask_below, bit_at_mask_above, same_from_bits}
use Rattle.std.proofs.lemmas.Bool.{cases_lt, eqb-true, eq-eqb}
use Rattle.std.proofs.lemmas.Bool.Decides.{nat_tests}
use Rattle.std.proofs.Math.Nat.{mul-sub, mul_comm}
use Rattle.conda_base.specs.Marks.{is_marked, mixed}
use Rattle.write_masks.specs.Marks.{is_within, Covers}

-- what the code computes for the bits from `offset` up to `offset + size`
pub run_bits : (offset size : ℕ) → 0 < size → size < 128 → offset + size ≤ 128 → (1 * 2 ^ size % 2 ^ 128 - 1) * 2 ^ offset % 2 ^ 128 ≡ 2 ^ (offset + size) - 2 ^ offset
run_bits offset size some small within =
    let positive : 0 < 2 ^ size = pow_pos size in
    let whole : (2 ^ size - 1) * 2 ^ offset % 2 ^ 128 ≡ (2 ^ size - 1) * 2 ^ offset = shl_whole (2 ^ size - 1) size offset 128 (omega arith) (omega arith) in
    ap (λ x. (x - 1) * 2 ^ offset % 2 ^ 128) (one_shl size 128 small) ∙ whole ∙
    (mul_comm (2 ^ size - 1) (2 ^ offset) ∙ mul-sub (2 ^ offset) (2 ^ size) 1 ∙ omega (arith, pow-add 2 offset size))

-- the bit of such a run at each place
pub bit_at_run : (offset size k : ℕ) → ((offset ≤ k) × (k < offset + size) × (bit_at (2 ^ (offset + size) - 2 ^ offset) k ≡ 1)) ⊎ (((k < offset) ⊎ (offset + size ≤ k)) × (bit_at (2 ^ (offset + size) - 2 ^ offset) k ≡ 0))
bit_at_run offset size k =
    ⊎_elim (λ below. inr (inl below, bit_at_mask_below offset (offset + size) k below))
    (λ from. ⊎_elim (λ inside. inl (from, inside, bit_at_mask_inside offset (offset + size) k from inside))
    (λ above. inr (inr above, bit_at_mask_above offset (offset + size) k above)) (cases_lt k (offset + size)))
    (cases_lt k offset)

-- a run of marks is added by `|`
pub is_marked-or : (mask offset size run k : ℕ) → run ≡ 2 ^ (offset + size) - 2 ^ offset → is_marked (bit_or mask run) k ≡ is_marked mask k || is_within offset size k
is_marked-or mask offset size run k is =
    let joined = bit_at_or mask run k in
    let here = bit_at_run offset size k in
    let place : bit_at run k ≡ bit_at (2 ^ (offset + size) - 2 ^ offset) k = ap (λ r. bit_at r k) is in
    let small = bit_at-lt mask k in
    grind (arith, nat_tests)

-- every place of a run is marked exactly where `&` gives the run
pub covers_from_and : (mask offset size run : ℕ) → run ≡ 2 ^ (offset + size) - 2 ^ offset → bit_and mask run ≡ run → Covers mask offset size
covers_from_and mask offset size run is same k from below =
    let one : bit_at run k ≡ 1 = ap (λ r. bit_at r k) is ∙ bit_at_mask_inside offset (offset + size) k from below in
    let both : min (bit_at mask k) (bit_at run k) ≡ bit_at run k = sym (bit_at_and mask run k) ∙ ap (λ r. bit_at r k) same in
    let small = bit_at-lt mask k in
    eq-eqb _ _ (omega arith)

pub and_from_covers : (mask offset size run : ℕ) → run ≡ 2 ^ (offset + size) - 2 ^ offset → Covers mask offset size → bit_and mask run ≡ run
and_from_covers mask offset size run is covers =
    same_from_bits (bit_and mask run) run
    (λ k. let place : bit_at run k ≡ bit_at (2 ^ (offset + size) - 2 ^ offset) k = ap (λ r. bit_at r k) is in
    let small = bit_at-lt mask k in
    let both = bit_at_and mask run k in
    ⊎_elim (λ (inside : (offset ≤ k) × (k < offset + size) × (bit_at (2 ^ (offset + size) - 2 ^ offset) k ≡ 1)).
    let marked : bit_at mask k ≡ 1 = eqb-true _ _ (covers k inside.0 inside.1) in omega arith)
    (λ outside. omega arith) (bit_at_run offset size k))

-- the unmarked bytes of one list and the marked ones of the other, taken either way
turned : (mask k x y : ℕ) → mask < 2 ^ 128 → k < 128 → cond (is_marked (bit_not w128 mask) k) y x ≡ cond (is_marked mask k) x y
turned mask k x y fits below = go (bit_at mask k) (bit_at (bit_not w128 mask) k) (bit_at_not w128 mask k fits below) (bit_at-lt mask k)
  where
    go : (b c : ℕ) → c ≡ 1 - b → b < 2 → cond (eqb c 1) y x ≡ cond (eqb b 1) x y
    go zero c is small = rw is refl
    go (suc zero) c is small = rw is refl
    go (suc (suc b)) c is small = absurd (omega arith)

pub mixed-turned : (mask : ℕ) (front back : List ℕ) → mask < 2 ^ 128 → length front ≤ 128 → length back ≡ length front → mixed (bit_not w128 mask) back front ≡ mixed mask front back
mixed-turned mask front back fits few same =
    let turned_len = length-mixed (bit_not w128 mask) back front in
    let len = length-mixed mask front back in
    same_number_lists _ _ (omega arith)
    (λ k within.
    get_or-mixed (bit_not w128 mask) back front k (omega arith) ∙
    turned mask k (get_or front k 0) (get_or back k 0) fits (omega arith) ∙
    sym (get_or-mixed mask front back k (omega arith)))

-- the bytes behind a shorter list stay
mixed-none : (mask : ℕ) (front : List ℕ) → mixed mask front [] ≡ front
mixed-none mask [] = refl
mixed-none mask (f ∷ front) = refl

pub mixed-front : (mask : ℕ) (front back : List ℕ) → mixed mask (take (length back) front) back ++ drop (length back) front ≡ mixed mask front back
mixed-front mask [] [] = refl
mixed-front mask [] (b ∷ back) = refl
mixed-front mask (f ∷ front) [] = refl
mixed-front mask (f ∷ front) (b ∷ back) = ap (λ rest. cond (eqb (mask % 2) 1) f b ∷ rest) (mixed-front (mask / 2) front back)

-- zeros may be mixed with zeros
pub mixed-zeros : (mask : ℕ) (front back : List ℕ) (z : ℕ) → ((k : ℕ) → length back ≤ k → get_or front k 0 ≡ 0) → mixed mask front (back ++ replicate z 0) ≡ mixed mask front back
mixed-zeros mask [] back z zeros = refl
mixed-zeros mask (f ∷ front) [] zero zeros = refl
mixed-zeros mask (f ∷ front) [] (suc z) zeros =
    ap (λ x. x ∷ mixed (mask / 2) front (replicate z 0)) (either (eqb (mask % 2) 1))
    ∙ ap (λ rest. f ∷ rest) (mixed-zeros (mask / 2) front [] z (λ k from. zeros (suc k) (omega arith)) ∙ mixed-none (mask / 2) front)
  where
    either : (b : Bool) → cond b f 0 ≡ f
    either true = refl
    either false = sym (zeros 0 (omega arith))
mixed-zeros mask (f ∷ front) (b ∷ back) z zeros =
    ap (λ rest. cond (eqb (mask % 2) 1) f b ∷ rest) (mixed-zeros (mask / 2) front back z (λ k from. zeros (suc k) (omega arith)))
