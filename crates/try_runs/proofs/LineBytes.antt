-- The bytes of a line after stores elsewhere.
use Rattle.std.proofs.Common.{◌≡◌, ◌≢◌, ◌+◌, ◌-◌, ◌*◌, ◌<◌, ◌≤◌, ℕ, Bool, true, false, List, [], ◌∷◌, set, take, drop, leb, refl, ap, ◌∙◌, arith, cond, ◌⊎◌, inl, inr}
use Rattle.std.specs.Prelude.{All}
use Rattle.std.proofs.lemmas.Bool.{eqb-false, cases_lt, leb-true}
use Rattle.std.proofs.lemmas.List.{drop-set-lt, drop-set-add, take-set-le}
use Rattle.std.proofs.lemmas.List.Elements.{All-head, All-tail}
use Rattle.conda_base.specs.declared.Line.{Line}
use Rattle.conda_base.specs.Lines.{IsLineSize, line_number}
use Rattle.conda_base.specs.LineLists.{line_at, same_line}
use Rattle.conda_base.specs.Bytes.{bytes_of_line}
use Rattle.conda_base.proofs.LineLemmas.{line_size_cases}
use Rattle.offload_calls.specs.Stores.{overlay}

pub apart_lines : (a n l : ℕ) → IsLineSize n → line_number a n ≢ l → (a < l * n) ⊎ (l * n + n ≤ a)
apart_lines a n l size other = go (cases_lt a (l * n)) (cases_lt a (l * n + n))
  where
    inside : l * n ≤ a → a < l * n + n → line_number a n ≡ l
    inside low high = let sizes = line_size_cases n size in grind arith

    go : (a < l * n) ⊎ (l * n ≤ a) → (a < l * n + n) ⊎ (l * n + n ≤ a) → (a < l * n) ⊎ (l * n + n ≤ a)
    go (inl h) k = inl h
    go (inr h) (inr k) = inr k
    go (inr h) (inl k) = absurd (other (inside h k))

bytes_of_line-set : (base n : ℕ) (m : List ℕ) (l a v : ℕ) → IsLineSize n → base ≤ a → line_number a n ≢ l
    → bytes_of_line base n (set m (a - base) v) l ≡ bytes_of_line base n m l
bytes_of_line-set base n m l a v size low other = go (leb base (l * n)) refl
  where
    side : (a < l * n) ⊎ (l * n + n ≤ a) → base ≤ l * n → take n (drop (l * n - base) (set m (a - base) v)) ≡ take n (drop (l * n - base) m)
    side (inl h) k = ap (take n) (drop-set-lt (l * n - base) m (a - base) v (omega arith))
    side (inr h) k =
        let there : a - base ≡ l * n - base + (a - l * n) = omega arith in
        rw (there, drop-set-add) (take-set-le n (drop (l * n - base) m) (a - l * n) v (omega arith))

    go : (t : Bool) → leb base (l * n) ≡ t
        → cond t (take n (drop (l * n - base) (set m (a - base) v))) [] ≡ cond t (take n (drop (l * n - base) m)) []
    go true e = side (apart_lines a n l size other) (leb-true base (l * n) e)
    go false e = refl

-- a store at this address or above, to another line
abbrev pub Elsewhere : ℕ → ℕ → Line → ℕ × ℕ → Type 0
Elsewhere base n l store = (base ≤ store.0) × (same_line (line_at n store.0) l ≡ false)

pub bytes_of_line-overlay : (base n : ℕ) (m : List ℕ) (stores : List (ℕ × ℕ)) (l : Line) → IsLineSize n → All (Elsewhere base n l) stores
    → bytes_of_line base n (overlay base m stores) l.0 ≡ bytes_of_line base n m l.0
bytes_of_line-overlay base n m [] l size h = refl
bytes_of_line-overlay base n m (store ∷ stores) l size h =
    let here : Elsewhere base n l store = All-head (Elsewhere base n l) store stores h in
    bytes_of_line-overlay base n (set m (store.0 - base) store.1) stores l size (All-tail (Elsewhere base n l) store stores h)
    ∙ bytes_of_line-set base n m l.0 store.0 store.1 size here.0 (eqb-false (line_number store.0 n) l.0 here.1)
