-- Marks on the bytes of a line: byte k is marked where bit k of the mask is 1.
use Rattle.std.specs.Prelude.{ℕ, Bool, true, false, ◌≡◌, ◌<◌, ◌≤◌, List, [], ◌∷◌, ◌/◌, ◌%◌, ◌==◌, length, slice_index, if◌then◌else◌}
use Rattle.std.specs.Int.{bit_at}

-- the place's bit of the mask is 1
abbrev pub is_marked : ℕ → ℕ → Bool
is_marked mask place = bit_at mask place == 1

-- `front` where its place is marked, and `back` elsewhere
abbrev pub mixed : ℕ → List ℕ → List ℕ → List ℕ
mixed mask [] back = []
mixed mask (f ∷ front) [] = f ∷ front
mixed mask (f ∷ front) (b ∷ back) = (if mask % 2 == 1 then f else b) ∷ mixed (mask / 2) front back

-- the first marked place from this one on, or 128
pub record IsNextMark (mask place next : ℕ) : Type 0 where
  pub from : place ≤ next
  pub most : next ≤ 128
  pub marked : next < 128 → is_marked mask next ≡ true
  pub unmarked : (k : ℕ) → place ≤ k → k < next → is_marked mask k ≡ false

-- the bytes of a run are those of `front`, and the others stay
pub record IsRunCopied (start end : ℕ) (front old new : List ℕ) : Type 0 where
  pub len : length new ≡ length old
  pub run : (k : ℕ) → start ≤ k → k < end → slice_index new k ≡ slice_index front k
  pub before : (k : ℕ) → k < start → slice_index new k ≡ slice_index old k
  pub behind : (k : ℕ) → end ≤ k → slice_index new k ≡ slice_index old k
