-- Lines at fixed places of a set, where each place has an age.
use Rattle.std.specs.Prelude.{ℕ, ◌≡◌, ◌≢◌, ◌+◌, ◌-◌, ◌<◌, ◌≤◌, ◌==◌, List, [], ◌∷◌, None, length, map, slice_index, slice_index_or}
use Rattle.std.specs.List.{position_or_len, range_with_len}
use Rattle.conda_base.specs.declared.Line.{Line}
use Rattle.set_assoc.specs.Entries.{lookup}
use Rattle.set_assoc.specs.Places.{placed}
use Rattle.set_assoc.specs.declared.placed.Placed.{Placed}

-- the place of this age
abbrev pub place_of_age : List ℕ → ℕ → ℕ
place_of_age ages age = position_or_len (λ a. a == age) ages

-- the ages of the first n places are 0 to n - 1, each once, and `place` answers where each age is
pub record AreAges (ages : List ℕ) (n : ℕ) (place : ℕ → ℕ) : Type 0 where
  pub within : n ≤ length ages
  pub by_age : (age : ℕ) → age < n → (place age < n) × (slice_index ages (place age) ≡ age)
  pub by_place : (p : ℕ) → p < n → (slice_index ages p < n) × (place (slice_index ages p) ≡ p)

-- a place becomes the most recent: ages below its age rise by 1
pub record IsRaised (old : List ℕ) (p : ℕ) (new : List ℕ) : Type 0 where
  pub len : length new ≡ length old
  pub here : slice_index new p ≡ 0
  pub below : (k : ℕ) → k ≢ p → k < length old → slice_index old k < slice_index old p
      → slice_index new k ≡ slice_index old k + 1
  pub above : (k : ℕ) → k ≢ p → slice_index old p ≤ slice_index old k → slice_index new k ≡ slice_index old k

-- a place becomes the oldest of n: ages above its age fall by 1
pub record IsLowered (old : List ℕ) (p n : ℕ) (new : List ℕ) : Type 0 where
  pub len : length new ≡ length old
  pub here : slice_index new p ≡ n - 1
  pub below : (k : ℕ) → k ≢ p → slice_index old k ≤ slice_index old p → slice_index new k ≡ slice_index old k
  pub above : (k : ℕ) → k ≢ p → slice_index old p < slice_index old k → slice_index new k + 1 ≡ slice_index old k

module _ {T : Type 0} where
  -- the entry at a place; d is read only past the places
  abbrev pub placed_entry : List (Line × T) → Line × T → ℕ → Line × Placed T
  placed_entry entries d p = ((slice_index_or entries p d).0, placed (slice_index_or entries p d).1 p)

  -- the lines that a set is seen as: those of the ages 0 to used - 1
  abbrev pub lines_by_age : List (Line × T) → List ℕ → ℕ → List (Line × Placed T)
  lines_by_age [] ages used = []
  lines_by_age (first ∷ rest) ages used =
      map (λ age. placed_entry (first ∷ rest) first (place_of_age ages age)) (range_with_len 0 used)

  -- what the place of a line that is there tells
  pub record IsPlaceOf (entries : List (Line × T)) (ages : List ℕ) (used : ℕ) (line : Line) (p : ℕ) : Type 0 where
    pub within : p < length entries
    pub young : slice_index ages p < used
    pub has : (d : Line × T) → (slice_index_or entries p d).0.0 ≡ line.0

  -- what a line that isn't there tells
  abbrev pub IsNowhere : List (Line × T) → List ℕ → ℕ → Line → Type 0
  IsNowhere entries ages used line =
      (k : ℕ) (d : Line × T) → k < length entries → (slice_index_or entries k d).0.0 ≡ line.0
      → used ≤ slice_index ages k

  -- no line is there twice
  abbrev pub StandOnce : List (Line × T) → Type 0
  StandOnce [] = Unit {0}
  StandOnce (entry ∷ rest) = (lookup entry.0 rest ≡ None) × StandOnce rest

-- a set with at most eight places, of which those with an age below `used` have a line
pub record IsAgedRow {T : Type 0} (entries : List (Line × T)) (ages : List ℕ) (used : ℕ) : Type 0 where
  pub few : length entries ≤ 8
  pub eight : length ages ≡ 8
  pub filled : used ≤ length entries
  pub aged : AreAges ages (length entries) (place_of_age ages)
  pub apart : StandOnce (lines_by_age entries ages used)
