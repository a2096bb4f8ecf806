-- Lines that have places in their sets.
use Rattle.std.specs.Prelude.{ℕ, ◌≡◌, ◌<◌, List, [], Option, Some, slice_index_or}
use Rattle.std.specs.Option.{option_map}
use Rattle.conda_base.specs.declared.Line.{Line}
use Rattle.set_assoc.specs.Entries.{lookup}
use Rattle.set_assoc.specs.SetLists.{SetLists, IsSets}
use Rattle.set_assoc.specs.declared.placed.Placed.{Placed}

module _ {T : Type 0} where
  abbrev pub placed : T → ℕ → Placed T
  placed value place = record { value = value; place = place }

  -- the place of a line
  abbrev pub place_of_line : Line → List (Line × Placed T) → Option ℕ
  place_of_line line entries = option_map (λ kept. kept.place) (lookup line entries)

  -- the places are below eight, and no two lines have one place
  pub record ArePlaces (entries : List (Line × Placed T)) : Type 0 where
    pub below : (l : Line) (p : ℕ) → place_of_line l entries ≡ Some p → p < 8
    pub apart : (l k : Line) (p : ℕ) → place_of_line l entries ≡ Some p → place_of_line k entries ≡ Some p → l.0 ≡ k.0

  -- sets whose lines have places
  pub record ArePlacedSets (s : SetLists (Placed T)) : Type 0 where
    pub sets : IsSets s
    pub places : (k : ℕ) → ArePlaces (slice_index_or s.lists k [])
