-- Sets whose values are seen as other values.
use Rattle.std.specs.Prelude.{List, map}
use Rattle.conda_base.specs.declared.Line.{Line}
use Rattle.set_assoc.specs.declared.placed.Placed.{Placed}
use Rattle.set_assoc.specs.SetLists.{SetLists}

-- a list whose values are seen through f, which may depend on the line
abbrev pub seen_list : {A B : Type 0} → (Line → A → B) → List (Line × A) → List (Line × B)
seen_list f entries = map (λ e. (e.0, f e.0 e.1)) entries

-- sets whose values are seen through f
abbrev pub seen_through : {A B : Type 0} → (Line → A → B) → SetLists A → SetLists B
seen_through f sets = record { ways = sets.ways; lists = map (seen_list f) sets.lists }

-- sets without the places of their lines
abbrev pub without_places : {T : Type 0} → SetLists (Placed T) → SetLists T
without_places sets = seen_through (λ _ kept. kept.value) sets
