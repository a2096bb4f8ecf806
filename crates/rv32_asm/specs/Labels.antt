-- The labels that a map has.
use Rattle.std.specs.Prelude.{ℕ, ◌≡◌, List, Option, Some, None, if◌then◌else◌}
use Rattle.std.specs.Str.{bytes_eq}
use Rattle.std.specs.Ordering.{nat_cmp}
use Rattle.std.specs.Cmp.Lexicographic.{slice_cmp}
use Rattle.std.specs.BTreeMap.{BTreeMap, get_by}
use denote.Ref.{Bor}
use Rattle.rv32_asm.specs.declared.place.Place.{Place}
use Rattle.rv32_asm.specs.Assembled.{Source, has_label, label_place}

-- where a name stands
abbrev pub place_in : BTreeMap (Bor (List ℕ)) Place → List ℕ → Option Place
place_in labels name = get_by (λ key. slice_cmp nat_cmp name key.now) labels

-- the map has the labels of a source, each at the first line that it stands on
abbrev pub AreLabelsOf : BTreeMap (Bor (List ℕ)) Place → Source → Type 0
AreLabelsOf labels source = (name : List ℕ) → place_in labels name ≡ label_place source name

-- the first of two places that is there
abbrev pub earlier_place : Option Place → Option Place → Option Place
earlier_place None later = later
earlier_place (Some place) later = Some place

-- the old labels, with this one at this place
abbrev pub IsPlaced : List ℕ → Place → BTreeMap (Bor (List ℕ)) Place → BTreeMap (Bor (List ℕ)) Place → Type 0
IsPlaced label p old new =
    (name : List ℕ) → place_in new name
    ≡ (if bytes_eq label name then Some p else place_in old name)

-- the old labels, and this one at this place where it isn't among them
abbrev pub HasAdded : Option (List ℕ) → Place → BTreeMap (Bor (List ℕ)) Place → BTreeMap (Bor (List ℕ)) Place → Type 0
HasAdded label p old new =
    (name : List ℕ) → place_in new name
    ≡ earlier_place (place_in old name) (if has_label name label then Some p else None)
