-- At most one holder owns a line, and then no other holds it.
use Rattle.std.specs.Prelude.{ℕ, ◌≡◌, ◌≢◌, ◌<◌, Bool, true, false, Option, Some, None, All, AllPairs}
use Rattle.conda_base.specs.declared.Line.{Line}
use Rattle.conda_base.specs.declared.Mesi.{Mesi}
use Rattle.conda_base.specs.declared.Mesi.TheVariants.{M, E, S}
use Rattle.line_memory.specs.Tags.{Tag, Tags, Shape, set_number, held_state}

-- an owner has the line in M or E
abbrev pub is_owner : Option Mesi → Bool
is_owner None = false
is_owner (Some M) = true
is_owner (Some E) = true
is_owner (Some S) = false

-- No list names a line twice, each line stands in the set of its number, and a line that some holder has in M or E
-- is held by no other.
pub record HasSingleOwners (shape : Shape) (tags : Tags) : Type 0 where
  pub once : (h set : ℕ) → AllPairs (λ (one : Tag) (other : Tag). one.0.0 ≢ other.0.0) (tags h set)
  pub placed : (h set : ℕ) → All (λ (tag : Tag). set_number shape tag.0 ≡ set) (tags h set)
  pub alone : (l : Line) (h k : ℕ) → k < shape.holders → k ≢ h
      → is_owner (held_state shape tags h l) ≡ true → held_state shape tags k l ≡ None
