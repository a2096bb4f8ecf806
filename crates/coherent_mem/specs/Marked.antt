-- Sets of caches that are marked, so that a walk over the dirty lines looks into these alone.
use Rattle.std.specs.Prelude.{ℕ, ◌≡◌, ◌+◌, ◌*◌, ◌%◌, ◌<◌, ◌≤◌, Bool, true, false, List, length, slice_index_or, slice_get, Option, Some, None}
use Rattle.conda_base.specs.declared.Line.{Line}
use Rattle.conda_base.specs.declared.Mesi.TheVariants.{M}
use Rattle.line_memory.specs.Tags.{Tag, is_modified}
use Rattle.coherent_mem.specs.Parts.{Parts, AreParts, shown}
use Rattle.line_memory.specs.Backing.{BackingView}
use Rattle.line_memory.specs.Tags.{held_state}
use Rattle.line_memory.specs.Backing.{shape_of}

-- a line stands there in M
abbrev pub is_m_at : Option Tag → Bool
is_m_at None = false
is_m_at (Some tag) = is_modified tag.1

-- no line of a list is in M from one way on, below another
abbrev pub IsCleanFrom : List Tag → ℕ → ℕ → Type 0
IsCleanFrom tags from end = (k : ℕ) → from ≤ k → k < end → is_m_at (slice_get tags k) ≡ false

-- the first line in M of a list, from a way on
pub record IsFirstModified (tags : List Tag) (from ways way : ℕ) (l : Line) : Type 0 where
  pub after : from ≤ way
  pub below : way < ways
  pub skipped : IsCleanFrom tags from way
  pub here : slice_get tags way ≡ Some (l, M)

-- Each set of a holder's cache in which a line is in M is marked. (Others may be.)
pub record AreMarked (b : BackingView) (marks : List Bool) : Type 0 where
  pub count : length marks ≡ b.holders * b.sets
  pub marked : (l : Line) (h : ℕ) → held_state (shape_of b) b.tags h l ≡ Some M →
      slice_index_or marks (h * b.sets + l.0 % b.sets) false ≡ true

-- the parts fit together, with so many bytes a line, and the marks are theirs
abbrev pub AreMarkedParts : ℕ → List Bool → Parts → Type 0
AreMarkedParts line_bytes marks p =
    (line_bytes ≡ p.memory.line_bytes) × AreParts p × AreMarked (shown p) marks
