-- A second store of the same holder to the same line.
use Rattle.std.specs.Prelude.{ℕ, ◌≡◌, true, List, []}
use Rattle.conda_base.specs.LineLists.{line_at}
use Rattle.conda_base.specs.declared.Line.{Line}
use Rattle.line_memory.specs.Tags.{Tags, Shape}
use Rattle.line_memory.specs.Access.{after_store}
use Rattle.line_memory.specs.Notes.{access_notes}
use Rattle.line_memory.specs.Backing.{BackingView, shape_of}
use Rattle.coherent_mem.specs.Steps.{StepsTo}

-- it leaves the tags, and notes nothing
pub record IsStoredAgain (shape : Shape) (tags : Tags) (h : ℕ) (l : Line) : Type 0 where
  pub tags_stay : after_store shape (after_store shape tags h l) h l ≡ after_store shape tags h l
  pub no_notes : access_notes shape (after_store shape tags h l) h l true ≡ []

-- A `take` at an address, and then a store there by the same holder: the steps of one store, and no
-- more notes.
pub record IsAtomic (old mid new : BackingView) (h addr : ℕ) (bytes : List ℕ) : Type 0 where
  pub steps : StepsTo (after_store (shape_of old) old.tags h (line_at old.line_bytes addr)) bytes
      old new
  pub no_notes : access_notes (shape_of mid) mid.tags h (line_at mid.line_bytes addr) true ≡ []
