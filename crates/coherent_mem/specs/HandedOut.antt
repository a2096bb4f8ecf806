-- The parts of a memory under caches that are handed out: a caller can read each line and row.
use Rattle.std.specs.Prelude.{ℕ, ◌≡◌, ◌↔◌, ◌/◌, true, length, is_some}
use Rattle.conda_base.specs.declared.Line.{Line}
use Rattle.cpu_cache.specs.Contents.{Contents, IsHeld, bytes_of, state_of, tags_of}
use Rattle.mesi_directory.specs.declared.row.Row.TheVariants.{Owner}
use Rattle.mesi_directory.specs.Rows.{Rows, HasRow, has_holder, row_of}
use Rattle.line_memory.specs.Memory.{Memory}
use Rattle.line_memory.specs.Tags.{held_state}
use Rattle.line_memory.specs.Owners.{is_owner}
use Rattle.line_memory.specs.Backing.{BackingView, IsInRange, shape_of, view_of}

-- a holder's cache: its tags are the holder's, and its bytes of each line are those that users see
pub record IsCacheOf (b : BackingView) (h : ℕ) (c : Contents) : Type 0 where
  pub line_bytes : c.line_bytes ≡ b.line_bytes
  pub sets : length c.lines.lists ≡ b.sets
  pub ways : c.lines.ways ≡ b.ways
  pub tags : (set : ℕ) → tags_of c set ≡ b.tags h set
  pub states : (l : Line) → state_of c l ≡ held_state (shape_of b) b.tags h l
  pub bytes : (l : Line) → IsHeld c l → bytes_of c l ≡ view_of b l

-- The directory: a row for each line of memory, which is the line's holders. It is an owner's
-- exactly where that holder has the line in M or E.
pub record IsDirectoryOf (b : BackingView) (d : Rows) : Type 0 where
  pub first : d.first ≡ b.base / b.line_bytes
  pub count : length d.rows ≡ length b.view / b.line_bytes
  pub range : (l : Line) → IsInRange b l → HasRow d l
  pub holders : (l : Line) → IsInRange b l → (h : ℕ) →
      has_holder (row_of d l) h ≡ is_some (held_state (shape_of b) b.tags h l)
  pub owner : (l : Line) → IsInRange b l → (h : ℕ) →
      (row_of d l ≡ Owner h) ↔ (is_owner (held_state (shape_of b) b.tags h l) ≡ true)

-- memory's own bytes
abbrev pub copies_memory : BackingView → Memory
copies_memory b = record { line_bytes = b.line_bytes; base = b.base; bytes = b.copies }
