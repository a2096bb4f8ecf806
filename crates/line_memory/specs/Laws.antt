-- Laws over every backing.
use Rattle.std.specs.Prelude.{ℕ, ◌≡◌, ◌<◌, [], ◌∷◌, Some}
use Rattle.conda_base.specs.declared.Line.{Line}
use Rattle.conda_base.specs.declared.Mesi.TheVariants.{M}
use Rattle.traffic_trace.specs.declared.note.Kind.TheVariants.{Back}
use Rattle.line_memory.specs.Tags.{held_state}
use Rattle.line_memory.specs.Notes.{flush_notes, note_of}
use Rattle.line_memory.specs.Backing.{BackingView, IsBacking, IsDirty, shape_of}

-- holder h has the line in M, and a flush of it notes that h writes it back, and nothing else
pub record IsWrittenBackBy (b : BackingView) (l : Line) (h : ℕ) : Type 0 where
  pub inside : h < b.holders
  pub owned : held_state (shape_of b) b.tags h l ≡ Some M
  pub noted : flush_notes (shape_of b) b.tags l ≡ note_of Back h l ∷ []

-- a flush of a dirty line notes exactly one write-back
abbrev pub FlushNotesOneBack : Type 0
FlushNotesOneBack =
    (b : BackingView) (l : Line) → IsBacking b → IsDirty b l → (h : ℕ) × IsWrittenBackBy b l h
