-- What is written back by flushes.
use Rattle.std.specs.Prelude.{ℕ, ◌≡◌, ◌<◌, List, [], ◌∷◌, Some}
use Rattle.conda_base.specs.declared.Line.{Line}
use Rattle.conda_base.specs.declared.actor.Actor.{Actor}
use Rattle.conda_base.specs.declared.Mesi.TheVariants.{M}
use Rattle.schedule_log.specs.declared.entry.Entry.TheVariants.{Lock, Flush}
use Rattle.traffic_trace.specs.declared.note.Kind.TheVariants.{Back}
use Rattle.traffic_trace.specs.declared.note.Note.{Note}
use Rattle.line_memory.specs.Tags.{Tags, Shape, held_state}
use Rattle.chip_laws.specs.Design.{Design, hart_shape}
use Rattle.chip_laws.specs.Rules.{World, dirty_of, flush_line, next}
use Rattle.chip_laws.specs.Notes.{notes_of}
use Rattle.chip_laws.specs.Worlds.{world}

-- the note is the write-back of the line by a holder that has it in M
pub record IsWriteBack (shape : Shape) (tags : Tags) (l : Line) (note : Note) : Type 0 where
  pub kind : note.kind ≡ Back
  pub line : note.line ≡ l
  pub holder : note.who < shape.holders
  pub modified : held_state shape tags note.who l ≡ Some M

-- one write-back for each line, in their order
abbrev pub AreWriteBacks : Shape → Tags → List Line → List Note → Type 0
AreWriteBacks shape tags [] [] = Unit {0}
AreWriteBacks shape tags [] (note ∷ notes) = ⊥
AreWriteBacks shape tags (l ∷ lines) [] = ⊥
AreWriteBacks shape tags (l ∷ lines) (note ∷ notes) =
    IsWriteBack shape tags l note × AreWriteBacks shape tags lines notes

-- a Lock writes back each dirty line, in walk order, and a Flush one line
pub record WritesBack (d : Design) (w : World) (a : Actor) : Type 0 where
  pub lock : (j : ℕ) → next d w a ≡ Lock j
      → AreWriteBacks (hart_shape d) w.tags (dirty_of d w) (notes_of d w (Lock j))
  pub flush : (j : ℕ) → next d w a ≡ Flush j
      → (l : Line) × (flush_line d w j ≡ Some l)
      × AreWriteBacks (hart_shape d) w.tags (l ∷ []) (notes_of d w (Flush j))

abbrev pub AlwaysWrittenBack : Type 0
AlwaysWrittenBack = (d : Design) (events : List Actor) (a : Actor) → WritesBack d (world d events) a
