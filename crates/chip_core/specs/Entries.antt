-- A commit and a rollback as entries: what they leave is what the world is after the entry.
use Rattle.std.specs.Prelude.{ℕ, ◌≡◌, length, Some}
use Rattle.conda_base.specs.declared.Line.{Line}
use Rattle.schedule_log.specs.declared.entry.Entry.TheVariants.{Commit}
use Rattle.bloom_sig.specs.Images.{IsSignatureOf}
use Rattle.line_memory.specs.Backing.{BackingView, IsInRange, shape_of, copy_of}
use Rattle.line_memory.specs.Notes.{all_noted}
use Rattle.try_runs.specs.Limits.{limits_of}
use Rattle.try_runs.specs.Serial.{IsSetup}
use Rattle.chip_laws.specs.Design.{Design, setup_of, hart_shape}
use Rattle.chip_laws.specs.Rules.{World, Opening, portion_of, try_of}
use Rattle.chip_laws.specs.Fresh.{IsFresh}
use Rattle.chip_laws.specs.Notes.{notes_of}
use Rattle.chip_laws.specs.Worlds.{seat_back, took}
use Rattle.portion_ctl.specs.declared.portion.Kept.{Kept}
use Rattle.portion_ctl.specs.declared.portion.Undone.{Undone}
use Rattle.portion_ctl.specs.Stands.{StandsFor}
use Rattle.portion_ctl.specs.States.{IsKeptOf}
use Rattle.portion_ctl.specs.Views.{EndedView}
use Rattle.conflict_resolve.specs.Backs.{Backs}
use Rattle.conflict_resolve.specs.Commits.{Change, Commits, state_kept}

-- a memory shows the flat bytes, the copies and the tags of a world
pub record ShowsWorld (d : Design) (w : World) (b : BackingView) : Type 0 where
  pub setup : IsSetup (setup_of d)
  pub lines : b.line_bytes ≡ d.config.line_bytes
  pub base : b.base ≡ d.image.code.base
  pub bytes : length b.view ≡ length d.image.code.bytes
  pub shape : shape_of b ≡ hart_shape d
  pub view : b.view ≡ w.flat.memory
  pub copies : (l : Line) → IsInRange b l → copy_of b l ≡ w.copies l
  pub tags : b.tags ≡ w.tags

-- a core's ended try is that of its seat
pub record StandsInSeat (d : Design) (w : World) (j : ℕ) (o : Opening) (c : EndedView) : Type 0 where
  pub seat : (w.seats j).opening ≡ Some o
  pub core : c.try.core ≡ j
  pub limits : c.try.limits ≡ limits_of d.config
  pub stands : StandsFor d.image.code c.try (portion_of o)

-- a commit leaves flat memory, tags, copies and notes as the entry Commit does, and the core with
-- what it keeps
pub record IsCommitOf
    (d : Design) (w : World) (j : ℕ) (o : Opening) (c : EndedView) (kept : Kept) (m : Change) : Type 0 where
  pub flat : (took d w (Commit j o.acts c.cause)).flat ≡ state_kept w.flat j kept m.new
  pub tags : m.new.tags ≡ (took d w (Commit j o.acts c.cause)).tags
  pub copies : (l : Line) → IsInRange m.old l
      → copy_of m.new l ≡ (took d w (Commit j o.acts c.cause)).copies l
  pub notes : m.after ≡ all_noted m.before (notes_of d w (Commit j o.acts c.cause))
  pub core : kept.ready.core ≡ j
  pub limits : kept.ready.limits ≡ limits_of d.config
  pub acts : kept.n ≡ o.acts

abbrev pub CommitsAreEntries : Type 0
CommitsAreEntries =
    (d : Design) (w : World) (j : ℕ) (o : Opening) (c : EndedView) (kept : Kept) (m : Change)
    → ShowsWorld d w m.old → StandsInSeat d w j o c → IsFresh d w j o
    → Commits m c (try_of d o) kept → IsKeptOf c kept
    → IsCommitOf d w j o c kept m

-- a rollback leaves what the seat has after the entry Back: due flushes, the lines that the try
-- read, and the opening registers
pub record IsBackOf (d : Design) (w : World) (j : ℕ) (o : Opening) (undone : Undone) : Type 0 where
  pub core : undone.flushing.core ≡ j
  pub limits : undone.flushing.limits ≡ limits_of d.config
  pub regs : undone.flushing.regs ≡ o.regs
  pub reads : IsSignatureOf undone.flushing.read_set (seat_back d w j).last
  pub due : undone.flushing.due ≡ (seat_back d w j).due
  pub acts : undone.n ≡ o.acts

abbrev pub BacksAreEntries : Type 0
BacksAreEntries =
    (d : Design) (w : World) (j : ℕ) (o : Opening) (c : EndedView) (b : BackingView) (undone : Undone)
    → ShowsWorld d w b → StandsInSeat d w j o c
    → Backs b c (try_of d o) (portion_of o) undone
    → IsBackOf d w j o undone
