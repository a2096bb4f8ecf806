-- A commit: what it leaves of memory and of the notes, and what the core keeps of the try.
use Rattle.std.specs.Prelude.{ℕ, ◌≡◌, ◌++◌, true, List, length}
use Rattle.conda_base.specs.declared.Line.{Line}
use Rattle.conda_base.specs.LineLists.{names}
use Rattle.line_memory.specs.Access.{after_commit}
use Rattle.line_memory.specs.Backing.{BackingView, HasSameNumbers, IsInRange, shape_of, view_of, copy_of}
use Rattle.line_memory.specs.Copies.{copy_after}
use Rattle.line_memory.specs.Notes.{all_noted, commit_notes}
use Rattle.traffic_trace.specs.Notes.{Trace}
use Rattle.offload_calls.specs.declared.status.CoreStatus.TheVariants as Core_is
use Rattle.offload_calls.specs.Stores.{overlay}
use Rattle.offload_calls.specs.State.{Setup, State, updated}
use Rattle.offload_calls.specs.CoreActs.{core_acts}
use Rattle.try_runs.specs.Fills.{Fills, Portion}
use Rattle.try_runs.specs.Tries.{Try, writes}
use Rattle.try_runs.specs.Serial.{IsSetup, try_in}
use Rattle.portion_ctl.specs.declared.portion.Kept.{Kept}
use Rattle.portion_ctl.specs.Views.{EndedView}

-- what a memory and the notes were before a call and are after it
pub record Change : Type 0 where
  pub old : BackingView
  pub new : BackingView
  pub before : Trace
  pub after : Trace

abbrev pub change : BackingView → BackingView → Trace → Trace → Change
change old new before after = record { old = old; new = new; before = before; after = after }

-- the portion of n acts from the registers that core j has
abbrev pub portion_from : State → ℕ → Fills → ℕ → Portion
portion_from f j fills n = record { regs = (f.cores j).regs; fills = fills; acts = n }

-- The commit of a portion that stands for this try. The view is overlaid by what the try stored;
-- tags, copies and notes are those of a Commit of the lines that it stored to; and the core keeps
-- what the try came to.
pub record Commits (m : Change) (c : EndedView) (t : Try) (kept : Kept) : Type 0 where
  pub numbers : HasSameNumbers m.old m.new
  pub view : m.new.view ≡ overlay m.old.base m.old.view t.stored
  pub tags : m.new.tags ≡ after_commit m.old.tags (writes m.old.line_bytes t)
  pub copies : (l : Line) → IsInRange m.old l
      → copy_of m.new l
      ≡ copy_after (shape_of m.old) m.old.tags m.new.tags l
      (copy_of m.old l) (view_of m.old l) (view_of m.new l)
  pub notes : m.after
      ≡ all_noted m.before
      (commit_notes (shape_of m.old) m.old.tags c.try.core (writes m.old.line_bytes t))
  pub regs : kept.ready.regs ≡ t.core.regs
  pub status : kept.status ≡ t.core.status
  pub out : kept.out.items ≡ t.held

-- a state of flat memory that has what this memory shows, and in which core j is Run
pub record IsShownBy (b : BackingView) (s : Setup) (f : State) (j : ℕ) : Type 0 where
  pub setup : IsSetup s
  pub lines : s.line_bytes ≡ b.line_bytes
  pub base : s.code.base ≡ b.base
  pub bytes : length s.code.bytes ≡ length b.view
  pub memory : f.memory ≡ b.view
  pub runs : (f.cores j).status ≡ Core_is.Run

-- on each of these lines the view has the bytes of the fills
abbrev pub AreFreshIn : BackingView → Fills → List Line → Type 0
AreFreshIn b fills lines = (l : Line) → names lines l ≡ true → fills l ≡ view_of b l

-- a state with the memory of a view, and with what core j keeps
abbrev pub state_kept : State → ℕ → Kept → BackingView → State
state_kept f j kept new = record {
  memory = new.view;
  harts = f.harts;
  cores = updated f.cores j (record { regs = kept.ready.regs; status = kept.status });
  output = f.output ++ kept.out.items;
}

-- where the view has on each line of A the bytes of the fills, n acts of core j with nothing
-- between do the same
abbrev pub IsUnbroken : BackingView → Setup → State → ℕ → Fills → ℕ → Kept → BackingView → Type 0
IsUnbroken b s f j fills n kept new =
    IsShownBy b s f j → AreFreshIn b fills (try_in s f j fills n).reads
    → core_acts s f j n ≡ state_kept f j kept new
