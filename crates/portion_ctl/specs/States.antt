-- What the calls of a portion do, state by state.
use Rattle.std.specs.Prelude.{ℕ, suc, ◌≡◌, ◌-◌, ◌==◌, ◌++◌, Bool, List, [], ◌∷◌, length, find, Option, Some, None, if◌then◌else◌}
use Rattle.conda_base.specs.declared.Line.{Line}
use Rattle.rv32_hart.specs.Code.{CodeView}
use Rattle.offload_calls.specs.declared.status.CoreStatus.TheVariants.{Run}
use Rattle.nda_cache.specs.Tried.{no_try_lines}
use Rattle.bloom_sig.specs.Signatures.{Sets, Meet, is_member, inserted, joined, no_lines}
use Rattle.bloom_sig.specs.Images.{IsImage}
use Rattle.line_memory.specs.Backing.{BackingView, IsBacking, copy_of, dirty_in, flushed, shape_of}
use Rattle.line_memory.specs.Notes.{all_noted, flush_notes, flushes_notes}
use Rattle.traffic_trace.specs.Notes.{Trace}
use Rattle.traffic_trace.specs.declared.note.Note.{Note}
use Rattle.portion_ctl.specs.declared.portion.Acted.{Acted}
use Rattle.portion_ctl.specs.declared.portion.Acted.TheVariants as Acted_is
use Rattle.portion_ctl.specs.declared.portion.Flushed.{Flushed}
use Rattle.portion_ctl.specs.declared.portion.Flushed.TheVariants as Flushed_is
use Rattle.portion_ctl.specs.declared.portion.Kept.{Kept}
use Rattle.portion_ctl.specs.declared.portion.Undone.{Undone}
use Rattle.portion_ctl.specs.declared.portion.Verdict.{Verdict}
use Rattle.portion_ctl.specs.declared.portion.Verdict.TheVariants as Verdict_is
use Rattle.try_runs.specs.Ends.{end_of}
use Rattle.try_runs.specs.Fills.{Portion, portion_run, next_fill, fills_with, corefill_notes}
use Rattle.portion_ctl.specs.Stands.{IsOpen, StandsFor, StandsAlike}
use Rattle.portion_ctl.specs.Views.{ReadyView, OpenView, EndedView, FlushingView, rests_with}
use Rattle.portion_ctl.specs.Walks.{all_flushed, all_inserted, foreign_lines, flushed_lines}

-- the code lies where this memory's bytes do, and its lines have this size
pub record FitsMemory (code : CodeView) (memory : BackingView) (line_bytes : ℕ) : Type 0 where
  pub base : code.base ≡ memory.base
  pub bytes : length code.bytes ≡ length memory.view
  pub lines : memory.line_bytes ≡ line_bytes

-- ---- an opening

-- an open try of no act
abbrev pub opened_from : ReadyView → Bool → BackingView → OpenView
opened_from s locked memory = record {
  core = s.core;
  limits = s.limits;
  opening = s.regs;
  regs = s.regs;
  status = Run;
  acts = 0;
  cache = no_try_lines s.limits.line_bytes s.limits.core_sets s.limits.core_ways;
  read_set = no_lines s.limits.sig_bits;
  write_set = no_lines s.limits.sig_bits;
  foreign_set = all_inserted (no_lines s.limits.sig_bits) (foreign_lines locked memory);
  held = [];
  locked = locked;
}

-- An opening starts a try of no act. Under the lock it flushes every dirty line in walk order,
-- and no line is foreign; else the dirty lines are.
pub record OpensPortion
    (s : ReadyView) (locked : Bool) (memory new_memory : BackingView) (before after : Trace)
    (o : OpenView) : Type 0 where
  pub opened : o ≡ opened_from s locked memory
  pub foreign : IsImage o.foreign_set (foreign_lines locked memory)
  pub flushes : new_memory ≡ all_flushed memory (flushed_lines locked memory)
  pub notes : after
      ≡ all_noted before
      (flushes_notes (shape_of memory) memory.tags (flushed_lines locked memory))
  pub backing : IsBacking new_memory

-- ---- what others change

-- Takes note of a line that another changed. What the portion stands for stays.
pub record Hears (old new : OpenView) (l : Line) : Type 0 where
  pub set : new ≡ record old { foreign_set = inserted old.foreign_set l }
  pub image : (lines : List Line) → IsImage old.foreign_set lines
      → IsImage new.foreign_set (lines ++ l ∷ [])
  pub stands : StandsAlike old new

-- the same for all lines of a signature
pub record HearsAll (old new : OpenView) (s : Sets) : Type 0 where
  pub set : new ≡ record old { foreign_set = joined old.foreign_set s }
  pub image : (lines more : List Line) → IsImage old.foreign_set lines → IsImage s more
      → IsImage new.foreign_set (lines ++ more)
  pub stands : StandsAlike old new

-- ---- an act

-- what an act leaves of an open portion beside its try
pub record IsSameTry (old new : OpenView) : Type 0 where
  pub core : new.core ≡ old.core
  pub limits : new.limits ≡ old.limits
  pub opening : new.opening ≡ old.opening
  pub foreign : new.foreign_set ≡ old.foreign_set
  pub locked : new.locked ≡ old.locked
  pub kept : IsOpen new

-- whatever a portion stands for, an act leaves these
abbrev pub KeepsTry : OpenView → Acted → Type 0
KeepsTry old (Acted_is.Ran new) = IsSameTry old new
KeepsTry old (Acted_is.Ends ended) = IsSameTry old ended.try

-- the line that the next act of a portion fills
abbrev pub portion_fill : CodeView → ℕ → Portion → Option Line
portion_fill code line_bytes p = next_fill code line_bytes (portion_run code line_bytes p)

-- a portion with one act more, over its fills with memory's copy of the line that the act fills
abbrev pub with_act : CodeView → BackingView → ℕ → Portion → Portion
with_act code memory line_bytes p = record p {
  fills = fills_with p.fills (copy_of memory) (portion_fill code line_bytes p);
  acts = suc p.acts;
}

-- A portion ends exactly where a cause stands, with nothing done; else it makes one act.
abbrev pub Acts : CodeView → BackingView → Portion → OpenView → Acted → Type 0
Acts code memory p old (Acted_is.Ran new) =
    let n = old.limits.line_bytes in
    (end_of code old.limits p.acts (portion_run code n p) ≡ None)
    × StandsFor code new (with_act code memory n p)
Acts code memory p old (Acted_is.Ends ended) =
    let n = old.limits.line_bytes in
    (end_of code old.limits p.acts (portion_run code n p) ≡ Some ended.cause)
    × (ended.try ≡ old)

-- the notes of that: of the line that the act fills, and none where the try ends
abbrev pub act_notes : CodeView → Portion → OpenView → Acted → List Note
act_notes code p old (Acted_is.Ran new) =
    corefill_notes old.core (portion_fill code old.limits.line_bytes p)
act_notes code p old (Acted_is.Ends ended) = []

-- ---- the ruling

-- a clash exactly where the read and the foreign sets meet; the try is handed on
abbrev pub HasVerdict : EndedView → Verdict → Type 0
HasVerdict s (Verdict_is.Clash clash) = Meet s.try.read_set s.try.foreign_set × (clash ≡ s)
HasVerdict s (Verdict_is.Clear clear) = (Meet s.try.read_set s.try.foreign_set → ⊥) × (clear ≡ s)

-- the core keeps what its try came to
pub record IsKeptOf (s : EndedView) (kept : Kept) : Type 0 where
  pub ready : kept.ready ≡ rests_with s.try s.try.regs
  pub status : kept.status ≡ s.try.status
  pub n : kept.n ≡ s.try.acts
  pub cause : kept.cause ≡ s.cause
  pub out : kept.out.items ≡ s.try.held

-- the core has the registers of the opening, and so many flushes are due to it
pub record IsUndoneOf (s : EndedView) (due : ℕ) (undone : Undone) : Type 0 where
  pub flushing : undone.flushing ≡ record {
    core = s.try.core;
    limits = s.try.limits;
    regs = s.try.opening;
    read_set = s.try.read_set;
    due = due;
  }
  pub n : undone.n ≡ s.try.acts
  pub cause : undone.cause ≡ s.cause

-- ---- flushes after a rollback

-- the first dirty line, in walk order, that is a member of the try's read set, where a flush is due
abbrev pub next_flush : FlushingView → BackingView → Option Line
next_flush s memory = if s.due == 0 then None else find (is_member s.read_set) (dirty_in memory)

abbrev pub resting_from : FlushingView → ReadyView
resting_from s = record { core = s.core; limits = s.limits; regs = s.regs }

-- nothing is done where no line is to be flushed; else that line is, and one flush fewer is due
abbrev pub Flushes : FlushingView → BackingView → Option Line → Flushed → BackingView → Type 0
Flushes s memory None (Flushed_is.Done ready) new_memory =
    (ready ≡ resting_from s) × (new_memory ≡ memory)
Flushes s memory None (Flushed_is.Wrote flushing) new_memory = ⊥
Flushes s memory (Some l) (Flushed_is.Done ready) new_memory = ⊥
Flushes s memory (Some l) (Flushed_is.Wrote flushing) new_memory =
    (flushing ≡ record s { due = s.due - 1 }) × (new_memory ≡ flushed memory l)

-- the notes of a flush of this line, if there is one
abbrev pub step_notes : BackingView → Option Line → List Note
step_notes memory None = []
step_notes memory (Some l) = flush_notes (shape_of memory) memory.tags l
