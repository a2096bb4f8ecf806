-- The world of a chip, and the entry that each event has in it.
use Rattle.std.specs.Prelude.{ℕ, ◌==◌, ◌&&◌, not, Bool, false, List, [], nat_lt, find, Option, Some, None, is_some, if◌then◌else◌}
use Rattle.conda_base.specs.declared.Line.{Line}
use Rattle.conda_base.specs.declared.actor.Actor.{Actor}
use Rattle.conda_base.specs.declared.actor.Actor.TheVariants as Actor_is
use Rattle.schedule_log.specs.declared.entry.Entry.{Entry}
use Rattle.schedule_log.specs.declared.entry.Entry.TheVariants.{Step, Waits, Idle, Held, Open, Lock, Spec, Commit, Back, Flush}
use Rattle.rv32_hart.specs.declared.regs.Regs.{Regs}
use Rattle.traffic_trace.specs.declared.note.Note.{Note}
use Rattle.line_memory.specs.Tags.{Tags, some_below, dirty_lines}
use Rattle.bloom_sig.specs.Images.{is_member_of, is_meeting}
use Rattle.offload_calls.specs.State.{State, status_of}
use Rattle.offload_calls.specs.HartAct.{hart_runs, waits_next}
use Rattle.offload_calls.specs.CoreActs.{core_runs}
use Rattle.try_runs.specs.Tries.{Try, writes}
use Rattle.try_runs.specs.Fills.{Fills, Portion, portion_run}
use Rattle.try_runs.specs.Limits.{limits_of}
use Rattle.try_runs.specs.Ends.{end_of}
use Rattle.chip_laws.specs.Design.{Design, hart_shape}

-- an open try: its core's registers at the opening, how many acts it made, what its lines were
-- filled with, and the lines that others had dirty at its opening or changed since
pub record Opening : Type 0 where
  pub locked : Bool
  pub regs : Regs
  pub acts : ℕ
  pub fills : Fills
  pub foreign : List Line

-- what stands of a core beside the flat state: its rollbacks since its last commit or launch, the
-- lines that the try of its last rollback read, the flushes that are due, and the open try
pub record Seat : Type 0 where
  pub backs : ℕ
  pub last : List Line
  pub due : ℕ
  pub opening : Option Opening

-- all that a list of events comes to: flat memory, tags, memory's copies of lines, cores, and
-- notes, the oldest first
pub record World : Type 0 where
  pub flat : State
  pub tags : Tags
  pub copies : Line → List ℕ
  pub seats : ℕ → Seat
  pub notes : List Note

-- ---- an open try

-- what fixes what the try came to
abbrev pub portion_of : Opening → Portion
portion_of o = record { regs = o.regs; fills = o.fills; acts = o.acts }

abbrev pub try_of : Design → Opening → Try
try_of d o = portion_run d.image.code d.config.line_bytes (portion_of o)

abbrev pub opening_end : Design → Opening → Option ℕ
opening_end d o = end_of d.image.code (limits_of d.config) o.acts (try_of d o)

-- the lines that the try read and those that it stored to; none where no try is open
abbrev pub reads_of : Design → Option Opening → List Line
reads_of d None = []
reads_of d (Some o) = (try_of d o).reads

abbrev pub writes_of : Design → Option Opening → List Line
writes_of d None = []
writes_of d (Some o) = writes d.config.line_bytes (try_of d o)

-- a line that the try read has in each segment the bit of one that is foreign to it
abbrev pub is_conflict : Design → Opening → Bool
is_conflict d o = is_meeting d.config.sig_bits (try_of d o).reads o.foreign

abbrev pub is_locked : Option Opening → Bool
is_locked None = false
is_locked (Some o) = o.locked

-- some core below n, other than those to skip, has a locked try open
abbrev pub is_locked_below : World → (ℕ → Bool) → ℕ → Bool
is_locked_below w skip n = some_below n (λ k. not (skip k) && is_locked (w.seats k).opening)

-- ---- flushes

abbrev pub dirty_of : Design → World → List Line
dirty_of d w = dirty_lines (hart_shape d) w.tags

-- the line that core j would flush: the first dirty one that is a member of those of its last
-- rollback
abbrev pub flush_line : Design → World → ℕ → Option Line
flush_line d w j = find (is_member_of d.config.sig_bits (w.seats j).last) (dirty_of d w)

-- ---- entries

-- flushes are due to the core, and some dirty line is a member
abbrev pub is_flushing : Design → World → ℕ → Bool
is_flushing d w j = nat_lt 0 (w.seats j).due && is_some (flush_line d w j)

-- the ruling on a try, by the cause of its end
abbrev pub ruling : Design → ℕ → Opening → Option ℕ → Entry
ruling d j o None = Spec j
ruling d j o (Some cause) = if is_conflict d o then Back j o.acts cause else Commit j o.acts cause

abbrev pub core_entry : Design → World → ℕ → Option Opening → Entry
core_entry d w j None =
    if is_flushing d w j then Flush j
    else if (w.seats j).backs == d.config.retries then Lock j
    else Open j
core_entry d w j (Some o) = ruling d j o (opening_end d o)

-- the entry of an event
unfoldable pub next : Design → World → Actor → Entry
next d w (Actor_is.Hart h) =
    if not (hart_runs (w.flat.harts h).status) then Idle (Actor_is.Hart h)
    else if is_locked_below w (λ k. false) d.config.cores then Held (Actor_is.Hart h)
    else if waits_next d.image.code (status_of d.config.cores w.flat.cores) (w.flat.harts h).regs
    then Waits h
    else Step h
next d w (Actor_is.Core j) =
    if not (core_runs (w.flat.cores j).status) then Idle (Actor_is.Core j)
    else if is_locked_below w (λ k. k == j) d.config.cores then Held (Actor_is.Core j)
    else core_entry d w j (w.seats j).opening
