-- What one event of a near-data core comes to: what the core then holds, and what is left of
-- memory, the lock and the traffic.
use Rattle.std.specs.Prelude.{ℕ, ◌≡◌, ◌+◌, ◌-◌, ◌==◌, ◌⊎◌, Bool, List, [], slice_set, Option, Some, None, if◌then◌else◌}
use Rattle.conda_base.specs.declared.Line.{Line}
use Rattle.rv32_hart.specs.Code.{CodeView}
use Rattle.schedule_log.specs.declared.entry.Entry.{Entry}
use Rattle.schedule_log.specs.declared.entry.Entry.TheVariants.{Open, Lock, Spec, Commit, Back, Flush}
use Rattle.line_memory.specs.Backing.{BackingView, flushed, noted_flush}
use Rattle.line_memory.specs.Notes.{all_noted}
use Rattle.traffic_trace.specs.Notes.{Trace}
use Rattle.bloom_sig.specs.Signatures.{Meet}
use Rattle.offload_calls.specs.declared.status.CoreStatus.{CoreStatus}
use Rattle.fallback_lock.specs.Locks.{Counts, backs_of, with_backs, with_locked, committed}
use Rattle.try_runs.specs.Fills.{Fills, Portion, portion_run}
use Rattle.try_runs.specs.Ends.{end_of}
use Rattle.portion_ctl.specs.Views.{ReadyView, OpenView, EndedView, FlushingView}
use Rattle.portion_ctl.specs.Stands.{StandsFor}
use Rattle.portion_ctl.specs.States.{OpensPortion, resting_from, Acts, act_notes, IsSameTry, IsKeptOf, IsUndoneOf}
use Rattle.portion_ctl.specs.declared.portion.Acted.TheVariants as Acted_is
use Rattle.portion_ctl.specs.declared.portion.Kept.{Kept}
use Rattle.portion_ctl.specs.declared.portion.Undone.{Undone}
use Rattle.conflict_resolve.specs.Backs.{due_count, Backs}
use Rattle.conflict_resolve.specs.Commits.{change, Commits}
use Rattle.chip_core.specs.declared.stage.Stage.{Stage}
use Rattle.chip_core.specs.declared.stage.Stage.TheVariants as Stage_is
use Rattle.chip_core.specs.declared.cores.Cores.{Cores}
use Rattle.chip_core.specs.Rulings.{all_joined}

-- what an event was: its entry, and the bytes that it puts
pub record Turned : Type 0 where
  pub entry : Entry
  pub puts : List ℕ

abbrev pub turned : Entry → List ℕ → Turned
turned entry puts = record { entry = entry; puts = puts }

-- what a core's event finds and leaves beside its own portion
pub record Around : Type 0 where
  pub memory : BackingView
  pub lock : Counts
  pub log : Trace

abbrev pub around : BackingView → Counts → Trace → Around
around b lock log = record { memory = b; lock = lock; log = log }

-- the core's next try is one under the lock
abbrev pub is_spent : Counts → ℕ → Bool
is_spent lock j = backs_of lock j == lock.retries

-- a try opens, under the lock or not
pub record OpensTry
    (locked : Bool) (j : ℕ) (s : ReadyView) (old new : Around) (held : Stage) (event : Turned)
    : Type 0 where
  pub tried : OpenView
  pub holds : held ≡ Stage_is.Open tried
  pub opens : OpensPortion s locked old.memory new.memory old.log new.log tried
  pub stands : (code : CodeView) (fills : Fills)
      → StandsFor code tried (record { regs = s.regs; fills = fills; acts = 0 })
  pub lock : new.lock ≡ (if locked then with_locked old.lock j else old.lock)
  pub entry : event.entry ≡ (if locked then Lock j else Open j)
  pub puts : event.puts ≡ []

-- a line that is due is flushed
pub record FlushesLine
    (l : Line) (j : ℕ) (s : FlushingView) (old new : Around) (held : Stage) (event : Turned)
    : Type 0 where
  pub holds : held ≡ Stage_is.Flushing (record s { due = s.due - 1 })
  pub memory : new.memory ≡ flushed old.memory l
  pub lock : new.lock ≡ old.lock
  pub log : new.log ≡ noted_flush old.memory l old.log
  pub entry : event.entry ≡ Flush j
  pub puts : event.puts ≡ []

-- where no line is due any more, a try opens
abbrev pub FlushesOrOpens
    : Option Line → ℕ → FlushingView → Around → Around → Stage → Turned → Type 0
FlushesOrOpens None j s old new held event =
    OpensTry (is_spent old.lock j) j (resting_from s) old new held event
FlushesOrOpens (Some l) j s old new held event = FlushesLine l j s old new held event

-- an open try makes one act
pub record MakesAct
    (code : CodeView) (j : ℕ) (o : OpenView) (old new : Around) (held : Stage) (event : Turned)
    : Type 0 where
  pub tried : OpenView
  pub holds : held ≡ Stage_is.Open tried
  pub acts : (p : Portion) → StandsFor code o p → Acts code old.memory p o (Acted_is.Ran tried)
  pub notes : (p : Portion) → StandsFor code o p
      → new.log ≡ all_noted old.log (act_notes code p o (Acted_is.Ran tried))
  pub same : IsSameTry o tried
  pub memory : new.memory ≡ old.memory
  pub lock : new.lock ≡ old.lock
  pub entry : event.entry ≡ Spec j
  pub puts : event.puts ≡ []

-- the lock after a rollback of core j, whose count isn't past `retries`
abbrev pub lock_backed : Counts → ℕ → Counts
lock_backed lock j =
    if is_spent lock j then lock else with_backs lock j (backs_of lock j + 1)

-- a try is taken back
pub record RollsBack
    (j : ℕ) (c : EndedView) (old new : Around) (held : Stage) (event : Turned) : Type 0 where
  pub undone : Undone
  pub is_undone : IsUndoneOf c (due_count c.try.read_set old.memory) undone
  pub backs : (code : CodeView) (p : Portion) → StandsFor code c.try p
      → Backs old.memory c (portion_run code c.try.limits.line_bytes p) p undone
  pub holds : held ≡ Stage_is.Flushing undone.flushing
  pub memory : new.memory ≡ old.memory
  pub lock : new.lock ≡ lock_backed old.lock j
  pub log : new.log ≡ old.log
  pub entry : event.entry ≡ Back j c.try.acts c.cause
  pub puts : event.puts ≡ []

-- how all cores stand, and what the others hold
pub record Others : Type 0 where
  pub statuses : List CoreStatus
  pub portions : List Stage

abbrev pub others_in : Cores → Others
others_in cores = record { statuses = cores.statuses.items; portions = cores.portions.items }

-- a try is committed: core j stands as its try did, and all open tries are told of the lines that
-- it stored
pub record CommitsTry
    (j : ℕ) (c : EndedView) (old new : Around) (others left : Others) (held : Stage) (event : Turned)
    : Type 0 where
  pub kept : Kept
  pub keeps : IsKeptOf c kept
  pub commits : (code : CodeView) (p : Portion) → StandsFor code c.try p
      → Commits (change old.memory new.memory old.log new.log) c
      (portion_run code c.try.limits.line_bytes p) kept
  pub holds : held ≡ Stage_is.Ready kept.ready
  pub statuses : left.statuses ≡ slice_set others.statuses j kept.status
  pub portions : left.portions ≡ all_joined c.try.write_set others.portions
  pub lock : new.lock ≡ committed old.lock j
  pub entry : event.entry ≡ Commit j kept.n kept.cause
  pub puts : event.puts ≡ kept.out.items

-- The ruling on an ended try: where its reads meet what is foreign to it, it is taken back, else
-- it is committed.
abbrev pub RulesOn : ℕ → EndedView → Around → Around → Others → Others → Stage → Turned → Type 0
RulesOn j c old new others left held event =
    (Meet c.try.read_set c.try.foreign_set × (left ≡ others) × RollsBack j c old new held event)
    ⊎ ((Meet c.try.read_set c.try.foreign_set → ⊥)
    × CommitsTry j c old new others left held event)

-- the try ended here, by this cause
abbrev pub HasEnded : CodeView → OpenView → EndedView → Type 0
HasEnded code o c =
    (p : Portion) → StandsFor code o p
    → (end_of code o.limits p.acts (portion_run code o.limits.line_bytes p) ≡ Some c.cause)
    × (c.try ≡ o)

-- One event of an open try: an act, or the ruling on the try where it has ended.
abbrev pub ActsOrIsRuled
    : CodeView → ℕ → OpenView → Around → Around → Others → Others → Stage → Turned → Type 0
ActsOrIsRuled code j o old new others left held event =
    ((left ≡ others) × MakesAct code j o old new held event)
    ⊎ ((c : EndedView) × HasEnded code o c × RulesOn j c old new others left held event)
