-- One event of a hart, and one act of a kernel, by the world that a machine without portions shows.
use Rattle.std.specs.Prelude.{ℕ, ◌≡◌, ◌++◌, Bool, List, Option}
use Rattle.schedule_log.specs.declared.entry.Entry.{Entry}
use Rattle.line_memory.specs.Tags.{Shape}
use Rattle.offload_calls.specs.State.{State}
use Rattle.offload_calls.specs.CoreActs.{core_acts}
use Rattle.offload_calls.specs.LineUses.{LineUse}
use Rattle.run_report.specs.Runs.{executed}
use Rattle.chip_laws.specs.Design.{Design, setup_of}
use Rattle.chip_laws.specs.Uses.{after_use, use_notes}
use Rattle.baseline_laws.specs.Rules.{hart_entry}
use Rattle.baseline_laws.specs.Worlds.{World}
use Rattle.hart_turns.specs.Flat.{next_use}
use Rattle.plain_chip.specs.Events.{entry_use}
use Rattle.plain_chip.specs.Shows.{ShowsPlain}
use Rattle.plain_chip.specs.Views.{PlainView}

-- the second world has this flat state, and of the first the use of a line by holder h
pub record IsAfterUse
    (shape : Shape) (w v : World) (flat : State) (h : ℕ) (used : Option LineUse) : Type 0 where
  pub flat_is : v.flat ≡ flat
  pub tags_are : v.tags ≡ after_use shape w.tags h used
  pub notes_are : v.notes ≡ w.notes ++ use_notes shape w.tags h used

-- one event of hart h: the machine then shows each world after it
pub record HartHappened
    (d : Design) (shape : Shape) (w : World) (h : ℕ) (held : Bool) (new : PlainView)
    (entry : Entry) (puts : List ℕ) : Type 0 where
  pub entry_is : entry ≡ hart_entry (setup_of d) w.flat h held
  pub shows : (v : World)
      → IsAfterUse shape w v (executed (setup_of d) w.flat entry) h
      (entry_use (setup_of d) w.flat entry)
      → ShowsPlain d shape new v
  pub output : (executed (setup_of d) w.flat entry).output ≡ w.flat.output ++ puts

-- one act of core j's kernel by a holder: the machine then shows each world after it
pub record KernelHappened
    (d : Design) (shape : Shape) (w : World) (j holder : ℕ) (new : PlainView) (puts : List ℕ)
    : Type 0 where
  pub shows : (v : World)
      → IsAfterUse shape w v (core_acts (setup_of d) w.flat j 1) holder
      (next_use (setup_of d) (w.flat.cores j).regs)
      → ShowsPlain d shape new v
  pub output : (core_acts (setup_of d) w.flat j 1).output ≡ w.flat.output ++ puts
