-- The flat state that a list of entries leads to: one memory that executes the written order alone.
use Rattle.std.specs.Prelude.{List, fold}
use Rattle.schedule_log.specs.declared.entry.Entry.{Entry}
use Rattle.schedule_log.specs.declared.entry.Entry.TheVariants as Entry_is
use Rattle.offload_calls.specs.State.{Setup, State, start}
use Rattle.offload_calls.specs.HartAct.{hart_step}
use Rattle.offload_calls.specs.CoreActs.{core_acts}

-- a step is one act of its hart, a committed portion so many acts of its core with nothing between, and a kernel's act
-- is one; every other entry leaves the state
abbrev pub executed : Setup → State → Entry → State
executed s f (Entry_is.Step h) = hart_step s f h
executed s f (Entry_is.Commit j n cause) = core_acts s f j n
executed s f (Entry_is.Kern j) = core_acts s f j 1
executed s f other = f

abbrev pub flat_run_from : Setup → State → List Entry → State
flat_run_from s f entries = fold (executed s) f entries

abbrev pub flat_run : Setup → List Entry → State
flat_run s entries = flat_run_from s (start s) entries
