-- The notes of traffic of one entry, from the world before it.
use Rattle.std.specs.Prelude.{ℕ, List, [], Option, Some, None}
use Rattle.conda_base.specs.declared.Line.{Line}
use Rattle.schedule_log.specs.declared.entry.Entry.{Entry}
use Rattle.schedule_log.specs.declared.entry.Entry.TheVariants.{Step, Lock, Spec, Commit, Flush}
use Rattle.rv32_hart.specs.Act.{plan_of}
use Rattle.traffic_trace.specs.declared.note.Note.{Note}
use Rattle.line_memory.specs.Notes.{flushes_notes, commit_notes}
use Rattle.conda_base.specs.LineLists.{line_list}
use Rattle.offload_calls.specs.LineUses.{LineUse, line_use}
use Rattle.try_runs.specs.Fills.{next_fill, corefill_notes}
use Rattle.chip_laws.specs.Design.{Design, hart_shape}
use Rattle.chip_laws.specs.Uses.{use_notes}
use Rattle.chip_laws.specs.Rules.{World, Opening, try_of, writes_of, dirty_of, flush_line}

-- the line that the next act of hart h accesses
abbrev pub hart_use : Design → World → ℕ → Option LineUse
hart_use d w h = line_use d.config.line_bytes (plan_of d.image.code (w.flat.harts h).regs)

-- the line that the next act of a try fills
abbrev pub filled_line : Design → Opening → Option Line
filled_line d o = next_fill d.image.code d.config.line_bytes (try_of d o)

abbrev pub filled_of : Design → Option Opening → Option Line
filled_of d None = None
filled_of d (Some o) = filled_line d o

unfoldable pub notes_of : Design → World → Entry → List Note
notes_of d w (Step h) = use_notes (hart_shape d) w.tags h (hart_use d w h)
notes_of d w (Lock j) = flushes_notes (hart_shape d) w.tags (dirty_of d w)
notes_of d w (Flush j) = flushes_notes (hart_shape d) w.tags (line_list (flush_line d w j))
notes_of d w (Spec j) = corefill_notes j (filled_of d (w.seats j).opening)
notes_of d w (Commit j n cause) =
    commit_notes (hart_shape d) w.tags j (writes_of d (w.seats j).opening)
notes_of d w other = []
