use Rattle.std.proofs.Common.{◌+◌, ◌≤◌, ℕ, List, []}
use Rattle.std.specs.Prelude.{None}
use Rattle.schedule_log.specs.Verdict.{most_bytes}
use Rattle.chip_laws.specs.Design.{Design}
use Rattle.streams.specs.Seen.{IsLeft}
use Rattle.machine_run.specs.Going.{CanGoOn, point}
use Rattle.machine_run.specs.Running.{IsRun}
use Rattle.machine_run.specs.Turning.{IsMidway}
use Rattle.machine_run.proofs.schedule_run.run_schedule.Given as goal

abbrev pub invariant-loop-run : goal.invariant-loop-run
invariant-loop-run g l = record {
  can : CanGoOn g.M.Machine (point l.run (g.S.Streams.seen l.streams) l.reader);
  few : l.reader.ended + l.room ≤ most_bytes;
  leads : g.S.Streams.leads l.fn.streams l.streams None;
  midway : (d : Design) (bytes : List ℕ) → IsLeft (g.S.Streams.seen l.fn.streams) bytes → IsRun g.M.Machine d (g.S.Streams.seen l.fn.streams) l.fn.run []
      → IsMidway g.M.Machine d bytes (point l.run (g.S.Streams.seen l.streams) l.reader) l.room;
}

abbrev pub decreases-loop-run : goal.decreases-loop-run
decreases-loop-run g l = l.room
