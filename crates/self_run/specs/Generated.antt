-- A generated workload after some of its events.
use Rattle.std.specs.Prelude.{◌≡◌, ℕ, ◌+◌, length}
use Rattle.machine_run.specs.declared.machine.Machine.{Ghosts}
use Rattle.machine_run.specs.declared.run.Run.{Run}
use Rattle.self_workload.specs.Draws.{generator_after}
use Rattle.self_workload.specs.Workload.{events_of_seed}
use Rattle.self_run.specs.declared.generated.Generated.{Generated}
use Rattle.self_run.specs.Designs.{design_of_seed}

-- the machine stands for the first so many events of a seed, and they and their bytes of output
-- were counted
pub record HasRunFirst {A : Type 0} (m : Ghosts A) (seed count : ℕ) (run : Run A) : Type 0 where
  pub stands : m.stands (design_of_seed seed) run.machine (events_of_seed seed count)
  pub events : run.events ≡ count
  pub bytes : run.output_bytes ≡ length (m.output (design_of_seed seed) (events_of_seed seed count))

-- and the next draw is that of the event after them
pub record IsAtEvent {A : Type 0} (m : Ghosts A) (count : ℕ) (g : Generated A) : Type 0 where
  pub ran : HasRunFirst m g.seed count g.run
  pub draws : g.draws ≡ generator_after g.seed (64 + count)
