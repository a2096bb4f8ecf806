-- A run before its first event, with its sinks.
use Rattle.std.specs.Prelude.{◌≡◌, Bool, [], Some, None, IfSome, IsSomeAnd, is_some}
use Rattle.conda_host.specs.declared.outside.Role.{Role}
use Rattle.conda_host.specs.declared.outside.Role.TheVariants.{Order, Output, Report}
use Rattle.streams.specs.declared.sinks.Sinks.{Sinks}
use Rattle.streams.specs.Sink.{SinkView}
use Rattle.machine_run.specs.declared.task.Task.{Task}

-- a sink of a role to which nothing was put
pub record IsUnusedSink (role : Role) (sink : SinkView) : Type 0 where
  pub role_is : sink.role ≡ role
  pub none : sink.pending ≡ []

-- the sinks of a run: one for the order, and one for the output where it is wanted
pub record AreNewSinks (with_output : Bool) (sinks : Sinks) : Type 0 where
  pub order : (one : SinkView) × (sinks.first ≡ Some one) × IsUnusedSink Order one
  pub output : IfSome sinks.second (IsUnusedSink Output)
  pub both : is_some sinks.second ≡ with_output

-- the sinks of a report: one for it alone
pub record AreReportSinks (sinks : Sinks) : Type 0 where
  pub report : IsSomeAnd sinks.first (IsUnusedSink Report)
  pub alone : sinks.second ≡ None

-- nothing was run
pub record IsNewTask {A : Type 0} (with_output : Bool) (task : Task A) : Type 0 where
  pub events : task.run.events ≡ 0
  pub bytes : task.run.output_bytes ≡ 0
  pub sinks : AreNewSinks with_output task.sinks
  pub report : AreReportSinks task.report
