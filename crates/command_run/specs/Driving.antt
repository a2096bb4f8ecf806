-- The steps of a run from where its schedule is opened.
use Rattle.std.specs.Prelude.{◌≡◌, ℕ, false, IsTrue, List, [], Some, IfSome, Result, Ok, Err, length, unwrap_or}
use Rattle.conda_host.specs.declared.outside.Role.{Role}
use Rattle.conda_host.specs.declared.outside.Role.TheVariants.{Schedule, Order, Report, Output}
use Rattle.conda_host.specs.State.{HostState, is_created}
use Rattle.streams.specs.declared.fault.Fault.{Fault}
use Rattle.machine_run.specs.declared.run.Run.{Run}
use Rattle.machine_run.specs.declared.machine.Machine.{Ghosts}
use Rattle.machine_run.specs.declared.ending.Ending.{Ending}
use Rattle.machine_run.specs.declared.ending.Ending.TheVariants.{Whole}
use Rattle.machine_run.specs.Going.{verdict_of}
use Rattle.streams.specs.Fronts.{IsFrontOf}
use Rattle.schedule_log.specs.Texts.{order_text}
use Rattle.schedule_log.specs.Verdict.{good, schedule_verdict}
use Rattle.chip_laws.specs.Design.{Design}
use Rattle.run_report.specs.View.{View}
use Rattle.run_report.specs.Texts.{report_text}
use Rattle.command_run.specs.Names.{Names}

-- a role's file is made under a name, and is empty
pub record IsEmptyFile (s : HostState) (role : Role) (name : List ℕ) : Type 0 where
  pub created : IsTrue (s.role role).created
  pub named : IsTrue s.tells → (s.role role).name ≡ name
  pub written : IsTrue s.tells → (s.role role).written ≡ []
  pub file : IsTrue s.tells → s.file name ≡ Some []

-- order and output are made, and empty
pub record AreMadeTexts (names : Names) (s : HostState) : Type 0 where
  pub order : IsEmptyFile s Order names.order
  pub output : IfSome names.output (IsEmptyFile s Output)

-- the schedule is opened, and order and output are made
pub record IsStarted (names : Names) (old new : HostState) : Type 0 where
  pub opened : IsTrue (new.role Schedule).opened
  pub schedule : IsTrue old.tells → old.file names.schedule ≡ Some (new.role Schedule).left
  pub made : AreMadeTexts names new

abbrev pub bytes_of_file : HostState → List ℕ → List ℕ
bytes_of_file s name = unwrap_or (s.file name) []

-- order and output hold these texts
pub record HoldTexts (names : Names) (s : HostState) (journal bytes : List ℕ) : Type 0 where
  pub order : s.file names.order ≡ Some journal
  pub output : IfSome names.output (λ name. s.file name ≡ Some bytes)

-- a file holds a front of this text
pub record HoldsFrontAt (s : HostState) (text name : List ℕ) : Type 0 where
  pub written : List ℕ
  pub file : s.file name ≡ Some written
  pub front : IsFrontOf written text

pub record HoldTextFronts (names : Names) (s : HostState) (journal bytes : List ℕ) : Type 0 where
  pub order : HoldsFrontAt s journal names.order
  pub output : IfSome names.output (HoldsFrontAt s bytes)

-- the ending is the verdict on a schedule, the machine stands for its events that run, and the
-- files hold their texts
pub record HasRunTexts {A : Type 0} (m : Ghosts A) (names : Names) (d : Design) (bytes : List ℕ)
    (h : HostState) (run : Run A) (ending : Ending) : Type 0 where
  pub verdict : verdict_of ending ≡ schedule_verdict d.config.harts d.config.cores bytes
  pub stands : m.stands d run.machine (good d.config.harts d.config.cores bytes)
  pub texts : HoldTexts names h (order_text (m.journal d (good d.config.harts d.config.cores bytes)))
      (m.output d (good d.config.harts d.config.cores bytes))
  pub count : run.events ≡ length (good d.config.harts d.config.cores bytes)
  pub bytes_out : run.output_bytes ≡ length (m.output d (good d.config.harts d.config.cores bytes))

-- a schedule is run over files that were made
abbrev pub RunsTexts : {A : Type 0} → Ghosts A → Names → Design → List ℕ → HostState → Run A
    → Result Ending Fault → Type 0
RunsTexts m names d bytes h run (Ok ending) = HasRunTexts m names d bytes h run ending
RunsTexts m names d bytes h run (Err fault) =
    HoldTextFronts names h (order_text (m.journal d (good d.config.harts d.config.cores bytes)))
    (m.output d (good d.config.harts d.config.cores bytes))

-- what a run leaves that came to an ending; at the schedule's end also its report
abbrev pub LeavesFiles : {A : Type 0} → Ghosts A → (A → View) → Names → Design → List ℕ → HostState
    → Run A → Result Ending Fault → Type 0
LeavesFiles m shown names d bytes h run (Ok Whole) =
    HasRunTexts m names d bytes h run Whole ×
    (h.file names.report ≡ Some (report_text (shown run.machine) run.events run.output_bytes))
LeavesFiles m shown names d bytes h run (Ok ending) = HasRunTexts m names d bytes h run ending
LeavesFiles m shown names d bytes h run (Err fault) = Unit {0}

-- a file that was created for a role holds a front of this text
pub record CreatedHoldsFront (old new : HostState) (role : Role) (text name : List ℕ) : Type 0 where
  pub front : is_created old role ≡ false → IsTrue (is_created new role) → HoldsFrontAt new text name

pub record TextFronts (names : Names) (old new : HostState) (journal bytes : List ℕ) : Type 0 where
  pub order : CreatedHoldsFront old new Order journal names.order
  pub output : IfSome names.output (CreatedHoldsFront old new Output bytes)

-- the machine stands for the events of a schedule that run, and they were counted
pub record HasRunEvents {A : Type 0} (m : Ghosts A) (d : Design) (bytes : List ℕ) (run : Run A)
    : Type 0 where
  pub stands : m.stands d run.machine (good d.config.harts d.config.cores bytes)
  pub count : run.events ≡ length (good d.config.harts d.config.cores bytes)
  pub bytes_out : run.output_bytes ≡ length (m.output d (good d.config.harts d.config.cores bytes))

-- the files hold fronts of the texts of the events of a schedule that run, and where the report was
-- created, they were run
pub record CreatedHoldFronts {A : Type 0} (m : Ghosts A) (shown : A → View) (names : Names)
    (d : Design) (bytes : List ℕ) (old new : HostState) (run : Run A) : Type 0 where
  pub texts : TextFronts names old new (order_text (m.journal d (good d.config.harts d.config.cores bytes)))
      (m.output d (good d.config.harts d.config.cores bytes))
  pub report : CreatedHoldsFront old new Report
      (report_text (shown run.machine) run.events run.output_bytes) names.report
  pub ran : is_created old Report ≡ false → IsTrue (is_created new Report)
      → HasRunEvents m d bytes run
