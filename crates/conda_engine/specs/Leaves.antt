-- What a run leaves, by its answer.
use Rattle.std.specs.Prelude.{◌≡◌, ◌≢◌, ℕ, List, IsTrue, false, Some, IfSome}
use Rattle.conda_host.specs.declared.outside.Role.{Role}
use Rattle.conda_host.specs.declared.outside.Role.TheVariants.{Config, Image, Schedule, Order, Report, Output}
use Rattle.conda_host.specs.State.{HostState, KeepsCreated, is_created}
use Rattle.command_run.specs.Driving.{CreatedHoldsFront}
use Rattle.command_words.specs.Words.{Files}
use Rattle.command_answers.specs.declared.status.Status.{Status}
use Rattle.command_answers.specs.declared.status.Status.TheVariants as status
use Rattle.command_answers.specs.Verdict.{Texts}

-- at Done the files hold their texts
pub record IsDone (files : Files) (old new : HostState) (texts : Texts) : Type 0 where
  pub order : IsTrue old.tells → new.file files.order ≡ Some texts.order
  pub report : IsTrue old.tells → new.file files.report ≡ Some texts.report
  pub output : IsTrue old.tells → IfSome files.output (λ name. new.file name ≡ Some texts.output)

-- a role that wasn't created stays as it was
pub record KeepsRole (old new : HostState) (role : Role) : Type 0 where
  pub same : is_created old role ≡ false → new.role role ≡ old.role role

-- a run that stopped: at a bad line, or at a limit of the schedule
abbrev pub IsStop : Status → Type 0
IsStop (status.Schedule line why) = Unit {0}
IsStop (status.TooLarge Schedule limit) = Unit {0}
IsStop other = ⊥

-- then order and output hold their texts so far, and no report was created
pub record HasStopped (files : Files) (old new : HostState) (texts : Texts) : Type 0 where
  pub order : IsTrue old.tells → new.file files.order ≡ Some texts.order
  pub output : IsTrue old.tells → IfSome files.output (λ name. new.file name ≡ Some texts.output)
  pub report : KeepsRole old new Report

-- each file that was created holds a front of its text
pub record HoldRunFronts (files : Files) (old new : HostState) (texts : Texts) : Type 0 where
  pub order : IsTrue old.tells → CreatedHoldsFront old new Order texts.order files.order
  pub report : IsTrue old.tells → CreatedHoldsFront old new Report texts.report files.report
  pub output : IsTrue old.tells
      → IfSome files.output (CreatedHoldsFront old new Output texts.output)

-- all files but those that a run creates stay
pub record KeepsOthers (files : Files) (old new : HostState) : Type 0 where
  pub same : IsTrue old.tells → (n : List ℕ) → n ≢ files.order → n ≢ files.report
      → IfSome files.output (λ name. n ≢ name) → new.file n ≡ old.file n

-- an answer to which no file was created: memory ran out, or configuration or image were refused
abbrev pub IsUnmade : Status → Type 0
IsUnmade (status.Config fault) = Unit {0}
IsUnmade (status.Image fault) = Unit {0}
IsUnmade (status.TooLarge Config limit) = Unit {0}
IsUnmade (status.TooLarge Image limit) = Unit {0}
IsUnmade (status.ReadFault Config) = Unit {0}
IsUnmade (status.ReadFault Image) = Unit {0}
IsUnmade status.OutOfMemory = Unit {0}
IsUnmade other = ⊥

-- no file changed, and nothing that a role has created
pub record MadeNothing (old new : HostState) : Type 0 where
  pub files : (n : List ℕ) → new.file n ≡ old.file n
  pub roles : (r : Role) → KeepsCreated (old.role r) (new.role r)
