-- Answers that the host causes.
use Rattle.std.specs.Prelude.{◌≡◌, ◌⊎◌, ℕ, List, IsTrue, Option, Some, None, IsSomeAnd}
use Rattle.conda_host.specs.declared.outside.Role.{Role}
use Rattle.conda_host.specs.declared.outside.Role.TheVariants.{Config, Image, Schedule, Order, Report, Output}
use Rattle.conda_host.specs.State.{HostState, Rose}
use Rattle.command_words.specs.Words.{Files}
use Rattle.command_answers.specs.declared.status.Status.{Status}
use Rattle.command_answers.specs.declared.status.Status.TheVariants as status

-- the name of a role that a run opens, and of one that it creates
abbrev pub opened_name : Files → Role → Option (List ℕ)
opened_name files Config = Some files.config
opened_name files Image = Some files.image
opened_name files Schedule = Some files.schedule
opened_name files role = None

abbrev pub created_name : Files → Role → Option (List ℕ)
created_name files Order = Some files.order
created_name files Report = Some files.report
created_name files Output = files.output
created_name files role = None

-- an answer whose cause is the host: the count of its role and of the role's name rose
abbrev pub IsHostFault : Files → HostState → HostState → Status → Type 0
IsHostFault files old new (status.ReadFault role) =
    IsSomeAnd (opened_name files role) (Rose old new role)
IsHostFault files old new (status.WriteFault role) =
    IsSomeAnd (created_name files role) (Rose old new role)
IsHostFault files old new other = ⊥

-- an answer that says that the host failed has this cause
abbrev pub IsFaultCaused : Files → HostState → HostState → Status → Type 0
IsFaultCaused files old new (status.ReadFault role) =
    IsHostFault files old new (status.ReadFault role)
IsFaultCaused files old new (status.WriteFault role) =
    IsHostFault files old new (status.WriteFault role)
IsFaultCaused files old new other = Unit {0}

-- the answer is the verdict, or the host failed
abbrev pub IsAnswer : Files → HostState → HostState → Status → Status → Type 0
IsAnswer files old new verdict answer =
    IsHostFault files old new answer ⊎ (IsTrue old.tells → answer ≡ verdict)

-- where no count of the host rose, it is the verdict
abbrev pub IsComplete : HostState → HostState → Status → Status → Type 0
IsComplete old new verdict answer = IsTrue old.tells
    → ((role : Role) (name : List ℕ) → Rose old new role name → ⊥) → answer ≡ verdict
