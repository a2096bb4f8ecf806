-- What a command may do, what its bytes lead to, and what its answers say and leave.
use Rattle.std.specs.Prelude.{◌≡◌, ℕ, Bool, true, false, IsTrue, List, Option, Some, None, IfSome, IsSomeAnd, is_some}
use Rattle.conda_host.specs.declared.outside.Role.{Role}
use Rattle.conda_host.specs.State.{HostState, is_created, is_opened, Rose}
use Rattle.streams.specs.Using.{Uses, KeepsTo}
use Rattle.command_run.specs.Driving.{HoldsFrontAt}
use Rattle.command_answers.specs.declared.status.Status.{Status}
use Rattle.command_answers.specs.declared.status.Status.TheVariants as status

-- A command: by each answer the names of the files that it has opened and created for roles by
-- then, the role that it opens before it creates any, and whether it may say that memory ran out.
pub record Command : Type 0 where
  pub opens : Status → Role → Option (List ℕ)
  pub creates : Status → Role → Option (List ℕ)
  pub opens_first : Option Role
  pub takes_memory : Bool

-- what the bytes that it reads lead to: its status where nothing fails, and the text of each role's
-- file
pub record Outcome : Type 0 where
  pub verdict : Status
  pub text : Role → List ℕ

-- Why an answer comes: a fault where the count of its role and of the role's name rose, want of
-- memory where memory is taken, and any other where the bytes lead to it.
abbrev pub HasCause : Command → Outcome → HostState → HostState → Status → Type 0
HasCause k o old new (status.ReadFault r) =
    IsSomeAnd (k.opens (status.ReadFault r) r) (Rose old new r)
HasCause k o old new (status.WriteFault r) =
    IsSomeAnd (k.creates (status.WriteFault r) r) (Rose old new r)
HasCause k o old new status.OutOfMemory = IsTrue k.takes_memory
HasCause k o old new other = IsTrue old.tells → other ≡ o.verdict

abbrev pub opened_at : Command → Status → Role → Bool
opened_at k answer r = is_some (k.opens answer r)

-- what it uses of its host by an answer
abbrev pub uses_at : Command → Status → Uses
uses_at k answer = record { opens = opened_at k answer; creates = k.creates answer }

abbrev pub no_name : Role → Option (List ℕ)
no_name r = None

-- the same, where it has created no file
abbrev pub uses_before : Command → Status → Uses
uses_before k answer = record { opens = opened_at k answer; creates = no_name }

-- an answer that says that the host failed
abbrev pub is_fault : Status → Bool
is_fault (status.ReadFault r) = true
is_fault (status.WriteFault r) = true
is_fault other = false

-- the files that are created hold their texts
pub record HaveTexts (k : Command) (o : Outcome) (new : HostState) (answer : Status) : Type 0 where
  pub each : (r : Role) (n : List ℕ) → k.creates answer r ≡ Some n → new.file n ≡ Some (o.text r)

-- each file that was created holds a front of its text
pub record HaveTextFronts (k : Command) (o : Outcome) (old new : HostState) (answer : Status)
    : Type 0 where
  pub each : (r : Role) (n : List ℕ) → k.creates answer r ≡ Some n
      → is_created old r ≡ false → IsTrue (is_created new r) → HoldsFrontAt new (o.text r) n

-- where the role that is opened first isn't opened, no file was created
abbrev pub CreatesAfter : Command → HostState → HostState → Status → Role → Type 0
CreatesAfter k old new answer r = is_opened new r ≡ false → KeepsTo (uses_before k answer) old new

-- what a command answers and leaves
pub record Answers (k : Command) (o : Outcome) (old new : HostState) (answer : Status)
    : Type 0 where
  pub cause : HasCause k o old new answer
  pub keeps : KeepsTo (uses_at k answer) old new
  pub first : IfSome k.opens_first (CreatesAfter k old new answer)
  pub texts : IsTrue old.tells → is_fault answer ≡ false → HaveTexts k o new answer
  pub fronts : IsTrue old.tells → HaveTextFronts k o old new answer
