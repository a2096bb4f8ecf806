-- The row of a command that reads one file, and makes another of it.
use Rattle.std.specs.Prelude.{◌≡◌, ℕ, ◌≤◌, true, List, [], IsTrue, Option, None, Result, Ok, Err, length, if◌then◌else◌, nat_lt}
use Rattle.conda_host.specs.declared.outside.Role.{Role}
use Rattle.conda_host.specs.State.{HostState}
use Rattle.command_run.specs.Driving.{bytes_of_file}
use Rattle.command_answers.specs.declared.status.Status.{Status}
use Rattle.command_answers.specs.declared.status.Status.TheVariants as status
use Rattle.command_answers.specs.Answers.{Command, Outcome}
use Rattle.command_answers.specs.LastFile.{created_last, file_of_role, text_outcome}
use Rattle.command_answers.specs.Preparing.{HoldsFile, IsFileError}

-- one role's file is opened, whatever the answer is
abbrev pub opens_file : Role → List ℕ → Status → Role → Option (List ℕ)
opens_file role name answer = file_of_role role name

abbrev pub making_command : Role → List ℕ → Role → List ℕ → Command
making_command from source into target = record {
  opens = opens_file from source;
  creates = created_last into target;
  opens_first = None;
  takes_memory = true;
}

abbrev pub refusal_outcome : Status → Outcome
refusal_outcome answer = record { verdict = answer; text = λ r. [] }

-- a text for the file that is made, or why there is none
abbrev pub said_outcome : Result (List ℕ) Status → Outcome
said_outcome (Ok text) = text_outcome text
said_outcome (Err answer) = refusal_outcome answer

-- what a file of these bytes leads to, where they say this
abbrev pub making_outcome : Role → ℕ → Result (List ℕ) Status → List ℕ → Outcome
making_outcome from limit said bytes =
    if nat_lt limit (length bytes) then refusal_outcome (status.TooLarge from limit)
    else said_outcome said

-- why bytes say no text
abbrev pub IsSaidError : Result (List ℕ) Status → Status → Type 0
IsSaidError said (status.Image fault) = said ≡ Err (status.Image fault)
IsSaidError said (status.Syntax line why) = said ≡ Err (status.Syntax line why)
IsSaidError said status.OutOfMemory = Unit {0}
IsSaidError said other = ⊥

-- this is the text that a file's bytes say
pub record IsMadeText (said : List ℕ → Result (List ℕ) Status) (old : HostState) (name : List ℕ)
    (limit : ℕ) (text : List ℕ) : Type 0 where
  pub bytes : List ℕ
  pub held : HoldsFile old name limit bytes
  pub text_is : said bytes ≡ Ok text

-- a file's bytes are refused with this answer
abbrev pub IsRefused : (List ℕ → Result (List ℕ) Status) → HostState → List ℕ → ℕ → Status → Type 0
IsRefused said old name limit answer =
    IsTrue old.tells → (length (bytes_of_file old name) ≤ limit) × (said (bytes_of_file old name) ≡ Err answer)

-- why a file says none
abbrev pub IsMakeError : (List ℕ → Result (List ℕ) Status) → HostState → HostState → Role
    → List ℕ → ℕ → Status → Type 0
IsMakeError said old new role name limit (status.Image fault) =
    IsRefused said old name limit (status.Image fault)
IsMakeError said old new role name limit (status.Syntax line why) =
    IsRefused said old name limit (status.Syntax line why)
IsMakeError said old new role name limit other = IsFileError old new role name limit other
