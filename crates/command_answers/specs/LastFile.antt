-- A file that is made at a command's end.
use Rattle.std.specs.Prelude.{◌≡◌, ◌⊎◌, ℕ, false, ◌==◌, List, Option, Some, None, if◌then◌else◌}
use Rattle.conda_host.specs.declared.outside.Role.{Role}
use Rattle.conda_host.specs.Role.{index_of}
use Rattle.command_answers.specs.declared.status.Status.{Status}
use Rattle.command_answers.specs.declared.status.Status.TheVariants as status
use Rattle.command_answers.specs.Answers.{Command, Outcome, no_name}

-- one role's file
abbrev pub file_of_role : Role → List ℕ → Role → Option (List ℕ)
file_of_role role name r = if index_of role == index_of r then Some name else None

-- one file that is created last: it is there at Done, and may be where its creation or writing
-- failed
abbrev pub created_last : Role → List ℕ → Status → Role → Option (List ℕ)
created_last role name status.Done = file_of_role role name
created_last role name (status.WriteFault r) = file_of_role role name
created_last role name other = no_name

abbrev pub opens_nothing : Status → Role → Option (List ℕ)
opens_nothing answer = no_name

-- the steps that make it
abbrev pub file_command : Role → List ℕ → Command
file_command role name = record {
  opens = opens_nothing;
  creates = created_last role name;
  opens_first = None;
  takes_memory = false;
}

-- an answer of them: the file is made, or creating or writing it failed
abbrev pub IsFileEnd : Role → Status → Type 0
IsFileEnd role answer = (answer ≡ status.Done) ⊎ (answer ≡ status.WriteFault role)

-- a text for one file
abbrev pub text_outcome : List ℕ → Outcome
text_outcome text = record { verdict = status.Done; text = λ r. text }
