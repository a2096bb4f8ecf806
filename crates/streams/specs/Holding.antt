-- What the files of sinks hold.
use Rattle.std.specs.Prelude.{◌≡◌, ℕ, Bool, IsTrue, List, Some}
use Rattle.conda_host.specs.declared.outside.Role.{Role}
use Rattle.conda_host.specs.State.{HostState}
use Rattle.streams.specs.Fronts.{IsFrontOf}

-- the file of a role's sink, where it has one, holds this text
pub record SinkHolds (s : HostState) (sinks : Role → Bool) (role : Role) (text : List ℕ)
    : Type 0 where
  pub file : IsTrue s.tells → IsTrue (sinks role) → s.file (s.role role).name ≡ Some text

-- it holds a front of this text
pub record SinkHoldsFront (s : HostState) (sinks : Role → Bool) (role : Role) (text : List ℕ)
    : Type 0 where
  pub written : List ℕ
  pub file : IsTrue s.tells → IsTrue (sinks role) → s.file (s.role role).name ≡ Some written
  pub front : IsTrue s.tells → IsTrue (sinks role) → IsFrontOf written text
