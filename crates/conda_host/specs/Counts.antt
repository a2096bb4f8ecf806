-- How a host counts its faults, where it counts exactly the calls that failed.
use Rattle.std.specs.Prelude.{◌≡◌, ◌≢◌, ℕ, ◌+◌, ◌-◌, ◌^◌, min, List, Result, Ok, Err}
use Rattle.conda_host.specs.declared.outside.Role.{Role}
use Rattle.conda_host.specs.declared.outside.HostFailed.{HostFailed}
use Rattle.conda_host.specs.State.{HostState}

-- no count rose
pub record CountsNothing (old new : HostState) : Type 0 where
  pub same : (r : Role) (n : List ℕ) → new.faults r n ≡ old.faults r n

-- the count of a role is one more for every name, as far as it goes, and no other rose
pub record CountsOne (old new : HostState) (role : Role) : Type 0 where
  pub one : (n : List ℕ) → new.faults role n ≡ min (old.faults role n + 1) (2 ^ 64 - 1)
  pub others : (r : Role) (n : List ℕ) → r ≢ role → new.faults r n ≡ old.faults r n

-- a call that failed is counted, once
abbrev pub CountsCall : {A : Type 0}
    → HostState → HostState → Role → Result A HostFailed → Type 0
CountsCall old new role (Ok value) = CountsNothing old new
CountsCall old new role (Err fault) = CountsOne old new role
