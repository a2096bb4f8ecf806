-- A host that tells nothing of its files.
use Rattle.std.specs.Prelude.{ℕ, false, List, [], Option, None, is_some, slice_index_or, slice_index}
use Rattle.conda_host.specs.State.{HostState, RoleState}
use Rattle.conda_host.specs.Role.{index_of}

-- a role that is opened or created, and nothing of its bytes
abbrev pub quiet_role : {F : Type 0} → Option F → Option F → RoleState
quiet_role source made = record {
  opened = is_some source;
  left = [];
  created = is_some made;
  name = [];
  written = [];
}

-- it tells nothing, and its counts are of roles, for every name
abbrev pub quiet_state : {F : Type 0}
    → List (Option F) → List (Option F) → List ℕ → HostState
quiet_state sources made faults = record {
  tells = false;
  file = λ n. None;
  role = λ r. quiet_role (slice_index_or sources (index_of r) None)
      (slice_index_or made (index_of r) None);
  faults = λ r n. slice_index faults (index_of r);
}
