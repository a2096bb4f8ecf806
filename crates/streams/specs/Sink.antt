-- A text on its way into a role's file.
use Rattle.std.specs.Prelude.{◌≡◌, ℕ, List, ◌++◌, IsTrue, Option, Some, None}
use Rattle.conda_host.specs.declared.outside.Role.{Role}
use Rattle.conda_host.specs.State.{HostState, is_created, IsWriting}

-- what clauses see of a sink: its role, the bytes that are yet to be written, and how many fit
-- behind them
pub record SinkView : Type 0 where
  pub role : Role
  pub pending : List ℕ
  pub room : ℕ

-- the text so far: what the role's file holds, and what is pending
abbrev pub text_in : HostState → SinkView → List ℕ
text_in s sink = (s.role sink.role).written ++ sink.pending

-- the role's file is made, and holds what was written to it
pub record IsMade (s : HostState) (role : Role) : Type 0 where
  pub created : IsTrue (is_created s role)
  pub file : IsTrue s.tells → s.file (s.role role).name ≡ Some (s.role role).written

-- bytes were added to a sink's text, and some of it was written
pub record Adds (old new : HostState) (before after : SinkView) (bytes : List ℕ) : Type 0 where
  pub text : IsTrue old.tells → text_in new after ≡ text_in old before ++ bytes
  pub role : after.role ≡ before.role
  pub made : IsMade old before.role → IsMade new before.role
  pub rest : IsWriting old new before.role

-- the same of a sink that may be missing
abbrev pub AddsIf : HostState → HostState → Option SinkView → Option SinkView → List ℕ → Type 0
AddsIf old new None None bytes = new ≡ old
AddsIf old new (Some before) (Some after) bytes = Adds old new before after bytes
AddsIf old new None (Some after) bytes = ⊥
AddsIf old new (Some before) None bytes = ⊥
