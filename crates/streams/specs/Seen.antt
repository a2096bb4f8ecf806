-- What a loop sees of its streams, and what the calls do to that.
use Rattle.std.specs.Prelude.{◌≡◌, ◌≢◌, ◌↔◌, ℕ, ◌<◌, ◌≤◌, Bool, IsTrue, List, [], ◌++◌, length, take, Option, Some, None, Result, Ok, Err}
use Rattle.conda_host.specs.declared.outside.Role.{Role}
use Rattle.streams.specs.Fronts.{IsFrontOf}
use Rattle.streams.specs.declared.fault.Fault.{Fault}

-- What is left of the source, and the text so far of each sink. Where tells is false, they mean
-- nothing.
pub record Seen : Type 0 where
  pub tells : Bool
  pub left : List ℕ
  pub sinks : Role → Bool
  pub text : Role → List ℕ

-- these bytes are left of the source
pub record IsLeft (streams : Seen) (bytes : List ℕ) : Type 0 where
  pub told : IsTrue streams.tells
  pub same : streams.left ≡ bytes

-- the text so far of a role's sink, where it has one
pub record ShowsText (streams : Seen) (role : Role) (text : List ℕ) : Type 0 where
  pub same : IsTrue streams.tells → IsTrue (streams.sinks role) → streams.text role ≡ text

-- the text of a role's sink, where it has one, is a front of this text
pub record ShowsFront (streams : Seen) (role : Role) (text : List ℕ) : Type 0 where
  pub front : IsTrue streams.tells → IsTrue (streams.sinks role)
      → IsFrontOf (streams.text role) text

-- so many bytes of the source went to a buffer's front: none only at the source's end
pub record Takes (old new : Seen) (before after : List ℕ) (n : ℕ) : Type 0 where
  pub bound : n ≤ length before
  pub bytes : IsTrue old.tells → old.left ≡ take n after ++ new.left
  pub ended : IsTrue old.tells → 0 < length before → (n ≡ 0) ↔ (old.left ≡ [])
  pub rest : new ≡ record old { left = new.left }

-- bytes were added to the text of a role's sink, where it has one
pub record Puts (old new : Seen) (role : Role) (bytes : List ℕ) : Type 0 where
  pub text : IsTrue old.tells → IsTrue (old.sinks role) → new.text role ≡ old.text role ++ bytes
  pub others : (r : Role) → r ≢ role → new.text r ≡ old.text r
  pub rest : new ≡ record old { text = new.text }

-- the same, but a call failed: a front of the bytes was added
pub record PutsFront (old new : Seen) (role : Role) (bytes : List ℕ) : Type 0 where
  pub front : List ℕ
  pub is_front : IsFrontOf front bytes
  pub puts : Puts old new role front

-- the fault of a call, if it failed
abbrev pub fault_in : {A : Type 0} → Result A Fault → Option Fault
fault_in (Ok value) = None
fault_in (Err fault) = Some fault
