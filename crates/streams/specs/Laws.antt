-- What the files of streams hold, and what the steps of a command keep to.
use Rattle.std.specs.Prelude.{◌≡◌, ◌≢◌, ℕ, Bool, true, false, IsTrue, List, Some, None}
use Rattle.conda_host.specs.declared.outside.Role.{Role}
use Rattle.conda_host.specs.State.{HostState, IsReading, IsCreating, IsWriting}
use Rattle.streams.specs.declared.sinks.Sinks.{Sinks}
use Rattle.streams.specs.Holding.{SinkHolds, SinkHoldsFront}
use Rattle.streams.specs.Seen.{ShowsText, ShowsFront}
use Rattle.streams.specs.Streaming.{AreMade, AreWhole, IsStreaming, has_sink, seen_over}
use Rattle.streams.specs.Using.{Uses, KeepsTo}

-- where nothing is pending, the file of a role's sink holds the text so far
abbrev pub WholeTextsAreHeld : Type 0
WholeTextsAreHeld = (s : HostState) (source : Role) (sinks : Sinks) (r : Role) (text : List ℕ)
    → AreMade s sinks → AreWhole sinks → ShowsText (seen_over s source sinks) r text
    → SinkHolds s (has_sink sinks) r text

-- at any time it holds a front of it
abbrev pub FrontsAreHeld : Type 0
FrontsAreHeld = (s : HostState) (source : Role) (sinks : Sinks) (r : Role) (text : List ℕ)
    → AreMade s sinks → ShowsFront (seen_over s source sinks) r text
    → SinkHoldsFront s (has_sink sinks) r text

-- the sinks are of files that are used, under the names that they have
pub record AreUsed (u : Uses) (sinks : Role → Bool) (s : HostState) : Type 0 where
  pub named : (r : Role) → IsTrue (sinks r) → IsTrue s.tells
      → u.creates r ≡ Some (s.role r).name
  pub none : (r : Role) → u.creates r ≡ None → sinks r ≡ false

-- what steps keep to these uses: none, one after another, and one by one
pub record AreKept (u : Uses) : Type 0 where
  pub nothing : (s : HostState) → KeepsTo u s s
  pub after : (a b c : HostState) → KeepsTo u a b → KeepsTo u b c → KeepsTo u a c
  pub reading : (r : Role) (a b : HostState) → u.opens r ≡ true → IsReading a b r → KeepsTo u a b
  pub creating : (r : Role) (n : List ℕ) (a b : HostState) → u.creates r ≡ Some n
      → IsCreating a b r n → KeepsTo u a b
  pub writing : (r : Role) (a b : HostState)
      → (IsTrue a.tells → u.creates r ≡ Some (a.role r).name) → u.creates r ≢ None
      → IsWriting a b r → KeepsTo u a b
  pub streaming : (source : Role) (sinks : Role → Bool) (a b : HostState)
      → u.opens source ≡ true → AreUsed u sinks a → IsStreaming source sinks a b → KeepsTo u a b
