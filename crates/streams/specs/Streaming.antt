-- Streams over a host: what they show, what is kept between two calls, and what any number of
-- calls leaves.
use Rattle.std.specs.Prelude.{◌≡◌, ◌≢◌, ℕ, Bool, false, ◌||◌, ◌==◌, if◌then◌else◌, IsTrue, List, [], ◌++◌, Option, Some, None, IfSome}
use Rattle.conda_host.specs.declared.outside.Role.{Role}
use Rattle.conda_host.specs.Role.{index_of}
use Rattle.conda_host.specs.State.{HostState, RoleState, KeepsOpened, KeepsCreated, IsLater, is_opened, RoseForAll}
use Rattle.streams.specs.declared.fault.Fault.{Fault}
use Rattle.streams.specs.declared.fault.Fault.TheVariants.{Read, Write}
use Rattle.streams.specs.declared.sinks.Sinks.{Sinks}
use Rattle.streams.specs.Seen.{Seen}
use Rattle.streams.specs.Sink.{SinkView, IsMade, text_in}

-- ---- what they show

-- the sink is the role's
abbrev pub is_sink_of : Option SinkView → Role → Bool
is_sink_of None role = false
is_sink_of (Some sink) role = index_of sink.role == index_of role

-- the role has a sink
abbrev pub has_sink : Sinks → Role → Bool
has_sink sinks role = is_sink_of sinks.first role || is_sink_of sinks.second role

-- the text of a sink, where it is the role's
abbrev pub text_if : HostState → Option SinkView → Role → List ℕ → List ℕ
text_if s None role other = other
text_if s (Some sink) role other =
    if index_of sink.role == index_of role then text_in s sink else other

-- the text so far of a role's sink
abbrev pub text_at : HostState → Sinks → Role → List ℕ
text_at s sinks role = text_if s sinks.first role (text_if s sinks.second role [])

abbrev pub told_text : HostState → Sinks → Role → List ℕ
told_text s sinks role = if s.tells then text_at s sinks role else []

abbrev pub seen_over : HostState → Role → Sinks → Seen
seen_over s source sinks = record {
  tells = s.tells;
  left = (s.role source).left;
  sinks = has_sink sinks;
  text = told_text s sinks;
}

-- sinks beside which nothing is read: nothing is left of a source
abbrev pub seen_alone : HostState → Sinks → Seen
seen_alone s sinks = record {
  tells = s.tells;
  left = [];
  sinks = has_sink sinks;
  text = told_text s sinks;
}

-- ---- what is kept between two calls

-- two sinks have two roles and two files
pub record HaveTwoFiles (s : HostState) (one two : SinkView) : Type 0 where
  pub roles : two.role ≢ one.role
  pub names : IsTrue s.tells → (s.role two.role).name ≢ (s.role one.role).name

-- the sinks' files are made, and hold what was written to them
pub record AreMade (s : HostState) (sinks : Sinks) : Type 0 where
  pub first : IfSome sinks.first (λ one. IsMade s one.role)
  pub second : IfSome sinks.second (λ two. IsMade s two.role)
  pub apart : IfSome sinks.first (λ one. IfSome sinks.second (HaveTwoFiles s one))

-- the source is opened, and the sinks are made
pub record AreOpen (s : HostState) (source : Role) (sinks : Sinks) : Type 0 where
  pub opened : IsTrue (is_opened s source)
  pub made : AreMade s sinks
  pub other : has_sink sinks source ≡ false

-- ---- what calls leave

-- a role that is created stays so, under its name, and what it has opened stays
pub record StaysMade (old new : RoleState) : Type 0 where
  pub created : IsTrue old.created → IsTrue new.created
  pub name : new.name ≡ old.name
  pub opened : KeepsOpened old new

-- no sink's file has this name
abbrev pub IsNoSinksName : (Role → Bool) → HostState → List ℕ → Type 0
IsNoSinksName sinks s n = (r : Role) → IsTrue (sinks r) → n ≢ (s.role r).name

-- any number of calls that write some roles, and touch no other role and no other file
pub record IsWritingTo (sinks : Role → Bool) (old new : HostState) : Type 0 where
  pub later : IsLater old new
  pub files : (n : List ℕ) → IsNoSinksName sinks old n → new.file n ≡ old.file n
  pub roles : (r : Role) → sinks r ≡ false → new.role r ≡ old.role r
  pub made : (r : Role) → IsTrue (sinks r) → StaysMade (old.role r) (new.role r)

-- any number of calls that read one role and write some others, and touch no other role and no
-- other file
pub record IsStreaming (source : Role) (sinks : Role → Bool) (old new : HostState) : Type 0 where
  pub later : IsLater old new
  pub files : (n : List ℕ) → IsNoSinksName sinks old n → new.file n ≡ old.file n
  pub roles : (r : Role) → r ≢ source → sinks r ≡ false → new.role r ≡ old.role r
  pub made : (r : Role) → IsTrue (sinks r) → StaysMade (old.role r) (new.role r)
  pub read : sinks source ≡ false → KeepsCreated (old.role source) (new.role source)
  pub opened : IsTrue (is_opened old source) → IsTrue (is_opened new source)

-- a fault has its cause: the counts of its role rose for every name
abbrev pub HasFaultCause : Role → (Role → Bool) → HostState → HostState → Option Fault → Type 0
HasFaultCause from sinks old new None = Unit {0}
HasFaultCause from sinks old new (Some (Read role)) = (role ≡ from) × RoseForAll old new role
HasFaultCause from sinks old new (Some (Write role)) = IsTrue (sinks role) × RoseForAll old new role

-- the bytes that a role's text gets from a call that adds these to one role's
abbrev pub added_to : Role → List ℕ → Role → List ℕ
added_to role bytes r = if index_of role == index_of r then bytes else []

-- each sink's text got what is added to it, and some of it was written
pub record Gives (old new : HostState) (before after : Sinks) (added : Role → List ℕ) : Type 0 where
  pub text : IsTrue old.tells → (r : Role) → IsTrue (has_sink before r)
      → text_at new after r ≡ text_at old before r ++ added r
  pub same : has_sink after ≡ has_sink before
  pub made : AreMade new after
  pub rest : IsWritingTo (has_sink before) old new

-- nothing is pending
pub record AreWhole (sinks : Sinks) : Type 0 where
  pub first : IfSome sinks.first (λ one. one.pending ≡ [])
  pub second : IfSome sinks.second (λ two. two.pending ≡ [])

-- any number of calls of streams over a host, the last of which had this fault, or none had one
pub record IsLed (source : Role) (before after : Sinks) (old new : HostState)
    (fault : Option Fault) : Type 0 where
  pub same : has_sink after ≡ has_sink before
  pub streaming : IsStreaming source (has_sink before) old new
  pub cause : HasFaultCause source (has_sink before) old new fault

-- calls that only put: they are calls of streams whichever role these would read
abbrev pub IsLedAlone : Sinks → Sinks → HostState → HostState → Option Fault → Type 0
IsLedAlone before after old new fault = (source : Role) → IsLed source before after old new fault
