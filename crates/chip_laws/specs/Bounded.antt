-- Bounds on what the events of a core come to.
use Rattle.std.specs.Prelude.{ℕ, suc, ◌≡◌, ◌≤◌, ◌||◌, Bool, true, false, List, ◌∷◌, ◌++◌, length, take, count_by}
use Rattle.std.specs.List.{AllByRecursion}
use Rattle.conda_base.specs.declared.actor.Actor.{Actor}
use Rattle.schedule_log.specs.declared.entry.Entry.{Entry}
use Rattle.schedule_log.specs.declared.entry.Entry.TheVariants.{Lock, Commit, Back}
use Rattle.chip_laws.specs.Design.{Design, IsDesign, IsActorOf}
use Rattle.chip_laws.specs.Worlds.{world, journal}
use Rattle.chip_laws.specs.Entries.{is_back, is_commit, is_flush, is_opening, is_of, is_still}

-- no entry of the list passes the test
abbrev pub NoneIs : (Entry → Bool) → List Entry → Type 0
NoneIs test entries = AllByRecursion (λ e. test e ≡ false) entries

-- a stretch of a journal
abbrev pub IsStretch : List Entry → List Entry → List Entry → List Entry → Type 0
IsStretch journal before stretch rest = journal ≡ before ++ (stretch ++ rest)

-- in no stretch without a Commit of core j do more than `retries` Backs of j stand
abbrev pub FewBacks : Design → List Entry → Type 0
FewBacks d entries =
    (j : ℕ) (before stretch rest : List Entry)
    → IsStretch entries before stretch rest → NoneIs (is_commit j) stretch
    → count_by (is_back j) stretch ≤ d.config.retries

-- what a stretch after a Lock of core j is, up to j's Commit: fewer than `portion_max + 1` events
-- are j's own, and all others are Held or Idle
pub record IsQuiet (d : Design) (j : ℕ) (stretch : List Entry) : Type 0 where
  pub few : count_by (is_of j) stretch ≤ d.config.portion_max
  pub still : AllByRecursion (λ e. (is_of j e || is_still e) ≡ true) stretch

abbrev pub QuietLocks : Design → List Entry → Type 0
QuietLocks d entries =
    (j : ℕ) (before stretch rest : List Entry)
    → IsStretch entries before (Lock j ∷ stretch) rest → NoneIs (is_commit j) stretch
    → IsQuiet d j stretch

-- a number of acts from 1 to `portion_max`
pub record AreActs (d : Design) (n : ℕ) : Type 0 where
  pub some : 1 ≤ n
  pub few : n ≤ d.config.portion_max

-- each Commit and Back holds such a number
abbrev pub HasActs : Design → Entry → Type 0
HasActs d (Commit j n cause) = AreActs d n
HasActs d (Back j n cause) = AreActs d n
HasActs d other = Unit {0}

-- the flushes that are due to core j after the first t events
abbrev pub due_at : Design → List Actor → ℕ → ℕ → ℕ
due_at d events t j = ((world d (take t events)).seats j).due

-- after a Back of core j and before its next Open or Lock, j has no more Flushes than were due
-- after that Back
abbrev pub FewFlushes : Design → List Actor → Type 0
FewFlushes d events =
    (j n cause : ℕ) (before stretch rest : List Entry)
    → IsStretch (journal d events) before (Back j n cause ∷ stretch) rest
    → NoneIs (is_opening j) stretch
    → count_by (is_flush j) stretch ≤ due_at d events (suc (length before)) j

pub record Bounded (d : Design) (events : List Actor) : Type 0 where
  pub backs : FewBacks d (journal d events)
  pub locks : QuietLocks d (journal d events)
  pub acts : AllByRecursion (HasActs d) (journal d events)
  pub flushes : FewFlushes d events

abbrev pub AlwaysBounded : Type 0
AlwaysBounded =
    (d : Design) (events : List Actor) → IsDesign d → AllByRecursion (IsActorOf d) events
    → Bounded d events
