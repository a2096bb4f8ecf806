-- How a line of an order is judged, where the lines before it led here.
use Rattle.std.specs.Prelude.{ℕ, ◌≡◌, ◌+◌, ◌≤◌, Bool, List, [], ◌∷◌, ◌++◌, length, Option, Some, Result}
use Rattle.schedule_log.specs.declared.entry.Entry.{Entry}
use Rattle.schedule_log.specs.Verdict.{most_events}
use Rattle.chip_laws.specs.Design.{Design, setup_of}
use Rattle.flat_check.specs.declared.refusal.OrderFault.{OrderFault}
use Rattle.flat_check.specs.declared.refusal.OrderFault.TheVariants as Fault_is
use Rattle.flat_check.specs.Checkers.{CheckerView, HasWalked}
use Rattle.flat_check.specs.Verdict.{OrderVerdict, Bad, TooMany, Dirty, placed, verdict_from}
use Rattle.flat_check.specs.Walks.{walk}

-- the verdict that a fault tells
abbrev pub fault_verdict : OrderFault → OrderVerdict
fault_verdict (Fault_is.Bad line why) = Bad line why
fault_verdict Fault_is.TooMany = TooMany
fault_verdict (Fault_is.Overwritten entry address) = Dirty entry address

-- the verdict on an order whose next lines are these, where the lines before it are the texts of these entries
abbrev pub verdict_after : Design → Bool → List Entry → List (Result Entry ℕ) → OrderVerdict
verdict_after d long order lines =
    verdict_from (setup_of d) long (walk (setup_of d) order) (length order + 1) lines

-- a line that is this entry's text, or no entry's, as the chip sees it
abbrev pub line_read : Design → Option Entry → Result Entry ℕ
line_read d line = placed d.config.harts d.config.cores line

-- the line is an entry in which nothing is wrong: the verdict is that on the lines after it
pub record GoesOn (d : Design) (order : List Entry) (new : CheckerView) (line : Option Entry)
    : Type 0 where
  pub entry : Entry
  pub is_entry : line ≡ Some entry
  pub walked : HasWalked d new (order ++ entry ∷ [])
  pub few : length order + 1 ≤ most_events
  pub verdict : (long : Bool) (later : List (Result Entry ℕ))
      → verdict_after d long order (line_read d line ∷ later)
      ≡ verdict_after d long (order ++ entry ∷ []) later

-- the verdict is this fault, whatever follows
abbrev pub StopsAt : Design → List Entry → Option Entry → OrderFault → Type 0
StopsAt d order line fault =
    (long : Bool) (later : List (Result Entry ℕ))
    → verdict_after d long order (line_read d line ∷ later) ≡ fault_verdict fault
