-- An order file, and the order that it is the text of.
use Rattle.std.specs.Prelude.{ℕ, ◌≡◌, ◌≤◌, List, length}
use Rattle.std.specs.List.{AllByRecursion}
use Rattle.schedule_log.specs.declared.entry.Entry.{Entry}
use Rattle.schedule_log.specs.Texts.{IsEntry, order_text}
use Rattle.schedule_log.specs.Verdict.{most_events}
use Rattle.offload_calls.specs.State.{Setup}
use Rattle.flat_check.specs.Accepting.{IsSoundAndClean}
use Rattle.flat_check.specs.Verdict.{Sound_to, order_verdict}
use Rattle.flat_check.specs.Walks.{Walk, walk}

-- an order has at most so many entries, and their numbers are those of a chip
pub record IsWithin (order : List Entry) : Type 0 where
  pub entries : AllByRecursion IsEntry order
  pub few : length order ≤ most_events

-- bytes are the text of an order within the limits, sound and clean, which leads here
pub record IsOrderText (s : Setup) (bytes : List ℕ) (v : Walk) (entries : ℕ) : Type 0 where
  pub order : List Entry
  pub text : bytes ≡ order_text order
  pub within : IsWithin order
  pub accepted : IsSoundAndClean s order
  pub way : v ≡ walk s order
  pub many : entries ≡ length order

abbrev pub AcceptedTextsAreOrders : Type 0
AcceptedTextsAreOrders =
    (s : Setup) (bytes : List ℕ) (v : Walk) (entries : ℕ)
    → order_verdict s bytes ≡ Sound_to v entries → IsOrderText s bytes v entries

abbrev pub OrderTextsAreAccepted : Type 0
OrderTextsAreAccepted =
    (s : Setup) (order : List Entry) → IsWithin order → IsSoundAndClean s order
    → order_verdict s (order_text order) ≡ Sound_to (walk s order) (length order)
