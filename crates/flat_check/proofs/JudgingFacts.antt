-- How a line is judged follows from how its entry is.
use Rattle.std.proofs.Common.{◌≡◌, ◌≤◌, ◌+◌, ◌++◌, ◌∷◌, [], ℕ, Bool, true, cond, length, List, sym, ap, ◌∙◌, subst, Option, Some, Result, Ok, Err}
use Rattle.std.specs.Result.{IfOk, MatchResult}
use Rattle.std.proofs.lemmas.Bool.{le-ltb}
use Rattle.std.proofs.lemmas.List.{length_push}
use Rattle.schedule_log.specs.declared.entry.Entry.{Entry}
use Rattle.schedule_log.specs.Verdict.{most_events}
use Rattle.chip_laws.specs.Design.{Design, setup_of}
use Rattle.flat_check.specs.declared.refusal.Refusal.{Refusal}
use Rattle.flat_check.specs.declared.refusal.Refusal.TheVariants as Refusal_is
use Rattle.flat_check.specs.declared.refusal.OrderFault.{OrderFault}
use Rattle.flat_check.specs.Checkers.{CheckerView, HasWalked, has_entry}
use Rattle.flat_check.specs.Judging.{GoesOn, StopsAt, fault_verdict, line_read, verdict_after}
use Rattle.flat_check.specs.Orders.{is_there}
use Rattle.flat_check.specs.Verdict.{OrderVerdict, TooMany, TooLong, verdict_at, verdict_from}
use Rattle.flat_check.specs.Walkers.{ruling_of}
use Rattle.flat_check.specs.Walks.{Walk, Fine, ruled, walk, walked}
use Rattle.flat_check.proofs.CheckerFacts.{walk-next}

-- no refusal is of an entry in which nothing is wrong
refuses : (why : Refusal) → Fine ≡ ruling_of why → ⊥
refuses Refusal_is.Unsound h = cc
refuses (Refusal_is.Overwritten address) h = cc

module _ (d : Design) (order : List Entry) (e : Entry) (line : Option Entry) (is : line ≡ Some e) (there : is_there d.config.harts d.config.cores e ≡ true) where
  -- what the next entry comes to, with this ruling
  at_line : (long : Bool) (later : List (Result Entry ℕ)) → verdict_after d long order (line_read d line ∷ later)
      ≡ verdict_at (ruled (setup_of d) (walk (setup_of d) order) e) (length order + 1)
      (verdict_from (setup_of d) long (walked (setup_of d) (walk (setup_of d) order) e) ((length order + 1) + 1) later)
  at_line long later =
      ap (λ x. verdict_after d long order (line_read d x ∷ later)) is
      ∙ ap (λ b. verdict_after d long order (cond {A = Result Entry ℕ} b (Ok e) (Err 2) ∷ later)) there

  pub goes_on : (new : CheckerView) → HasWalked d new (order ++ e ∷ []) → ruled (setup_of d) (walk (setup_of d) order) e ≡ Fine → length order + 1 ≤ most_events
      → GoesOn d order new line
  goes_on new walked_on fine few = record {
    entry = e;
    is_entry = is;
    walked = walked_on;
    few = few;
    verdict = λ long later.
        at_line long later
        ∙ ap (λ r. verdict_at r (length order + 1) (verdict_from (setup_of d) long (walked (setup_of d) (walk (setup_of d) order) e) ((length order + 1) + 1) later)) fine
        ∙ ap (λ b. cond b TooMany (verdict_from (setup_of d) long (walked (setup_of d) (walk (setup_of d) order) e) ((length order + 1) + 1) later)) (le-ltb most_events (length order + 1) few)
        ∙ ap (λ (w : Walk). verdict_from (setup_of d) long w ((length order + 1) + 1) later) (sym (walk-next (setup_of d) order e))
        ∙ ap (λ n. verdict_from (setup_of d) long (walk (setup_of d) (order ++ e ∷ [])) (n + 1) later) (sym (length_push order e));
  }

  pub judged : {A B : Type 0} (new : CheckerView) (taken : Result A Refusal) (result : Result B OrderFault) (number : ℕ) → number ≡ length order + 1
      → MatchResult taken (λ x. ruled (setup_of d) (walk (setup_of d) order) e ≡ Fine) (λ why. ruled (setup_of d) (walk (setup_of d) order) e ≡ ruling_of why)
      → IfOk taken (λ x. HasWalked d new (order ++ e ∷ []))
      → ((later : OrderVerdict) → MatchResult result (λ x. ruled (setup_of d) (walk (setup_of d) order) e ≡ Fine)
      (λ fault. verdict_at (ruled (setup_of d) (walk (setup_of d) order) e) number later ≡ fault_verdict fault))
      → IfOk result (λ x. number ≤ most_events) → MatchResult result (λ x. GoesOn d order new line) (λ fault. StopsAt d order line fault)
  judged new (Ok x) (Ok y) number many rules walked_on told few = goes_on new walked_on (told TooLong) (subst (λ n. n ≤ most_events) many few)
  judged new (Err why) (Ok y) number many rules walked_on told few = absurd (refuses why (sym (told TooLong) ∙ rules))
  judged new taken (Err fault) number many rules walked_on told few = λ long later.
      at_line long later
      ∙ ap (λ n. verdict_at (ruled (setup_of d) (walk (setup_of d) order) e) n
      (verdict_from (setup_of d) long (walked (setup_of d) (walk (setup_of d) order) e) ((length order + 1) + 1) later)) (sym many)
      ∙ told (verdict_from (setup_of d) long (walked (setup_of d) (walk (setup_of d) order) e) ((length order + 1) + 1) later)

-- an entry that a checker has names a hart or core of the design
pub has-there : (d : Design) (c : CheckerView) (order : List Entry) (e : Entry) → HasWalked d c order → has_entry c e ≡ true → is_there d.config.harts d.config.cores e ≡ true
has-there d c order e h has =
    ap (λ n. is_there n d.config.cores e) (sym h.shows.flat.many_harts)
    ∙ ap (λ n. is_there (length c.walker.flat.harts) n e) (sym h.shows.flat.many_statuses) ∙ has
