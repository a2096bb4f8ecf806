-- The laws over whole schedules.
use Rattle.std.proofs.Common.{append-nil, ◌≡◌, ℕ, ◌+◌, ◌≤◌, Bool, true, false, List, [], ◌∷◌, ◌++◌, length, take, refl, sym, ◌∙◌, ap, arith}
use Rattle.std.specs.Prelude.{if◌then◌else◌, nat_le, replicate}
use Rattle.std.proofs.lemmas.Bool.Decides.{nat_tests}
use Rattle.std.proofs.lemmas.List.{take_all}
use Rattle.schedule_log.specs.Schedule.{judged_lines}
use Rattle.schedule_log.specs.Findings.{Finding, Asks, Fails, at_start, finds, findings, found_from}
use Rattle.schedule_log.specs.Verdict.{Fine, BadLine, TooLarge, events_of, good_after, is_too_long, judged_findings, most_bytes, most_events, verdict_after, schedule_verdict, good, events}
use Rattle.schedule_log.specs.Laws.{PiecesJoin, WholeIsFound, FineRunsAll}
use Rattle.schedule_log.proofs.FeedLemmas.{feeds_join}

pub pieces_join_all : PiecesJoin
pieces_join_all start middle last piece next given later first second = feeds_join start middle last piece next given later first second

pub whole_is_found : WholeIsFound
whole_is_found harts cores text given last f more = ap (finds more (at_start harts cores)) (sym (append-nil text)) ∙ f.whole more []

-- lines that are fine run whole
fine_run : (found : List Finding) (run : ℕ) → verdict_after run Fine found ≡ Fine → good_after run found ≡ events_of found
fine_run [] run fine = refl
fine_run (Asks actor count ∷ later) run fine = go (λ n. fine_run later n) (nat_le (run + count) most_events) refl
  where
    go : ((n : ℕ) → verdict_after n Fine later ≡ Fine → good_after n later ≡ events_of later) → (b : Bool) → nat_le (run + count) most_events ≡ b → good_after run (Asks actor count ∷ later) ≡ events_of (Asks actor count ∷ later)
    go after true is = rw is (ap (λ rest. replicate count actor ++ rest) (after (run + count) (rw is at fine)))
    go after false is = let never : TooLarge most_events ≡ Fine = rw is at fine in absurd (cc)
fine_run (Fails line why ∷ later) run fine = let never : BadLine line why ≡ Fine = fine in absurd (cc)

-- too many bytes are never fine
long_not_fine : (found : List Finding) (run limit : ℕ) → verdict_after run (TooLarge limit) found ≡ Fine → ⊥
long_not_fine [] run limit fine = cc
long_not_fine (Asks actor count ∷ later) run limit fine = go (λ n. long_not_fine later n limit) (nat_le (run + count) most_events) refl
  where
    go : ((n : ℕ) → verdict_after n (TooLarge limit) later ≡ Fine → ⊥) → (b : Bool) → nat_le (run + count) most_events ≡ b → ⊥
    go after true is = after (run + count) (rw is at fine)
    go after false is = let never : TooLarge most_events ≡ Fine = rw is at fine in cc
long_not_fine (Fails line why ∷ later) run limit fine = let never : BadLine line why ≡ Fine = fine in cc

-- the verdict and the events by the test of the length
fine_by : (long : Bool) (found : List Finding) → verdict_after 0 (if long then TooLarge most_bytes else Fine) found ≡ Fine → (long ≡ false) × (good_after 0 found ≡ events_of found)
fine_by true found fine = absurd (long_not_fine found 0 most_bytes fine)
fine_by false found fine = (refl, fine_run found 0 fine)

all_judged : (harts cores : ℕ) (bytes : List ℕ) → is_too_long bytes ≡ false → judged_findings harts cores bytes ≡ findings harts cores bytes
all_judged harts cores bytes is =
    let short : length bytes ≤ most_bytes = grind (arith, nat_tests) in
    ap (λ (long : Bool). found_from harts cores 1 (judged_lines long (take most_bytes bytes))) is
    ∙ ap (λ (text : List ℕ). found_from harts cores 1 (judged_lines false text)) (take_all most_bytes bytes short)

pub fine_runs_every : FineRunsAll
unfolding schedule_verdict good events
fine_runs_every harts cores bytes fine =
    let both = fine_by (is_too_long bytes) (judged_findings harts cores bytes) fine in
    both.1 ∙ ap events_of (all_judged harts cores bytes both.0)
