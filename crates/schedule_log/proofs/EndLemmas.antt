-- What a schedule's end brings.
use Rattle.std.proofs.Common.{append-nil, ◌≡◌, ℕ, ◌+◌, ◌-◌, ◌≤◌, ◌==◌, Bool, true, false, List, [], ◌∷◌, ◌++◌, length, drop, refl, sym, ◌∙◌, ap, arith, inl, inr}
use Rattle.std.specs.Prelude.{Option, Some, None, ◌⊎◌, nat_lt, slice_index}
use Rattle.std.specs.List.{list_any}
use Rattle.std.proofs.lemmas.Bool.{eqb-true}
use Rattle.std.proofs.lemmas.Bool.Decides.{nat_tests}
use Rattle.std.proofs.lemmas.List.{length-take}
use Rattle.conda_base.specs.declared.actor.Actor.{Actor}
use Rattle.schedule_log.specs.declared.line.BadLine.{BadLine}
use Rattle.schedule_log.specs.declared.line.Reading.{Reading}
use Rattle.schedule_log.specs.declared.line.Reading.TheVariants as Reading_is
use Rattle.schedule_log.specs.Schedule.{is_feed, count_of, last_line, judged_lines}
use Rattle.schedule_log.specs.Grammar.{reading, blank_or_worded, worded, counted, has_form, actor_of, is_on_chip, without_return, ends_in_return}
use Rattle.schedule_log.specs.Findings.{Progress, found_then, found_from, left_over, unless_bad, finds}
use Rattle.schedule_log.proofs.FeedLemmas.{judged_part}

last_alone : (harts cores number : ℕ) (line : List ℕ) → found_from harts cores number (last_line false line) ≡ found_then (reading harts cores line) number []
last_alone harts cores number [] = refl
last_alone harts cores number (byte ∷ line) =
    let some : nat_lt 0 (length (byte ∷ line)) ≡ true = grind (arith, nat_tests) in
    rw some refl

-- where no bad line was met, the line begun is the last one
pub left_alone : (s : Progress) → s.bad ≡ None → list_any is_feed s.begun ≡ false → left_over s ≡ found_then (reading s.harts s.cores s.begun) (s.ended + 1) []
unfolding finds
left_alone s good none =
    ap (λ bad. unless_bad bad (found_from s.harts s.cores (s.ended + 1) (judged_lines false (s.begun ++ [])))) good
    ∙ ap (λ text. found_from s.harts s.cores (s.ended + 1) (judged_lines false text)) (append-nil s.begun)
    ∙ ap (found_from s.harts s.cores (s.ended + 1)) (judged_part false s.begun none)
    ∙ last_alone s.harts s.cores (s.ended + 1) s.begun

pub left_said : (harts cores ended : ℕ) (begun : List ℕ) (bad : Option BadLine) (said : Reading) → bad ≡ None → list_any is_feed begun ≡ false → reading harts cores begun ≡ said → found_then said (ended + 1) [] ≡ left_over (record { harts = harts; cores = cores; ended = ended; begun = begun; bad = bad })
left_said harts cores ended begun bad said good none is =
    let s : Progress = record { harts = harts; cores = cores; ended = ended; begun = begun; bad = bad } in
    sym (left_alone s good none ∙ ap (λ r. found_then r (ended + 1) []) is)

counted_not_blank : (harts cores : ℕ) (actor : Actor) (count : Option ℕ) → counted harts cores actor count ≡ Reading_is.Blank → ⊥
counted_not_blank harts cores actor None is_blank = cc
counted_not_blank harts cores actor (Some count) is_blank = go (is_on_chip harts cores actor) refl
  where
    go : (b : Bool) → is_on_chip harts cores actor ≡ b → ⊥
    go true is = let never : Reading_is.Events actor count ≡ Reading_is.Blank = rw is at is_blank in cc
    go false is = let never : Reading_is.Bad 3 ≡ Reading_is.Blank = rw is at is_blank in cc

worded_not_blank : (harts cores : ℕ) (text : List ℕ) → worded harts cores text ≡ Reading_is.Blank → ⊥
worded_not_blank harts cores text is_blank = go (has_form text) refl
  where
    go : (b : Bool) → has_form text ≡ b → ⊥
    go true is = counted_not_blank harts cores (actor_of (slice_index text 0) (slice_index text 1)) (count_of (drop 3 text)) (rw is at is_blank)
    go false is = let never : Reading_is.Bad 1 ≡ Reading_is.Blank = rw is at is_blank in cc

blank_text : (harts cores : ℕ) (text : List ℕ) → blank_or_worded harts cores text ≡ Reading_is.Blank → length text ≡ 0
blank_text harts cores text is_blank = go (length text == 0) refl
  where
    go : (b : Bool) → (length text == 0) ≡ b → length text ≡ 0
    go true is = eqb-true (length text) 0 is
    go false is = absurd (worded_not_blank harts cores text (rw is at is_blank))

trimmed_by_one : (line : List ℕ) → length line ≤ length (without_return line) + 1
trimmed_by_one line = go (ends_in_return line) refl
  where
    go : (b : Bool) → ends_in_return line ≡ b → length line ≤ length (without_return line) + 1
    go true is = rw is (omega (arith, length-take (length line - 1) line))
    go false is = rw is (omega arith)

nothing_trimmed : (line : List ℕ) → length (without_return line) ≡ 0 → (line ≡ []) ⊎ (line ≡ 13 ∷ [])
nothing_trimmed [] none = inl refl
nothing_trimmed (byte ∷ []) none = go (byte == 13) refl
  where
    go : (b : Bool) → (byte == 13) ≡ b → (byte ∷ [] ≡ []) ⊎ (byte ∷ [] ≡ 13 ∷ [])
    go true is = inr (ap (λ b. b ∷ []) (eqb-true byte 13 is))
    go false is = let long : length (byte ∷ []) ≡ 0 = rw is at none in absurd (omega arith)
nothing_trimmed (byte ∷ next ∷ line) none = absurd (omega (arith, trimmed_by_one (byte ∷ next ∷ line)))

-- a line that is passed over is empty, or one carriage return
pub blank_line : (harts cores : ℕ) (line : List ℕ) → reading harts cores line ≡ Reading_is.Blank → (line ≡ []) ⊎ (line ≡ 13 ∷ [])
blank_line harts cores line is_blank = go (nat_lt 32 (length line)) refl
  where
    go : (b : Bool) → nat_lt 32 (length line) ≡ b → (line ≡ []) ⊎ (line ≡ 13 ∷ [])
    go true is = let never : Reading_is.Bad 4 ≡ Reading_is.Blank = rw is at is_blank in absurd (cc)
    go false is = nothing_trimmed line (blank_text harts cores (without_return line) (rw is at is_blank))
