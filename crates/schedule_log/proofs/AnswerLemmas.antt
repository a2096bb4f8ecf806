-- When a reader wants more, and when it tells of a bad line.
use Rattle.std.proofs.Common.{◌≡◌, ℕ, ◌+◌, List, [], ◌∷◌, ◌++◌, true, refl, ◌∙◌, ap}
use Rattle.std.specs.Prelude.{Option, Some, None, ◌↔◌}
use Rattle.schedule_log.specs.declared.line.BadLine.{BadLine}
use Rattle.schedule_log.specs.declared.line.Reading.{Reading}
use Rattle.schedule_log.specs.declared.line.Reading.TheVariants as Reading_is
use Rattle.schedule_log.specs.declared.fed.Fed.{Fed}
use Rattle.schedule_log.specs.declared.fed.Fed.TheVariants as Fed_is
use Rattle.schedule_log.specs.Schedule.{judged_lines}
use Rattle.schedule_log.specs.Grammar.{reading}
use Rattle.schedule_log.specs.Findings.{Finding, Asks, Fails, Progress, answer_at, finds, found_from, found_then, found_in, unless_bad}

-- a bad line that comes first comes last
abbrev EndsAtBad : List Finding → Type 0
EndsAtBad [] = Unit {0}
EndsAtBad (Asks actor count ∷ later) = Unit {0}
EndsAtBad (Fails line why ∷ later) = later ≡ []

line_ends : (said : Reading) (number : ℕ) (later : List Finding) → EndsAtBad later → EndsAtBad (found_then said number later)
line_ends Reading_is.Blank number later ends = ends
line_ends (Reading_is.Events actor count) number later ends = tt
line_ends (Reading_is.Bad why) number later ends = refl

lines_end : (harts cores number : ℕ) (lines : List (List ℕ)) → EndsAtBad (found_from harts cores number lines)
lines_end harts cores number [] = tt
lines_end harts cores number (line ∷ lines) = line_ends (reading harts cores line) number (found_from harts cores (number + 1) lines) (lines_end harts cores (number + 1) lines)

bad_ends : (bad : Option BadLine) (found : List Finding) → EndsAtBad found → EndsAtBad (unless_bad bad found)
bad_ends None found ends = ends
bad_ends (Some bad) found ends = refl

shown_ends : (s : Progress) (piece : List ℕ) → EndsAtBad (found_in s piece)
unfolding finds
shown_ends s piece = bad_ends s.bad _ (lines_end s.harts s.cores (s.ended + 1) (judged_lines true (s.begun ++ piece)))

more_by : (r : Fed) (found : List Finding) (used whole : ℕ) → r ≡ answer_at used found → (found ≡ [] → used ≡ whole) → (r ≡ Fed_is.More whole) ↔ (found ≡ [])
more_by r [] used whole is all = ((λ _. refl), (λ none. is ∙ ap Fed_is.More (all none)))
more_by r (Asks actor count ∷ later) used whole is all = ((λ more. absurd (cc)), (λ none. absurd (cc)))
more_by r (Fails line why ∷ later) used whole is all = ((λ more. absurd (cc)), (λ none. absurd (cc)))

bad_by_first : (r : Fed) (found : List Finding) (used : ℕ) → EndsAtBad found → r ≡ answer_at used found → (line why : ℕ) → (r ≡ Fed_is.Bad line why) ↔ (found ≡ Fails line why ∷ [])
bad_by_first r [] used ends is line why = ((λ bad. absurd (cc)), (λ first. absurd (cc)))
bad_by_first r (Asks actor count ∷ later) used ends is line why = ((λ bad. absurd (cc)), (λ first. absurd (cc)))
bad_by_first r (Fails number cause ∷ later) used ends is line why = ((λ bad. cc), (λ first. cc))

-- more is wanted exactly where the piece shows nothing
pub wants_more : (s : Progress) (piece : List ℕ) (r : Fed) (used whole : ℕ) → r ≡ answer_at used (found_in s piece) → (found_in s piece ≡ [] → used ≡ whole) → (r ≡ Fed_is.More whole) ↔ (found_in s piece ≡ [])
wants_more s piece r used whole is all = more_by r (found_in s piece) used whole is all

-- a bad line is told exactly where it is the first thing that the piece shows
pub tells_bad : (s : Progress) (piece : List ℕ) (r : Fed) (used : ℕ) → r ≡ answer_at used (found_in s piece) → (line why : ℕ) → (r ≡ Fed_is.Bad line why) ↔ (found_in s piece ≡ Fails line why ∷ [])
tells_bad s piece r used is line why = bad_by_first r (found_in s piece) used (shown_ends s piece) is line why
