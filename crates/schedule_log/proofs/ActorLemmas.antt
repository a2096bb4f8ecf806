-- A reader lets only actors of its chip through.
use Rattle.std.proofs.Common.{◌≡◌, ℕ, ◌+◌, true, false, List, [], ◌∷◌, ◌++◌, drop, IsTrue, sym, subst}
use Rattle.std.specs.Prelude.{Bool, Option, Some, None}
use Rattle.std.proofs.lemmas.Bool.{cond_both}
use Rattle.conda_base.specs.declared.actor.Actor.{Actor}
use Rattle.schedule_log.specs.declared.line.Reading.{Reading}
use Rattle.schedule_log.specs.declared.line.Reading.TheVariants as Reading_is
use Rattle.schedule_log.specs.declared.line.BadLine.{BadLine}
use Rattle.schedule_log.specs.declared.fed.Fed.TheVariants as Fed_is
use Rattle.schedule_log.specs.Findings.{Finding, Asks, Fails, AreOnChip, Progress, finds, found_from, found_then, found_in, answer_at, unless_bad}
use Rattle.schedule_log.specs.Grammar.{reading, blank_or_worded, worded, counted, is_on_chip, has_form, without_return}
use Rattle.schedule_log.specs.Schedule.{judged_lines, count_of}

abbrev IsSaidOn : ℕ → ℕ → Reading → Type 0
IsSaidOn harts cores (Reading_is.Events a count) = IsTrue (is_on_chip harts cores a)
IsSaidOn harts cores other = Unit {0}

counted_on : (harts cores : ℕ) (a : Actor) (count : Option ℕ) → IsSaidOn harts cores (counted harts cores a count)
counted_on harts cores a None = tt
counted_on harts cores a (Some count) = cond_both (is_on_chip harts cores a) (Reading_is.Events a count) (Reading_is.Bad 3) (IsSaidOn harts cores) (λ e. e) (λ _. tt)

reading_on : (harts cores : ℕ) (line : List ℕ) → IsSaidOn harts cores (reading harts cores line)
reading_on harts cores line =
    cond_both _ (Reading_is.Bad 4) (blank_or_worded harts cores (without_return line)) (IsSaidOn harts cores) (λ _. tt)
    (λ _.
    cond_both _ Reading_is.Blank (worded harts cores (without_return line)) (IsSaidOn harts cores) (λ _. tt)
    (λ _.
    cond_both (has_form (without_return line)) _ (Reading_is.Bad 1) (IsSaidOn harts cores)
    (λ _. counted_on harts cores _ (count_of (drop 3 (without_return line)))) (λ _. tt)))

then_on : (harts cores : ℕ) (said : Reading) (number : ℕ) (later : List Finding) → IsSaidOn harts cores said → AreOnChip harts cores later → AreOnChip harts cores (found_then said number later)
then_on harts cores Reading_is.Blank number later on rest = rest
then_on harts cores (Reading_is.Events a count) number later on rest = (on, rest)
then_on harts cores (Reading_is.Bad why) number later on rest = tt

found_on : (harts cores number : ℕ) (lines : List (List ℕ)) → AreOnChip harts cores (found_from harts cores number lines)
found_on harts cores number [] = tt
found_on harts cores number (line ∷ lines) =
    then_on harts cores (reading harts cores line) number _ (reading_on harts cores line) (found_on harts cores (number + 1) lines)

pub finds_on : (more : Bool) (p : Progress) (text : List ℕ) → AreOnChip p.harts p.cores (finds more p text)
unfolding finds
finds_on more p text = go p.bad _ (found_on p.harts p.cores (p.ended + 1) (judged_lines more (p.begun ++ text)))
  where
    go : (bad : Option BadLine) (found : List Finding) → AreOnChip p.harts p.cores found → AreOnChip p.harts p.cores (unless_bad bad found)
    go None found on = on
    go (Some bad) found on = tt

asked_on : (harts cores used u : ℕ) (a : Actor) (count : ℕ) (found : List Finding) → Fed_is.Events a count used ≡ answer_at u found → AreOnChip harts cores found → IsTrue (is_on_chip harts cores a)
asked_on harts cores used u a count [] is on = cc
asked_on harts cores used u a count (Asks b many ∷ later) is on = let same : b ≡ a = cc in subst (λ x. IsTrue (is_on_chip harts cores x)) same on.0
asked_on harts cores used u a count (Fails line why ∷ later) is on = cc

pub fed_on : (p : Progress) (piece : List ℕ) (used u : ℕ) (a : Actor) (count : ℕ) → Fed_is.Events a count used ≡ answer_at u (found_in p piece) → IsTrue (is_on_chip p.harts p.cores a)
fed_on p piece used u a count is = asked_on p.harts p.cores used u a count (found_in p piece) is (finds_on true p piece)

pub last_on : (p : Progress) (a : Actor) (count : ℕ) → Asks a count ∷ [] ≡ finds false p [] → IsTrue (is_on_chip p.harts p.cores a)
last_on p a count is = (subst (AreOnChip p.harts p.cores) (sym is) (finds_on false p [])).0
