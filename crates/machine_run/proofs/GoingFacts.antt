-- A run goes on through a schedule.
use Rattle.std.proofs.Common.{◌≡◌, ℕ, ◌+◌, ◌≤◌, ◌<◌, Bool, true, false, List, [], ◌∷◌, ◌++◌, take, drop, replicate, length, IsTrue, sym, ap, ◌∙◌, subst, arith, append_assoc, append-nil, length-append}
use Rattle.std.specs.Prelude.{Some, nat_le}
use Rattle.std.proofs.lemmas.Bool.{cond-true, cond-false}
use Rattle.std.proofs.lemmas.Bool.Decides.{nat_tests}
use Rattle.std.proofs.lemmas.List.{take-append-drop, length-replicate}
use Rattle.conda_base.specs.declared.actor.Actor.{Actor}
use Rattle.schedule_log.specs.declared.line.BadLine.{BadLine}
use Rattle.schedule_log.specs.Findings.{Finding, Asks, Fails, Progress, Feeds, finds, found_from, unless_bad}
use Rattle.schedule_log.specs.Grammar.{is_on_chip}
use Rattle.schedule_log.specs.Schedule.{judged_lines}
use Rattle.schedule_log.specs.Verdict.{TooLarge, most_events, good, good_after, verdict_after, verdict_at_end, is_too_long}
use Rattle.chip_laws.specs.Design.{Design}
use Rattle.streams.specs.Seen.{Seen}
use Rattle.machine_run.specs.declared.ending.Ending.{Ending}
use Rattle.machine_run.specs.declared.ending.Ending.TheVariants as Ending_is
use Rattle.machine_run.specs.declared.machine.Machine.{Ghosts}
use Rattle.machine_run.specs.declared.run.Run.{Run}
use Rattle.machine_run.specs.Going.{Point, IsGoing, IsEnded, IsBroken, GoesOn, EndsIn, Breaks}
use Rattle.machine_run.specs.Running.{IsRun, HaveFronts, KeepsActors, Runs, RunsPart}
use Rattle.machine_run.proofs.RunFacts.{AreFronts, fronts_more}

-- ---- what is ahead

-- what a reader finds in a piece and all that follows, after a part of the piece
pub fed_ahead : (old new : Progress) (piece rest : List ℕ) (used : ℕ) (given : List Finding) (more : Bool) → Feeds old (take used piece) given new
    → finds more old (piece ++ rest) ≡ given ++ finds more new (drop used piece ++ rest)
fed_ahead old new piece rest used given more f =
    ap (λ t. finds more old t) (ap (λ t. t ++ rest) (sym (take-append-drop used piece)) ∙ append_assoc (take used piece) (drop used piece) rest)
    ∙ f.whole more (drop used piece ++ rest)

-- after a bad line nothing else is
pub bad_ahead : (p : Progress) (bad : BadLine) (more : Bool) (text : List ℕ) → p.bad ≡ Some bad → finds more p text ≡ Fails bad.line bad.why ∷ []
unfolding finds
bad_ahead p bad more text is = ap (λ b. unless_bad b (found_from p.harts p.cores (p.ended + 1) (judged_lines more (p.begun ++ text)))) is

-- ---- a line's events

pub going_same : {A : Type 0} (m : Ghosts A) (d : Design) (bytes : List ℕ) (v : Seen) (run : Run A) (before after : List Finding) → before ≡ after
    → IsGoing m d bytes v run before → IsGoing m d bytes v run after
going_same m d bytes v run before after same g = subst (IsGoing m d bytes v run) same g

-- a line asked for events, and they were run
pub line_ran : {A : Type 0} (m : Ghosts A) (d : Design) (bytes : List ℕ) (v w : Seen) (old new : Run A) (a : Actor) (count : ℕ) (ahead later : List Finding) → ahead ≡ Asks a count ∷ later
    → old.events + count ≤ most_events → Runs m v w old new (replicate count a) → IsGoing m d bytes v old ahead → IsGoing m d bytes w new later
line_ran m d bytes v w old new a count ahead later is few runs before =
    let g : IsGoing m d bytes v old (Asks a count ∷ later) = subst (IsGoing m d bytes v old) is before in
    let many : length (g.events ++ replicate count a) ≡ length g.events + count = omega (arith, length-append g.events (replicate count a), length-replicate count a) in
    let within : length g.events + count ≤ most_events = omega (arith, few, g.run_is.count) in
    let fit : nat_le (length g.events + count) most_events ≡ true = grind (arith, nat_tests, within) in
    record {
      events = g.events ++ replicate count a;
      run_is = runs.ran d g.events g.run_is;
      events_are = g.events_are
          ∙ ap (λ es. g.events ++ es) (cond-true (nat_le (length g.events + count) most_events) (replicate count a ++ good_after (length g.events + count) later) [] fit)
          ∙ sym (append_assoc g.events (replicate count a) (good_after (length g.events + count) later))
          ∙ ap (λ n. (g.events ++ replicate count a) ++ good_after n later) (sym many);
      verdict_is = g.verdict_is
          ∙ cond-true (nat_le (length g.events + count) most_events) (verdict_after (length g.events + count) (verdict_at_end bytes) later) (TooLarge most_events) fit
          ∙ ap (λ n. verdict_after n (verdict_at_end bytes) later) (sym many);
    }

-- a line asked for too many
pub line_refused : {A : Type 0} (m : Ghosts A) (d : Design) (bytes : List ℕ) (v w : Seen) (old new : Run A) (a : Actor) (count : ℕ) (ahead later : List Finding) → ahead ≡ Asks a count ∷ later
    → most_events < old.events + count → Runs m v w old new [] → IsGoing m d bytes v old ahead → IsEnded m d bytes w new Ending_is.TooManyEvents
line_refused m d bytes v w old new a count ahead later is many runs before =
    let g : IsGoing m d bytes v old (Asks a count ∷ later) = subst (IsGoing m d bytes v old) is before in
    let past : most_events < length g.events + count = omega (arith, many, g.run_is.count) in
    let fit : nat_le (length g.events + count) most_events ≡ false = grind (arith, nat_tests, past) in
    let all : good d.config.harts d.config.cores bytes ≡ g.events ++ [] =
    g.events_are ∙ ap (λ es. g.events ++ es) (cond-false (nat_le (length g.events + count) most_events) (replicate count a ++ good_after (length g.events + count) later) [] fit) in
    record {
      run_is = subst (IsRun m d w new) (sym all) (runs.ran d g.events g.run_is);
      verdict_is = sym (g.verdict_is ∙ cond-false (nat_le (length g.events + count) most_events) (verdict_after (length g.events + count) (verdict_at_end bytes) later) (TooLarge most_events) fit);
    }

-- a call failed in a line's events
pub line_failed : {A : Type 0} (m : Ghosts A) → AreFronts m → (d : Design) (bytes : List ℕ) (v w : Seen) (old : Run A) (a : Actor) (count : ℕ) (ahead later : List Finding) → ahead ≡ Asks a count ∷ later
    → old.events + count ≤ most_events → RunsPart m v w old (replicate count a) → IsGoing m d bytes v old ahead → IsBroken m d bytes w
line_failed m laws d bytes v w old a count ahead later is few runs before =
    let g : IsGoing m d bytes v old (Asks a count ∷ later) = subst (IsGoing m d bytes v old) is before in
    let within : length g.events + count ≤ most_events = omega (arith, few, g.run_is.count) in
    let fit : nat_le (length g.events + count) most_events ≡ true = grind (arith, nat_tests, within) in
    let all : good d.config.harts d.config.cores bytes ≡ (g.events ++ replicate count a) ++ good_after (length g.events + count) later =
    g.events_are
    ∙ ap (λ es. g.events ++ es) (cond-true (nat_le (length g.events + count) most_events) (replicate count a ++ good_after (length g.events + count) later) [] fit)
    ∙ sym (append_assoc g.events (replicate count a) (good_after (length g.events + count) later)) in
    subst (HaveFronts m d w) (sym all)
    (fronts_more m laws d w (g.events ++ replicate count a) (good_after (length g.events + count) later) (runs.fronts d g.events g.run_is))

-- a bad line ends the run
pub line_bad : {A : Type 0} (m : Ghosts A) (d : Design) (bytes : List ℕ) (v : Seen) (run : Run A) (line why : ℕ) (ahead : List Finding) → ahead ≡ Fails line why ∷ []
    → IsGoing m d bytes v run ahead → IsEnded m d bytes v run (Ending_is.BadLine line why)
line_bad m d bytes v run line why ahead is before =
    let g : IsGoing m d bytes v run (Fails line why ∷ []) = subst (IsGoing m d bytes v run) is before in
    record {
      run_is = subst (IsRun m d v run) (sym (g.events_are ∙ append-nil g.events)) g.run_is;
      verdict_is = sym g.verdict_is;
    }

pub going_too_long : {A : Type 0} (m : Ghosts A) (d : Design) (bytes : List ℕ) (v : Seen) (run : Run A) (ahead : List Finding) → ahead ≡ [] → is_too_long bytes ≡ true
    → IsGoing m d bytes v run ahead → IsEnded m d bytes v run Ending_is.TooManyBytes
going_too_long m d bytes v run ahead is long before =
    let g : IsGoing m d bytes v run [] = subst (IsGoing m d bytes v run) is before in
    record {
      run_is = subst (IsRun m d v run) (sym (g.events_are ∙ append-nil g.events)) g.run_is;
      verdict_is = sym (g.verdict_is ∙ cond-true (is_too_long bytes) (TooLarge _) _ long);
    }

-- ---- calls after calls

pub goes_ends : {A : Type 0} {m : Ghosts A} {p q : Point A} {xs ys : List ℕ} {v : Seen} {run : Run A} {ending : Ending} → GoesOn m p q xs ys → EndsIn m q v run ys ending → EndsIn m p v run xs ending
goes_ends one two = record { ended = λ d bytes rest more h. two.ended d bytes rest more (one.going d bytes rest more h) }

pub goes_breaks : {A : Type 0} {m : Ghosts A} {p q : Point A} {xs ys : List ℕ} {v : Seen} → GoesOn m p q xs ys → Breaks m q v ys → Breaks m p v xs
goes_breaks one two = record { broken = λ d bytes rest more h. two.broken d bytes rest more (one.going d bytes rest more h) }

-- the machine still has the actors that the reader lets through
pub still_on : {A : Type 0} (m : Ghosts A) (old new : A) (h c k d : ℕ) → KeepsActors m old new → k ≡ h → d ≡ c
    → ((a : Actor) → IsTrue (is_on_chip h c a) → IsTrue (is_on_chip (m.hart_count old) (m.core_count old) a))
    → (a : Actor) → IsTrue (is_on_chip k d a) → IsTrue (is_on_chip (m.hart_count new) (m.core_count new) a)
still_on m old new h c k d keeps same also on a is =
    subst (λ n. IsTrue (is_on_chip n (m.core_count new) a)) (sym keeps.harts)
    (subst (λ n. IsTrue (is_on_chip (m.hart_count old) n a)) (sym keeps.cores)
    (on a (subst (λ n. IsTrue (is_on_chip n c a)) same (subst (λ n. IsTrue (is_on_chip k n a)) also is))))
