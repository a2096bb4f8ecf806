-- How pieces of a schedule join.
use Rattle.std.proofs.Common.{◌≡◌, ℕ, ◌+◌, ◌<◌, ◌≤◌, Bool, true, false, List, [], ◌∷◌, ◌++◌, length, refl, sym, ◌∙◌, ap, subst, arith, append-nil, append_assoc, length-append}
use Rattle.std.specs.Prelude.{None, nat_lt}
use Rattle.std.specs.List.{list_any}
use Rattle.std.proofs.lemmas.Bool.{eqb-true}
use Rattle.std.proofs.lemmas.Bool.Decides.{nat_tests}
use Rattle.schedule_log.specs.declared.line.Reading.{Reading}
use Rattle.schedule_log.specs.declared.line.Reading.TheVariants as Reading_is
use Rattle.schedule_log.specs.Schedule.{is_feed, ended_lines, last_part, last_line, is_last_line, judged_lines}
use Rattle.schedule_log.specs.Grammar.{reading}
use Rattle.schedule_log.specs.Findings.{Finding, Asks, found_then, found_from, Progress, unless_bad, finds, Feeds}
use Rattle.schedule_log.specs.Steps.{after_line, after_byte, said_at, asked_by}
use Rattle.schedule_log.proofs.ScheduleLemmas.{ended_lines_at, last_part_at, ended_lines_none, last_part_none}

-- two pieces, one after another, are read as one
pub feeds_join : (s t u : Progress) (a b : List ℕ) (f g : List Finding) → Feeds s a f t → Feeds t b g u → Feeds s (a ++ b) (f ++ g) u
feeds_join s t u a b f g first second = record {
  whole = λ more rest.
      ap (finds more s) (append_assoc a b rest) ∙ first.whole more (b ++ rest) ∙ ap (λ later. f ++ later) (second.whole more rest) ∙ sym (append_assoc f g (finds more u rest));
}

-- a line up to its line feed comes first
pub judged_line : (more : Bool) (line rest : List ℕ) → list_any is_feed line ≡ false → judged_lines more (line ++ 10 ∷ rest) ≡ line ∷ judged_lines more rest
judged_line more line rest none =
    ap (λ lines. lines ++ last_line more (last_part (line ++ 10 ∷ rest))) (ended_lines_at line rest none)
    ∙ ap (λ part. line ∷ (ended_lines rest ++ last_line more part)) (last_part_at line rest)

-- text with no line feed is the last part
pub judged_part : (more : Bool) (line : List ℕ) → list_any is_feed line ≡ false → judged_lines more line ≡ last_line more line
judged_part more line none =
    ap (λ lines. lines ++ last_line more (last_part line)) (ended_lines_none line none) ∙ ap (last_line more) (last_part_none line none)

pub any_more : (line : List ℕ) (byte : ℕ) → list_any is_feed line ≡ false → is_feed byte ≡ false → list_any is_feed (line ++ byte ∷ []) ≡ false
any_more [] byte none other = rw other refl
any_more (first ∷ line) byte none other = go (any_more line byte) (is_feed first) refl
  where
    go : (list_any is_feed line ≡ false → is_feed byte ≡ false → list_any is_feed (line ++ byte ∷ []) ≡ false) → (b : Bool) → is_feed first ≡ b → list_any is_feed ((first ∷ line) ++ byte ∷ []) ≡ false
    go later true is = let no : true ≡ false = rw is at none in cc
    go later false is = rw is (later (rw is at none) other)

long_is_last : (more : Bool) (line : List ℕ) → 32 < length line → is_last_line more line ≡ true
long_is_last true line long = grind (arith, nat_tests)
long_is_last false line long = grind (arith, nat_tests)

-- the first line goes on from too long a beginning
pub record BeginsLong (more : Bool) (line text : List ℕ) : Type 0 where
  pub extra : List ℕ
  pub later : List (List ℕ)
  pub lines : judged_lines more text ≡ (line ++ extra) ∷ later

long_alone : (more : Bool) (line : List ℕ) → list_any is_feed line ≡ false → 32 < length line → judged_lines more (line ++ []) ≡ (line ++ []) ∷ []
long_alone more line none long =
    rw (append-nil line) (judged_part more line none ∙ rw (long_is_last more line long) refl)

long_ended : (more : Bool) (line rest : List ℕ) → list_any is_feed line ≡ false → judged_lines more (line ++ 10 ∷ rest) ≡ (line ++ []) ∷ judged_lines more rest
long_ended more line rest none = rw (append-nil line) (judged_line more line rest none)

long_on : (more : Bool) (line : List ℕ) (byte : ℕ) (rest : List ℕ) → BeginsLong more (line ++ byte ∷ []) ((line ++ byte ∷ []) ++ rest) → BeginsLong more line (line ++ byte ∷ rest)
long_on more line byte rest after = record {
  extra = byte ∷ after.extra;
  later = after.later;
  lines =
      ap (judged_lines more) (sym (append_assoc line (byte ∷ []) rest))
      ∙ after.lines
      ∙ ap (λ first. first ∷ after.later) (append_assoc line (byte ∷ []) after.extra);
}

pub begins_long : (more : Bool) (rest line : List ℕ) → list_any is_feed line ≡ false → 32 < length line → BeginsLong more line (line ++ rest)
begins_long more [] line none long = record { extra = []; later = []; lines = long_alone more line none long }
begins_long more (byte ∷ rest) line none long = go (begins_long more rest) (is_feed byte) refl
  where
    go : ((line : List ℕ) → list_any is_feed line ≡ false → 32 < length line → BeginsLong more line (line ++ rest)) → (b : Bool) → is_feed byte ≡ b → BeginsLong more line (line ++ byte ∷ rest)
    go later true is =
        let P : ℕ → Type 0 = λ b. judged_lines more (line ++ b ∷ rest) ≡ (line ++ []) ∷ judged_lines more rest in
        record { extra = []; later = judged_lines more rest; lines = subst P (sym (eqb-true byte 10 is)) (long_ended more line rest none) }
    go later false is =
        long_on more line byte rest (later (line ++ byte ∷ []) (any_more line byte none is) (omega (arith, length-append line (byte ∷ []))))

-- what a reader finds that has met no bad line
finds_open : (more : Bool) (s : Progress) (text : List ℕ) → s.bad ≡ None → finds more s text ≡ found_from s.harts s.cores (s.ended + 1) (judged_lines more (s.begun ++ text))
unfolding finds
finds_open more s text open_yet = ap (λ bad. unless_bad bad (found_from s.harts s.cores (s.ended + 1) (judged_lines more (s.begun ++ text)))) open_yet

-- a line gives what it says, and then comes what the reader finds after it
line_gives : (more : Bool) (s : Progress) (rest : List ℕ) (said : Reading) → s.bad ≡ None → found_then said (s.ended + 1) (found_from s.harts s.cores (s.ended + 1 + 1) (judged_lines more rest)) ≡ asked_by said ++ finds more (after_line s said) rest
unfolding finds
line_gives more s rest Reading_is.Blank open_yet = sym (finds_open more (after_line s Reading_is.Blank) rest open_yet)
line_gives more s rest (Reading_is.Events actor count) open_yet = ap (λ later. Asks actor count ∷ later) (sym (finds_open more (after_line s (Reading_is.Events actor count)) rest open_yet))
line_gives more s rest (Reading_is.Bad why) open_yet = refl

too_long : (harts cores : ℕ) (line : List ℕ) → 32 < length line → reading harts cores line ≡ Reading_is.Bad 4
too_long harts cores line long = let is : nat_lt 32 (length line) ≡ true = grind (arith, nat_tests) in rw is refl

-- the three things that a byte may do
feeds_feed : (s : Progress) → s.bad ≡ None → list_any is_feed s.begun ≡ false → Feeds s (10 ∷ []) (asked_by (reading s.harts s.cores s.begun)) (after_line s (reading s.harts s.cores s.begun))
feeds_feed s open_yet none = record {
  whole = λ more rest.
      finds_open more s (10 ∷ rest) open_yet
      ∙ ap (found_from s.harts s.cores (s.ended + 1)) (judged_line more s.begun rest none)
      ∙ line_gives more s rest (reading s.harts s.cores s.begun) open_yet;
}

feeds_long : (s : Progress) (byte : ℕ) → s.bad ≡ None → list_any is_feed s.begun ≡ false → is_feed byte ≡ false → 32 ≤ length s.begun → Feeds s (byte ∷ []) [] (after_line s (Reading_is.Bad 4))
unfolding finds
feeds_long s byte open_yet none other long = record {
  whole = λ more rest.
      let long_on : 32 < length (s.begun ++ byte ∷ []) = omega (arith, length-append s.begun (byte ∷ [])) in
      let first = begins_long more rest (s.begun ++ byte ∷ []) (any_more s.begun byte none other) long_on in
      let still : 32 < length ((s.begun ++ byte ∷ []) ++ first.extra) = omega (arith, length-append (s.begun ++ byte ∷ []) first.extra) in
      finds_open more s (byte ∷ rest) open_yet
      ∙ ap (λ text. found_from s.harts s.cores (s.ended + 1) (judged_lines more text)) (sym (append_assoc s.begun (byte ∷ []) rest))
      ∙ ap (found_from s.harts s.cores (s.ended + 1)) first.lines
      ∙ ap (λ said. found_then said (s.ended + 1) (found_from s.harts s.cores (s.ended + 1 + 1) first.later)) (too_long s.harts s.cores ((s.begun ++ byte ∷ []) ++ first.extra) still);
}

feeds_more : (s : Progress) (byte : ℕ) → Feeds s (byte ∷ []) [] (record s { begun = s.begun ++ byte ∷ [] })
unfolding finds
feeds_more s byte = record {
  whole = λ more rest.
      ap (λ text. unless_bad s.bad (found_from s.harts s.cores (s.ended + 1) (judged_lines more text))) (sym (append_assoc s.begun (byte ∷ []) rest));
}

-- a byte gives what it says
pub feeds_byte : (s : Progress) (byte : ℕ) → s.bad ≡ None → list_any is_feed s.begun ≡ false → Feeds s (byte ∷ []) (asked_by (said_at s byte)) (after_byte s byte)
feeds_byte s byte open_yet none = at_feed (is_feed byte) refl
  where
    at_length : is_feed byte ≡ false → (b : Bool) → nat_lt (length s.begun) 32 ≡ b → Feeds s (byte ∷ []) (asked_by (said_at s byte)) (after_byte s byte)
    at_length other true is = rw other (rw is (feeds_more s byte))
    at_length other false is = rw other (rw is (feeds_long s byte open_yet none other (grind (arith, nat_tests))))

    at_feed : (b : Bool) → is_feed byte ≡ b → Feeds s (byte ∷ []) (asked_by (said_at s byte)) (after_byte s byte)
    at_feed true is =
        let P : ℕ → Type 0 = λ b. Feeds s (b ∷ []) (asked_by (said_at s b)) (after_byte s b) in
        subst P (sym (eqb-true byte 10 is)) (feeds_feed s open_yet none)
    at_feed false is = at_length is (nat_lt (length s.begun) 32) refl
