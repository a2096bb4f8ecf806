-- The lines of an order, one after another.
use Rattle.std.proofs.Common.{◌≡◌, ℕ, ◌+◌, ◌<◌, ◌≤◌, Bool, true, false, List, [], ◌∷◌, ◌++◌, eqb, length, take, drop, map, refl, sym, ◌∙◌, ap, subst, arith, append_assoc, append-nil, length-append}
use Rattle.std.specs.Prelude.{Option, Some, None, IfSome, slice_index}
use Rattle.std.specs.List.{list_any}
use Rattle.std.proofs.lemmas.Bool.{eqb-true}
use Rattle.std.proofs.lemmas.Bool.Decides.{nat_tests}
use Rattle.std.proofs.lemmas.List.{take-append-drop}
use Rattle.schedule_log.specs.declared.entry.Entry.{Entry}
use Rattle.schedule_log.specs.EntryReading.{entry_in}
use Rattle.schedule_log.specs.Findings.{IsBegun}
use Rattle.schedule_log.specs.Schedule.{is_feed, ended_lines, last_part, is_last_line}
use Rattle.schedule_log.specs.Texts.{text_of, IsEntry}
use Rattle.schedule_log.proofs.ScheduleLemmas.{ended_lines_at, last_part_at, ended_lines_none, last_part_none}
use Rattle.schedule_log.proofs.FeedLemmas.{any_more}
use Rattle.schedule_log.proofs.EntryLemmas.{length_text_of}
use Rattle.schedule_log.proofs.EntryReadingLemmas.{pick}
use Rattle.schedule_log.proofs.EndReadingLemmas.{entry_read, line_text, line_fits}
use Rattle.order_reading.specs.Lines.{unended, entry_lines}
use Rattle.order_reading.specs.Reading.{Progress, ahead, after_feed, BeginsBad, GivesEntry, WantsMore, MeetsBad}

-- ---- which lines are entries

long_enough : (line : List ℕ) → slice_index line 1 ≡ 32 → 2 ≤ length line
long_enough [] space = absurd (omega arith)
long_enough (byte ∷ []) space = absurd (omega arith)
long_enough (byte ∷ next ∷ line) space = omega arith

-- a line that is read as an entry is the entry's text
pub record IsLine (line : List ℕ) (entry : Entry) : Type 0 where
  pub text : text_of entry ≡ line
  pub fits : IsEntry entry

pub line_is : (line : List ℕ) (entry : Entry) → entry_in line ≡ Some entry → IsLine line entry
line_is line entry found =
    pick (eqb (slice_index line 1) 32) found
    (λ space by.
    let at : slice_index line 1 ≡ 32 = eqb-true (slice_index line 1) 32 space in
    record {
      text = line_text line (Some entry) (long_enough line at) at (sym by);
      fits = line_fits line (Some entry) (sym by);
    })
    (λ _ none. absurd (cc))

-- what reading a line as an entry promises is what the line is read as
pub read_is : (line : List ℕ) (result : Option Entry) → IfSome result (λ entry. text_of entry ≡ line) → IfSome result IsEntry → ((entry : Entry) → IsEntry entry → text_of entry ≡ line → result ≡ Some entry) → result ≡ entry_in line
read_is line (Some entry) text fits every = sym (ap entry_in (sym text) ∙ entry_read entry fits)
read_is line None text fits every = go (entry_in line) refl
  where
    go : (found : Option Entry) → entry_in line ≡ found → None ≡ entry_in line
    go None is = sym is
    go (Some entry) is = let l = line_is line entry is in let never : None ≡ Some entry = every entry l.fits l.text in absurd (cc)

long_is_none : (line : List ℕ) → 32 < length line → entry_in line ≡ None
long_is_none line long = go (entry_in line) refl
  where
    go : (found : Option Entry) → entry_in line ≡ found → entry_in line ≡ None
    go None is = is
    go (Some entry) is =
        let l = line_is line entry is in
        absurd (omega (arith, length_text_of entry l.fits, ap length l.text))

-- ---- lines in a text

pub line_first : (more : Bool) (line rest : List ℕ) → list_any is_feed line ≡ false → entry_lines more (line ++ 10 ∷ rest) ≡ entry_in line ∷ entry_lines more rest
line_first more line rest none =
    ap (λ lines. map entry_in lines ++ unended more (last_part (line ++ 10 ∷ rest))) (ended_lines_at line rest none)
    ∙ ap (λ part. entry_in line ∷ (map entry_in (ended_lines rest) ++ unended more part)) (last_part_at line rest)

part_alone : (more : Bool) (line : List ℕ) → list_any is_feed line ≡ false → entry_lines more line ≡ unended more line
part_alone more line none =
    ap (λ lines. map entry_in lines ++ unended more (last_part line)) (ended_lines_none line none) ∙ ap (unended more) (last_part_none line none)

long_is_last : (more : Bool) (line : List ℕ) → 32 < length line → is_last_line more line ≡ true
long_is_last true line long = grind (arith, nat_tests)
long_is_last false line long = grind (arith, nat_tests)

-- a line that is too long is bad however it goes on
pub long_bad : (more : Bool) (rest line : List ℕ) → list_any is_feed line ≡ false → 32 < length line → BeginsBad (entry_lines more (line ++ rest))
long_bad more [] line none long = record {
  later = [];
  same = ap (entry_lines more) (append-nil line) ∙ part_alone more line none ∙ rw (long_is_last more line long) refl;
}
long_bad more (byte ∷ rest) line none long = go (long_bad more rest) (is_feed byte) refl
  where
    go : ((line : List ℕ) → list_any is_feed line ≡ false → 32 < length line → BeginsBad (entry_lines more (line ++ rest))) → (b : Bool) → is_feed byte ≡ b → BeginsBad (entry_lines more (line ++ byte ∷ rest))
    go later true is =
        let P : ℕ → Type 0 = λ b. BeginsBad (entry_lines more (line ++ b ∷ rest)) in
        subst P (sym (eqb-true byte 10 is)) (record {
          later = entry_lines more rest;
          same = line_first more line rest none ∙ ap (λ first. first ∷ entry_lines more rest) (long_is_none line long);
        })
    go later false is =
        let first = later (line ++ byte ∷ []) (any_more line byte none is) (omega (arith, length-append line (byte ∷ []))) in
        record { later = first.later; same = ap (entry_lines more) (sym (append_assoc line (byte ∷ []) rest)) ∙ first.same }

-- ---- bytes

pub feed_entry : (p : Progress) (entry : Entry) → list_any is_feed p.begun ≡ false → entry_in p.begun ≡ Some entry → (more : Bool) (rest : List ℕ) → ahead more p (10 ∷ rest) ≡ Some entry ∷ ahead more (after_feed p) rest
feed_entry p entry none is more rest = line_first more p.begun rest none ∙ ap (λ first. first ∷ entry_lines more rest) is

pub feed_bad : (p : Progress) → list_any is_feed p.begun ≡ false → entry_in p.begun ≡ None → (more : Bool) (rest : List ℕ) → BeginsBad (ahead more p (10 ∷ rest))
feed_bad p none is more rest = record {
  later = entry_lines more rest;
  same = line_first more p.begun rest none ∙ ap (λ first. first ∷ entry_lines more rest) is;
}

pub full_bad : (p : Progress) (byte : ℕ) → list_any is_feed p.begun ≡ false → is_feed byte ≡ false → 32 ≤ length p.begun → (more : Bool) (rest : List ℕ) → BeginsBad (ahead more p (byte ∷ rest))
full_bad p byte none other long more rest =
    let bad = long_bad more rest (p.begun ++ byte ∷ []) (any_more p.begun byte none other) (omega (arith, length-append p.begun (byte ∷ []))) in
    record { later = bad.later; same = ap (entry_lines more) (sym (append_assoc p.begun (byte ∷ []) rest)) ∙ bad.same }

-- ---- a reader on its way through a piece

-- it has taken this part, and no line in it ended
pub record Walks (start : Progress) (part : List ℕ) (now : Progress) : Type 0 where
  pub lines : (more : Bool) (rest : List ℕ) → ahead more start (part ++ rest) ≡ ahead more now rest
  pub good : now.bad ≡ false
  pub ended : now.ended ≡ start.ended
  pub begun : IsBegun now.begun

pub walks_none : (start : Progress) → start.bad ≡ false → IsBegun start.begun → Walks start [] start
walks_none start good begun = record { lines = λ more rest. refl; good = good; ended = refl; begun = begun }

pub walks_on : (start now next : Progress) (part : List ℕ) (byte : ℕ) → Walks start part now → next ≡ record now { begun = now.begun ++ byte ∷ [] } → IsBegun next.begun → Walks start (part ++ byte ∷ []) next
walks_on start now next part byte w is begun = record {
  lines = λ more rest.
      ap (ahead more start) (append_assoc part (byte ∷ []) rest)
      ∙ w.lines more (byte ∷ rest)
      ∙ ap (entry_lines more) (sym (append_assoc now.begun (byte ∷ []) rest))
      ∙ ap (λ (p : Progress). ahead more p rest) (sym is);
  good = ap (λ (p : Progress). p.bad) is ∙ w.good;
  ended = ap (λ (p : Progress). p.ended) is ∙ w.ended;
  begun = begun;
}

-- a piece is a front of it, and what is left
split : (piece : List ℕ) (i byte : ℕ) (rest : List ℕ) → take (i + 1) piece ≡ take i piece ++ byte ∷ [] → piece ++ rest ≡ take i piece ++ byte ∷ (drop (i + 1) piece ++ rest)
split piece i byte rest next =
    ap (λ p. p ++ rest) (sym (take-append-drop (i + 1) piece))
    ∙ ap (λ front. (front ++ drop (i + 1) piece) ++ rest) next
    ∙ append_assoc (take i piece ++ byte ∷ []) (drop (i + 1) piece) rest
    ∙ append_assoc (take i piece) (byte ∷ []) (drop (i + 1) piece ++ rest)

pub walks_entry : (start now next : Progress) (piece : List ℕ) (i byte : ℕ) (entry : Entry) → Walks start (take i piece) now → i < length piece → take (i + 1) piece ≡ take i piece ++ byte ∷ [] → byte ≡ 10 → entry_in now.begun ≡ Some entry → next ≡ after_feed now → GivesEntry start piece entry (i + 1) next
walks_entry start now next piece i byte entry w below more_taken feed is after = record {
  some = omega arith;
  bound = omega arith;
  lines = λ more rest.
      let left = drop (i + 1) piece ++ rest in
      ap (ahead more start) (split piece i byte rest more_taken)
      ∙ w.lines more (byte ∷ left)
      ∙ ap (λ b. ahead more now (b ∷ left)) feed
      ∙ feed_entry now entry w.begun.no_feed is more left
      ∙ ap (λ (p : Progress). Some entry ∷ ahead more p left) (sym after);
}

pub walks_bad : (start now : Progress) (piece : List ℕ) (i byte line : ℕ) → Walks start (take i piece) now → take (i + 1) piece ≡ take i piece ++ byte ∷ [] → ((more : Bool) (rest : List ℕ) → BeginsBad (ahead more now (byte ∷ rest))) → line ≡ now.ended + 1 → MeetsBad start piece line 1
walks_bad start now piece i byte line w more_taken bad number = record {
  number = number ∙ ap (λ n. n + 1) w.ended;
  cause = refl;
  lines = λ more rest.
      let b = bad more (drop (i + 1) piece ++ rest) in
      record {
        later = b.later;
        same = ap (ahead more start) (split piece i byte rest more_taken) ∙ w.lines more (byte ∷ (drop (i + 1) piece ++ rest)) ∙ b.same;
      };
}

pub walks_all : (start now : Progress) (piece : List ℕ) → Walks start piece now → WantsMore start piece (length piece) now
walks_all start now piece w = record { all = refl; lines = w.lines }

-- ---- the end

pub end_none : (p : Progress) → p.begun ≡ [] → ahead false p [] ≡ []
end_none p none = ap (λ begun. entry_lines false (begun ++ [])) none

pub end_bad : (p : Progress) → list_any is_feed p.begun ≡ false → 0 < length p.begun → ahead false p [] ≡ None ∷ []
end_bad p none some =
    let last : is_last_line false p.begun ≡ true = grind (arith, nat_tests) in
    ap (entry_lines false) (append-nil p.begun) ∙ part_alone false p.begun none ∙ rw last refl
