-- A reader on its way through a piece.
use Rattle.std.proofs.Common.{append-nil, ◌≡◌, ℕ, ◌+◌, ◌≤◌, Bool, true, false, List, [], ◌∷◌, ◌++◌, length, take, drop, refl, sym, ◌∙◌, ap, subst, arith, length-append}
use Rattle.std.specs.Prelude.{Some, None, nat_lt}
use Rattle.std.proofs.lemmas.Bool.{eqb-true}
use Rattle.std.proofs.lemmas.Bool.Decides.{nat_tests}
use Rattle.std.proofs.lemmas.List.{length-take, take-append-drop}
use Rattle.conda_base.specs.declared.actor.Actor.{Actor}
use Rattle.schedule_log.specs.declared.line.BadLine.{BadLine}
use Rattle.schedule_log.specs.declared.line.Reading.{Reading}
use Rattle.schedule_log.specs.declared.line.Reading.TheVariants as Reading_is
use Rattle.schedule_log.specs.Schedule.{is_feed, is_last_line}
use Rattle.schedule_log.specs.Grammar.{reading}
use Rattle.schedule_log.specs.Findings.{Finding, Asks, Fails, Progress, found_in, answer_at, Feeds, IsBegun, feeds_in, finds}
use Rattle.schedule_log.specs.Steps.{after_line, after_byte, said_at}
use Rattle.schedule_log.specs.declared.fed.Fed.TheVariants as Fed_is
use Rattle.schedule_log.proofs.FeedLemmas.{any_more, judged_part, feeds_join, feeds_byte}

-- a reader that has taken a part of a piece, and met no event and no bad line in it
pub record Walks (start : Progress) (part : List ℕ) (now : Progress) : Type 0 where
  pub feeds : Feeds start part [] now
  pub good : now.bad ≡ None
  pub ended : now.ended ≡ start.ended + feeds_in part
  pub harts : now.harts ≡ start.harts
  pub cores : now.cores ≡ start.cores
  pub begun : IsBegun now.begun

pub feeds_in_more : (part : List ℕ) (byte : ℕ) → feeds_in (part ++ byte ∷ []) ≡ feeds_in part + feeds_in (byte ∷ [])
feeds_in_more [] byte = omega arith
feeds_in_more (first ∷ part) byte = omega (arith, feeds_in_more part byte)

pub feeds_in_few : (part : List ℕ) → feeds_in part ≤ length part
feeds_in_few [] = omega arith
feeds_in_few (first ∷ part) = go (feeds_in_few part) (is_feed first) refl
  where
    go : feeds_in part ≤ length part → (b : Bool) → is_feed first ≡ b → feeds_in (first ∷ part) ≤ length (first ∷ part)
    go few true is = rw is (omega arith)
    go few false is = rw is (omega arith)

-- what stays and what grows at a byte that doesn't make a line bad
pub record Grows (s : Progress) (byte : ℕ) (t : Progress) : Type 0 where
  pub good : t.bad ≡ s.bad
  pub ended : t.ended ≡ s.ended + feeds_in (byte ∷ [])
  pub harts : t.harts ≡ s.harts
  pub cores : t.cores ≡ s.cores
  pub begun : IsBegun t.begun

empty_begun : IsBegun []
empty_begun = record { no_feed = refl; short = omega arith }

line_grows : (s : Progress) (said : Reading) → ((why : ℕ) → said ≡ Reading_is.Bad why → ⊥) → Grows s 10 (after_line s said)
line_grows s Reading_is.Blank ok = record { good = refl; ended = omega arith; harts = refl; cores = refl; begun = empty_begun }
line_grows s (Reading_is.Events actor count) ok = record { good = refl; ended = omega arith; harts = refl; cores = refl; begun = empty_begun }
line_grows s (Reading_is.Bad why) ok = absurd (ok why refl)

pub byte_grows : (s : Progress) (byte : ℕ) → IsBegun s.begun → ((why : ℕ) → said_at s byte ≡ Reading_is.Bad why → ⊥) → Grows s byte (after_byte s byte)
byte_grows s byte begun = at_feed (is_feed byte) refl
  where
    at_length : is_feed byte ≡ false → (b : Bool) → nat_lt (length s.begun) 32 ≡ b → ((why : ℕ) → said_at s byte ≡ Reading_is.Bad why → ⊥) → Grows s byte (after_byte s byte)
    at_length other true is ok = rw other (rw is (record {
      good = refl;
      ended = rw other (omega arith);
      harts = refl;
      cores = refl;
      begun = record { no_feed = any_more s.begun byte begun.no_feed other; short = grind (arith, nat_tests, length-append s.begun (byte ∷ [])) };
    }))
    at_length other false is ok = absurd (ok 4 (rw other (rw is refl)))

    at_feed : (b : Bool) → is_feed byte ≡ b → ((why : ℕ) → said_at s byte ≡ Reading_is.Bad why → ⊥) → Grows s byte (after_byte s byte)
    at_feed true is =
        let P : ℕ → Type 0 = λ b. ((why : ℕ) → said_at s b ≡ Reading_is.Bad why → ⊥) → Grows s b (after_byte s b) in
        subst P (sym (eqb-true byte 10 is)) (line_grows s (reading s.harts s.cores s.begun))
    at_feed false is = at_length is (nat_lt (length s.begun) 32) refl

-- one byte further, where the byte says nothing
pub walks_on : (start s : Progress) (part : List ℕ) (byte : ℕ) → Walks start part s → said_at s byte ≡ Reading_is.Blank → Walks start (part ++ byte ∷ []) (after_byte s byte)
walks_on start s part byte w is =
    let grows = byte_grows s byte w.begun (λ why other. let e : Reading_is.Blank ≡ Reading_is.Bad why = sym is ∙ other in cc) in
    let step : Feeds s (byte ∷ []) [] (after_byte s byte) = rw is at (feeds_byte s byte w.good w.begun.no_feed) in
    record {
      feeds = feeds_join start s (after_byte s byte) part (byte ∷ []) [] [] w.feeds step;
      good = grows.good ∙ w.good;
      ended = omega (arith, grows.ended, w.ended, feeds_in_more part byte);
      harts = grows.harts ∙ w.harts;
      cores = grows.cores ∙ w.cores;
      begun = grows.begun;
    }

-- what a piece shows, after a part of it
pub shown_after : (start t : Progress) (piece : List ℕ) (u : ℕ) (given : List Finding) → Feeds start (take u piece) given t → found_in start piece ≡ given ++ found_in t (drop u piece)
shown_after start t piece u given f = ap (found_in start) (sym (take-append-drop u piece)) ∙ f.whole true (drop u piece)

-- a line with events is ended by a line feed
pub events_end : (s : Progress) (byte : ℕ) (actor : Actor) (count : ℕ) → said_at s byte ≡ Reading_is.Events actor count → byte ≡ 10
events_end s byte actor count is = at_feed (is_feed byte) refl
  where
    at_length : is_feed byte ≡ false → (b : Bool) → nat_lt (length s.begun) 32 ≡ b → byte ≡ 10
    at_length other true short = let no : Reading_is.Blank ≡ Reading_is.Events actor count = rw (other, short) at is in cc
    at_length other false long = let no : Reading_is.Bad 4 ≡ Reading_is.Events actor count = rw (other, long) at is in cc

    at_feed : (b : Bool) → is_feed byte ≡ b → byte ≡ 10
    at_feed true same = eqb-true byte 10 same
    at_feed false other = at_length other (nat_lt (length s.begun) 32) refl

-- a reader that has just met events
pub record Meets (start : Progress) (part : List ℕ) (given : List Finding) (now : Progress) : Type 0 where
  pub feeds : Feeds start part given now
  pub ended : now.ended ≡ start.ended + feeds_in part

pub walks_events : (start s : Progress) (part : List ℕ) (byte : ℕ) (actor : Actor) (count : ℕ) → Walks start part s → said_at s byte ≡ Reading_is.Events actor count → Meets start (part ++ byte ∷ []) (Asks actor count ∷ []) (after_byte s byte)
walks_events start s part byte actor count w is =
    let grows = byte_grows s byte w.begun (λ why other. let e : Reading_is.Events actor count ≡ Reading_is.Bad why = sym is ∙ other in cc) in
    let step : Feeds s (byte ∷ []) (Asks actor count ∷ []) (after_byte s byte) = rw is at (feeds_byte s byte w.good w.begun.no_feed) in
    record {
      feeds = feeds_join start s (after_byte s byte) part (byte ∷ []) [] (Asks actor count ∷ []) w.feeds step;
      ended = omega (arith, grows.ended, w.ended, feeds_in_more part byte);
    }

pub answer_events : (start t : Progress) (piece : List ℕ) (u : ℕ) (actor : Actor) (count : ℕ) → Feeds start (take u piece) (Asks actor count ∷ []) t → Fed_is.Events actor count u ≡ answer_at u (found_in start piece)
answer_events start t piece u actor count f = sym (ap (answer_at u) (shown_after start t piece u (Asks actor count ∷ []) f))

-- a bad line is all that is found after it
pub bad_finds : (more : Bool) (t : Progress) (bad : BadLine) (rest : List ℕ) → t.bad ≡ Some bad → finds more t rest ≡ Fails bad.line bad.why ∷ []
unfolding finds
bad_finds more t bad rest is = rw is refl

-- nothing follows a bad line
pub feeds_bad : (t : Progress) (bad : BadLine) (rest : List ℕ) → t.bad ≡ Some bad → Feeds t rest [] t
unfolding finds
feeds_bad t bad rest is = record { whole = λ more later. rw is refl }

pub bad_state : (s : Progress) (byte why : ℕ) → said_at s byte ≡ Reading_is.Bad why → (after_byte s byte).bad ≡ Some (record { line = s.ended + 1; why = why })
bad_state s byte why is = at_feed (is_feed byte) refl
  where
    at_length : is_feed byte ≡ false → (b : Bool) → nat_lt (length s.begun) 32 ≡ b → (after_byte s byte).bad ≡ Some (record { line = s.ended + 1; why = why })
    at_length other true short = let no : Reading_is.Blank ≡ Reading_is.Bad why = rw (other, short) at is in cc
    at_length other false long = let same : Reading_is.Bad 4 ≡ Reading_is.Bad why = rw (other, long) at is in rw other (rw long (ap (λ said. (after_line s said).bad) same))

    at_feed : (b : Bool) → is_feed byte ≡ b → (after_byte s byte).bad ≡ Some (record { line = s.ended + 1; why = why })
    at_feed true same = let said : reading s.harts s.cores s.begun ≡ Reading_is.Bad why = rw same at is in rw same (ap (λ said. (after_line s said).bad) said)
    at_feed false other = at_length other (nat_lt (length s.begun) 32) refl

pub bad_ended : (s : Progress) (byte why : ℕ) → said_at s byte ≡ Reading_is.Bad why → (after_byte s byte).ended ≡ s.ended
bad_ended s byte why is = at_feed (is_feed byte) refl
  where
    at_length : is_feed byte ≡ false → (b : Bool) → nat_lt (length s.begun) 32 ≡ b → (after_byte s byte).ended ≡ s.ended
    at_length other true short = let no : Reading_is.Blank ≡ Reading_is.Bad why = rw (other, short) at is in cc
    at_length other false long = rw other (rw long refl)

    at_feed : (b : Bool) → is_feed byte ≡ b → (after_byte s byte).ended ≡ s.ended
    at_feed true same = let said : reading s.harts s.cores s.begun ≡ Reading_is.Bad why = rw same at is in rw same (ap (λ said. (after_line s said).ended) said)
    at_feed false other = at_length other (nat_lt (length s.begun) 32) refl

-- the bad line that a byte shows is the one after those ended
pub bad_line_at : (s : Progress) (byte why ended : ℕ) → said_at s byte ≡ Reading_is.Bad why → ended ≡ (after_byte s byte).ended → (after_byte s byte).bad ≡ Some (record { line = ended + 1; why = why })
bad_line_at s byte why ended is same =
    bad_state s byte why is ∙ ap (λ n. Some (record { line = n + 1; why = why })) (sym (same ∙ bad_ended s byte why is))

pub walks_bad : (start s : Progress) (piece : List ℕ) (i byte why : ℕ) → Walks start (take i piece) s → take (i + 1) piece ≡ take i piece ++ byte ∷ [] → said_at s byte ≡ Reading_is.Bad why → Feeds start piece [] (after_byte s byte)
walks_bad start s piece i byte why w next is =
    let t = after_byte s byte in
    let step : Feeds s (byte ∷ []) [] t = rw is at (feeds_byte s byte w.good w.begun.no_feed) in
    let part : Feeds start (take i piece ++ byte ∷ []) [] t = feeds_join start s t (take i piece) (byte ∷ []) [] [] w.feeds step in
    let same : Feeds start (take (i + 1) piece) [] t = rw next part in
    let whole : Feeds start (take (i + 1) piece ++ drop (i + 1) piece) [] t = feeds_join start t t (take (i + 1) piece) (drop (i + 1) piece) [] [] same (feeds_bad t _ (drop (i + 1) piece) (bad_state s byte why is)) in
    subst (λ text. Feeds start text [] t) (take-append-drop (i + 1) piece) whole

pub answer_bad : (start t : Progress) (piece : List ℕ) (u line why : ℕ) → Feeds start piece [] t → t.bad ≡ Some (record { line = line; why = why }) → Fed_is.Bad line why ≡ answer_at u (found_in start piece)
answer_bad start t piece u line why f is =
    let shows : found_in start piece ≡ Fails line why ∷ [] = ap (found_in start) (sym (append-nil piece)) ∙ f.whole true [] ∙ bad_finds true t (record { line = line; why = why }) [] is in
    rw shows refl

-- a line begun shows nothing yet
pub shows_nothing : (s : Progress) → s.bad ≡ None → IsBegun s.begun → found_in s [] ≡ []
unfolding finds
shows_nothing s good begun =
    let no_part : is_last_line true s.begun ≡ false = grind (arith, nat_tests, begun.short) in
    rw good (rw (append-nil s.begun) (rw (judged_part true s.begun begun.no_feed) (rw no_part refl)))

pub shows_none : (start s : Progress) (piece : List ℕ) → Feeds start piece [] s → s.bad ≡ None → IsBegun s.begun → found_in start piece ≡ []
shows_none start s piece f good begun =
    ap (found_in start) (sym (append-nil piece)) ∙ f.whole true [] ∙ shows_nothing s good begun

pub answer_more : (start s : Progress) (piece : List ℕ) (u : ℕ) → Feeds start piece [] s → s.bad ≡ None → IsBegun s.begun → Fed_is.More u ≡ answer_at u (found_in start piece)
answer_more start s piece u f good begun = rw (shows_none start s piece f good begun) refl

-- a part of a piece has no more line feeds than its length says
pub feeds_in_taken : (piece : List ℕ) (i : ℕ) → feeds_in (take i piece) ≤ i
feeds_in_taken piece i = omega (arith, feeds_in_few (take i piece), length-take i piece)
