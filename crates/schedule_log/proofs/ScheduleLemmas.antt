-- What reading a schedule uses of its definitions.
use Rattle.std.proofs.Common.{◌≡◌, ℕ, ◌+◌, ◌-◌, ◌*◌, ◌<◌, ◌≤◌, ◌&&◌, ◌||◌, Bool, true, false, List, [], ◌∷◌, ◌++◌, length, drop, get_or, refl, ap, arith, add-one, drop-cons}
use Rattle.std.specs.Prelude.{Some, None}
use Rattle.std.specs.List.{list_all, list_any}
use Rattle.std.proofs.lemmas.Bool.Decides.{nat_tests}
use Rattle.conda_base.specs.Digits.{is_digit, number_after}
use Rattle.schedule_log.specs.Schedule.{begins_above_zero, count_of, is_feed, onto_first_line, ended_lines, last_part}

or_false : (a b : Bool) → (a || b) ≡ false → (a ≡ false) × (b ≡ false)
or_false true b h = cc
or_false false b h = (refl, h)

or_true : (a : Bool) → (a || true) ≡ true
or_true true = refl
or_true false = refl

-- more digits make a number no smaller
pub number_after_above : (digits : List ℕ) (n : ℕ) → n ≤ number_after n digits
number_after_above [] n = omega arith
number_after_above (digit ∷ digits) n = omega (arith, number_after_above digits (n * 10 + (digit - 48)))

-- one digit more
pub number_next : (digits : List ℕ) (i n : ℕ) → i < length digits → number_after n (drop i digits) ≡ number_after (n * 10 + (get_or digits i 0 - 48)) (drop (i + 1) digits)
number_next digits i n h = rw (add-one) (rw (drop-cons digits i 0) refl)

pub count_of_too_many : (digits : List ℕ) → 67108864 < number_after 0 digits → count_of digits ≡ None
count_of_too_many digits high = go (begins_above_zero digits && list_all is_digit digits) refl
  where
    go : (front : Bool) → (begins_above_zero digits && list_all is_digit digits) ≡ front → count_of digits ≡ None
    go true is = rw is (grind (arith, nat_tests))
    go false is = rw is refl

-- and a good one
pub count_of_good : (digits : List ℕ) → begins_above_zero digits ≡ true → list_all is_digit digits ≡ true → number_after 0 digits ≤ 67108864 → count_of digits ≡ Some (number_after 0 digits)
count_of_good digits front all few = rw front (rw all (grind (arith, nat_tests)))

-- a line up to a line feed is the first one
pub ended_lines_at : (line text : List ℕ) → list_any is_feed line ≡ false → ended_lines (line ++ 10 ∷ text) ≡ line ∷ ended_lines text
ended_lines_at [] text none = refl
ended_lines_at (byte ∷ line) text none =
    let parts = or_false (is_feed byte) (list_any is_feed line) none in
    rw (parts.0) (ap (onto_first_line byte) (ended_lines_at line text parts.1))

any_feed_at : (line text : List ℕ) → list_any is_feed (line ++ 10 ∷ text) ≡ true
any_feed_at [] text = refl
any_feed_at (byte ∷ line) text = rw (any_feed_at line text) (or_true (is_feed byte))

pub last_part_at : (line text : List ℕ) → last_part (line ++ 10 ∷ text) ≡ last_part text
last_part_at [] text = refl
last_part_at (byte ∷ line) text = rw (any_feed_at (byte ∷ line) text) (last_part_at line text)

pub ended_lines_none : (text : List ℕ) → list_any is_feed text ≡ false → ended_lines text ≡ []
ended_lines_none [] none = refl
ended_lines_none (byte ∷ text) none =
    let parts = or_false (is_feed byte) (list_any is_feed text) none in
    rw (parts.0) (ap (onto_first_line byte) (ended_lines_none text parts.1))

pub last_part_none : (text : List ℕ) → list_any is_feed text ≡ false → last_part text ≡ text
last_part_none [] none = refl
last_part_none (byte ∷ text) none = rw none refl
