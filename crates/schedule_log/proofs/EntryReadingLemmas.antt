-- Lines of an order are read back as the entries whose texts they are.
use Rattle.std.proofs.Common.{◌≡◌, ℕ, ◌+◌, ◌-◌, ◌<◌, ◌≤◌, ◌==◌, ◌&&◌, Bool, true, false, List, [], ◌∷◌, ◌++◌, length, refl, sym, ◌∙◌, ap, subst, ◌^◌, ◌%◌, arith, zero, suc, rules}
use Rattle.std.specs.Prelude.{Option, Some, None, option_map, option_and_then, if◌then◌else◌, nat_le, nat_lt}
use Rattle.std.specs.List.{list_all}
use Rattle.std.specs.Fmt.{decimal}
use Rattle.std.proofs.lemmas.Fmt.{decimal_by_steps, decimal_digit, decimal-digits_value, digits_decimal, digits_value-decimal}
use Rattle.std.proofs.lemmas.Str.Parse.{IsDigitsTest, FoldsDigits, IsNumeralModel, numerals_by_fold}
use Rattle.std.proofs.lemmas.Bool.{eqb-true}
use Rattle.std.proofs.lemmas.Bool.Decides.{nat_tests}
use Rattle.conda_base.specs.declared.actor.Actor.{Actor}
use Rattle.conda_base.specs.declared.actor.Actor.TheVariants.{Hart, Core}
use Rattle.conda_base.specs.Digits.{is_digit, number_after}
use Rattle.schedule_log.specs.Schedule.{begins_above_zero, count_of}
use Rattle.schedule_log.specs.Texts.{actor_text, IsActor}
use Rattle.schedule_log.specs.EntryReading.{acts_in, actor_in, cause_in, digit_in}
use Rattle.schedule_log.proofs.ScheduleLemmas.{count_of_good}

-- a choice that gave a value took one of its ways
pub pick : {X R : Type 0} (b : Bool) {x y : Option X} {v : X} → (if b then x else y) ≡ Some v → (b ≡ true → x ≡ Some v → R) → (b ≡ false → y ≡ Some v → R) → R
pick true h taken other = taken refl h
pick false h taken other = other refl h

-- a mapped value comes from one
pub mapped : {X Y R : Type 0} (f : X → Y) (o : Option X) {v : Y} → option_map f o ≡ Some v → ((x : X) → o ≡ Some x → f x ≡ v → R) → R
mapped f None h found = absurd (cc)
mapped f (Some x) h found = found x refl (cc)

pub chained : {X Y R : Type 0} (f : X → Option Y) (o : Option X) {v : Y} → option_and_then f o ≡ Some v → ((x : X) → o ≡ Some x → f x ≡ Some v → R) → R
chained f None h found = absurd (cc)
chained f (Some x) h found = found x refl h

pub and_true : (a b : Bool) → (a && b) ≡ true → (a ≡ true) × (b ≡ true)
and_true true b h = (refl, h)
and_true false b h = absurd (cc)

-- a number's one digit
pub record IsDigit (limit : ℕ) (text : List ℕ) (n : ℕ) : Type 0 where
  pub digit : decimal n ≡ text
  pub below : n < limit

pub digit_text : (limit : ℕ) (text : List ℕ) (n : ℕ) → limit ≤ 10 → digit_in limit text ≡ Some n → IsDigit limit text n
digit_text limit [] n low h = absurd (cc)
digit_text limit (byte ∷ []) n low h =
    pick (nat_le 48 byte && nat_lt (byte - 48) limit) h
    (λ is x.
    let both = and_true (nat_le 48 byte) (nat_lt (byte - 48) limit) is in
    let above : 48 ≤ byte = grind (arith, nat_tests, both.0) in
    let under : byte - 48 < limit = grind (arith, nat_tests, both.1) in
    let same : byte - 48 ≡ n = cc in
    record { digit = decimal_digit n (omega arith) ∙ ap (λ b. b ∷ []) (omega arith); below = omega arith })
    (λ _ y. absurd (cc))
digit_text limit (byte ∷ next ∷ text) n low h =
    pick ((length (byte ∷ next ∷ text) == 1) && nat_le 48 byte && nat_lt (byte - 48) limit) h
    (λ is x.
    let both = and_true ((length (byte ∷ next ∷ text) == 1) && nat_le 48 byte) (nat_lt (byte - 48) limit) is in
    let front = and_true (length (byte ∷ next ∷ text) == 1) (nat_le 48 byte) both.0 in
    let one : length (byte ∷ next ∷ text) ≡ 1 = eqb-true (length (byte ∷ next ∷ text)) 1 front.0 in
    absurd (omega arith))
    (λ _ y. absurd (cc))

-- and its digit is read
pub digit_read : (limit n : ℕ) → limit ≤ 10 → n < limit → digit_in limit (decimal n) ≡ Some n
digit_read limit n low fits =
    let same : 48 + n - 48 ≡ n = omega arith in
    let above : nat_le 48 (48 + n) ≡ true = grind (arith, nat_tests) in
    let under : nat_lt n limit ≡ true = grind (arith, nat_tests) in
    rw (decimal_digit n (omega arith)) (rw above (rw same (rw under refl)))

-- an actor's text
pub record IsActorIn (text : List ℕ) (actor : Actor) : Type 0 where
  pub words : actor_text actor ≡ text
  pub fits : IsActor actor

pub actor_words : (text : List ℕ) (actor : Actor) → actor_in text ≡ Some actor → IsActorIn text actor
actor_words [] actor h = absurd (cc)
actor_words (byte ∷ text) actor h =
    pick (byte == 104) h
    (λ is x. mapped Hart (digit_in 8 text) x (λ n found same.
    let d = digit_text 8 text n (omega arith) found in
    subst (IsActorIn (byte ∷ text)) same (record { words = ap (λ rest. 104 ∷ rest) d.digit ∙ ap (λ b. b ∷ text) (sym (eqb-true byte 104 is)); fits = d.below })))
    (λ _ y. pick (byte == 110) y
    (λ is x. mapped Core (digit_in 4 text) x (λ n found same.
    let d = digit_text 4 text n (omega arith) found in
    subst (IsActorIn (byte ∷ text)) same (record { words = ap (λ rest. 110 ∷ rest) d.digit ∙ ap (λ b. b ∷ text) (sym (eqb-true byte 110 is)); fits = d.below })))
    (λ _ z. absurd (cc)))

pub actor_read : (actor : Actor) → IsActor actor → actor_in (actor_text actor) ≡ Some actor
actor_read (Hart h) fits = ap (option_map Hart) (digit_read 8 h (omega arith) fits)
actor_read (Core n) fits = ap (option_map Core) (digit_read 4 n (omega arith) fits)

-- digits as this crate reads them are digits as numbers are written
abbrev AreDigits : List ℕ → Type 0
AreDigits text = list_all is_digit text ≡ true

tells_digits : IsDigitsTest AreDigits
tells_digits = search rules

folds_digits : FoldsDigits number_after
folds_digits = search rules

numerals : IsNumeralModel AreDigits (number_after 0)
numerals = numerals_by_fold AreDigits tells_digits number_after folds_digits

begins_more : (front back : List ℕ) → begins_above_zero front ≡ true → begins_above_zero (front ++ back) ≡ true
begins_more [] back h = absurd (cc)
begins_more (byte ∷ front) back h = h

-- a number above 0 doesn't begin with a 0
begins_decimal : (n : ℕ) → n < 2 ^ 64 → 1 ≤ n → begins_above_zero (decimal n) ≡ true
begins_decimal = decimal_by_steps (λ n ds. 1 ≤ n → begins_above_zero ds ≡ true)
    (λ n low some. grind (arith, nat_tests))
    (λ n ds high before some. begins_more ds ((48 + n % 10) ∷ []) (before (omega arith)))

-- the number of acts of a try
pub record IsActs (text : List ℕ) (n : ℕ) : Type 0 where
  pub words : decimal n ≡ text
  pub some : 1 ≤ n
  pub few : n ≤ 65536

pub acts_read : (n : ℕ) → 1 ≤ n → n ≤ 65536 → acts_in (decimal n) ≡ Some n
acts_read n some few =
    let value : number_after 0 (decimal n) ≡ n = digits_value-decimal numerals n (omega arith) in
    let all : list_all is_digit (decimal n) ≡ true = digits_decimal numerals n (omega arith) in
    let counted : count_of (decimal n) ≡ Some n = count_of_good (decimal n) (begins_decimal n (omega arith) some) all (omega arith) ∙ ap Some value in
    let high : nat_le n 65536 ≡ true = grind (arith, nat_tests) in
    rw counted (rw high refl)

-- what a count is read from
record IsCount (text : List ℕ) (n : ℕ) : Type 0 where
  words : decimal n ≡ text
  some : 1 ≤ n

above_zero : (n : ℕ) (text : List ℕ) → decimal n ≡ text → begins_above_zero text ≡ true → 1 ≤ n
above_zero zero text words front =
    let no_front : false ≡ true = ap begins_above_zero (sym (decimal_digit 0 (omega arith)) ∙ words) ∙ front in absurd (cc)
above_zero (suc n) text words front = omega arith

count_words : (text : List ℕ) (n : ℕ) → count_of text ≡ Some n → IsCount text n
count_words [] n h = absurd (cc)
count_words (byte ∷ text) n h =
    pick (begins_above_zero (byte ∷ text) && list_all is_digit (byte ∷ text) && nat_le (number_after 0 (byte ∷ text)) 67108864) h
    (λ is x.
    let both = and_true (begins_above_zero (byte ∷ text) && list_all is_digit (byte ∷ text)) (nat_le (number_after 0 (byte ∷ text)) 67108864) is in
    let front = and_true (begins_above_zero (byte ∷ text)) (list_all is_digit (byte ∷ text)) both.0 in
    let few : number_after 0 (byte ∷ text) ≤ 67108864 = grind (arith, nat_tests, both.1) in
    let same : number_after 0 (byte ∷ text) ≡ n = cc in
    let written = decimal-digits_value numerals (byte ∷ text) front.1 (omega arith) (λ zero_first. grind (arith, nat_tests, front.0)) (omega arith) in
    let words : decimal n ≡ byte ∷ text = ap decimal (sym same) ∙ written in
    record { words = words; some = above_zero n (byte ∷ text) words front.0 })
    (λ _ y. absurd (cc))

pub acts_words : (text : List ℕ) (n : ℕ) → acts_in text ≡ Some n → IsActs text n
acts_words text n h = chained _ (count_of text) h (λ m found kept.
    pick (nat_le m 65536) kept
    (λ is x.
    let same : m ≡ n = cc in
    let c = count_words text m found in
    record { words = ap decimal (sym same) ∙ c.words; some = omega (arith, c.some); few = grind (arith, nat_tests, is) })
    (λ _ y. absurd (cc)))

-- the cause of a try's end
pub record IsCause (text : List ℕ) (n : ℕ) : Type 0 where
  pub words : decimal n ≡ text
  pub some : 1 ≤ n
  pub few : n ≤ 7

pub cause_read : (n : ℕ) → 1 ≤ n → n ≤ 7 → cause_in (decimal n) ≡ Some n
cause_read n some few =
    let low : nat_le 1 n ≡ true = grind (arith, nat_tests) in
    rw (digit_read 8 n (omega arith) (omega arith)) (rw low refl)

pub cause_words : (text : List ℕ) (n : ℕ) → cause_in text ≡ Some n → IsCause text n
cause_words text n h = chained _ (digit_in 8 text) h (λ m found kept.
    pick (nat_le 1 m) kept
    (λ is x.
    let d = digit_text 8 text m (omega arith) found in
    let same : m ≡ n = cc in
    record { words = ap decimal (sym same) ∙ d.digit; some = grind (arith, nat_tests, is); few = omega (arith, d.below) })
    (λ _ y. absurd (cc)))
