-- The words and marks of a text are those that it was put together from.
use Rattle.std.proofs.Common.{◌≡◌, ℕ, ◌<◌, ◌≤◌, ◌==◌, ◌&&◌, ◌||◌, Bool, true, false, List, [], ◌∷◌, ◌++◌, length, refl, ◌∙◌, ap, arith}
use Rattle.std.specs.Prelude.{nat_le, nat_lt, not}
use Rattle.std.specs.List.{list_all, concat}
use Rattle.std.specs.Fmt.{decimal}
use Rattle.std.proofs.lemmas.Bool.Decides.{nat_tests}
use Rattle.rv32_dis.specs.Mnemonics.{name_of}
use Rattle.rv32_dis.specs.declared.mnemonic.Mnemonic.{Mnemonic}
use Rattle.rv32_dis.specs.Texts.{register, pair, triple, addressed, atomic}
use Rattle.rv32_dis.proofs.EveryLemmas.{every_mnemonic}
use Rattle.rv32_asm.specs.Pieces.{pieces, onto_first, is_blank, is_mark, ends_word}
use Rattle.conda_base.specs.Digits.{is_digit}
use Rattle.rv32_asm.proofs.RegisterLemmas.{and_true}
use Rattle.rv32_asm.proofs.NumberLemmas.{decimal_digits}

-- ASCII, and neither a comment's mark nor a line feed
abbrev pub is_plain : ℕ → Bool
is_plain b = nat_lt b 128 && not (b == 35) && not (b == 10)

-- a byte within a word
abbrev pub is_part : ℕ → Bool
is_part b = is_plain b && not (is_blank b) && not (is_mark b) && not (b == 58)

abbrev pub is_word : List ℕ → Bool
is_word w = nat_le 1 (length w) && list_all is_part w

-- the text doesn't go on with a word
abbrev pub Stops : List ℕ → Type 0
Stops [] = Unit {0}
Stops (b ∷ text) = (is_blank b || is_mark b) ≡ true

not_true : (b : Bool) → not b ≡ true → b ≡ false
not_true true h = absurd (cc)
not_true false h = refl

record IsPart (b : ℕ) : Type 0 where
  blank : is_blank b ≡ false
  mark : is_mark b ≡ false
  colon : (b == 58) ≡ false

part_is : (b : ℕ) → is_part b ≡ true → IsPart b
part_is b h =
    let a = and_true (is_plain b && not (is_blank b) && not (is_mark b)) (not (b == 58)) h in
    let d = and_true (is_plain b && not (is_blank b)) (not (is_mark b)) (a.0) in
    let e = and_true (is_plain b) (not (is_blank b)) (d.0) in
    record { blank = not_true _ e.1; mark = not_true _ d.1; colon = not_true _ a.1 }

or_assoc : (a b c : Bool) → (b || c) ≡ true → (a || b || c) ≡ true
or_assoc true b c h = refl
or_assoc false b c h = h

stops_ends : (b : ℕ) (rest : List ℕ) → Stops rest → ends_word b rest ≡ true
stops_ends b [] h = refl
stops_ends b (c ∷ rest) h = or_assoc (b == 58) (is_blank c) (is_mark c) h

goes_on : (b c : ℕ) (text : List ℕ) → is_part b ≡ true → is_part c ≡ true → ends_word b (c ∷ text) ≡ false
goes_on b c text hb hc = rw ((part_is b hb).colon) (rw ((part_is c hc).blank) (rw ((part_is c hc).mark) refl))

word_end : (w rest : List ℕ) → nat_le 1 (length w) ≡ true → list_all is_part w ≡ true → Stops rest → pieces (w ++ rest) ≡ w ∷ pieces rest
word_end [] rest some all stops = absurd (cc)
word_end (b ∷ []) rest some all stops =
    let p = and_true (is_part b) true all in
    rw ((part_is b p.0).blank) (rw ((part_is b p.0).mark) (rw (stops_ends b rest stops) refl))
word_end (b ∷ c ∷ w) rest some all stops =
    let p = and_true (is_part b) (list_all is_part (c ∷ w)) all in
    let q = and_true (is_part c) (list_all is_part w) (p.1) in
    let more : nat_le 1 (length (c ∷ w)) ≡ true = grind (arith, nat_tests) in
    rw ((part_is b p.0).blank) (rw ((part_is b p.0).mark) (rw (goes_on b c (w ++ rest) p.0 q.0)
    (ap (onto_first b) (word_end (c ∷ w) rest more p.1 stops))))

pub word_then : (w rest : List ℕ) → is_word w ≡ true → Stops rest → pieces (w ++ rest) ≡ w ∷ pieces rest
word_then w rest h stops = let both = and_true (nat_le 1 (length w)) (list_all is_part w) h in word_end w rest both.0 both.1 stops

pub digit_part : (b : ℕ) → is_digit b ≡ true → is_part b ≡ true
digit_part b h =
    let both = and_true (nat_le 48 b) (nat_le b 57) h in
    let low : 48 ≤ b = grind (arith, nat_tests, both.0) in
    let high : b ≤ 57 = grind (arith, nat_tests, both.1) in
    let a : nat_lt b 128 ≡ true = grind (arith, nat_tests) in
    let c : (b == 35) ≡ false = grind (arith, nat_tests) in
    let k : (b == 10) ≡ false = grind (arith, nat_tests) in
    let d : (b == 32) ≡ false = grind (arith, nat_tests) in
    let e : (b == 9) ≡ false = grind (arith, nat_tests) in
    let f : (b == 44) ≡ false = grind (arith, nat_tests) in
    let g : (b == 40) ≡ false = grind (arith, nat_tests) in
    let i : (b == 41) ≡ false = grind (arith, nat_tests) in
    let j : (b == 58) ≡ false = grind (arith, nat_tests) in
    rw a (rw c (rw k (rw d (rw e (rw f (rw g (rw i (rw j refl))))))))

pub digits_parts : (ds : List ℕ) → list_all is_digit ds ≡ true → list_all is_part ds ≡ true
digits_parts [] h = refl
digits_parts (b ∷ ds) h =
    let both = and_true (is_digit b) (list_all is_digit ds) h in
    rw (digit_part b both.0) (digits_parts ds both.1)

pub register_word : (r : ℕ) → r < 32 → is_word (register r) ≡ true
register_word r h =
    let some : nat_le 1 (length (register r)) ≡ true = grind (arith, nat_tests) in
    rw some (digits_parts (decimal r) (decimal_digits r (omega arith)))

pub name_word : (m : Mnemonic) → is_word (name_of m) ≡ true
name_word m = every_mnemonic (λ n. is_word (name_of n)) m refl

-- a name and one space
pub after_name : (m : Mnemonic) (text : List ℕ) → pieces (name_of m ++ 32 ∷ text) ≡ name_of m ∷ pieces text
after_name m text = word_then (name_of m) (32 ∷ text) (name_word m) refl

-- a register and a comma
pub after_first : (r : ℕ) (text : List ℕ) → r < 32 → pieces (register r ++ 44 ∷ text) ≡ register r ∷ (44 ∷ []) ∷ pieces text
after_first r text h = word_then (register r) (44 ∷ text) (register_word r h) refl

pub base_pieces : (r : ℕ) → r < 32 → pieces (40 ∷ register r ++ 41 ∷ []) ≡ (40 ∷ []) ∷ register r ∷ (41 ∷ []) ∷ []
base_pieces r h = ap (λ q. (40 ∷ []) ∷ q) (word_then (register r) (41 ∷ []) (register_word r h) refl)

pub pair_pieces : (r : ℕ) (n : List ℕ) → r < 32 → is_word n ≡ true → pieces (concat (pair r n)) ≡ pair r n
pair_pieces r n h word = after_first r (n ++ []) h ∙ ap (λ q. register r ∷ (44 ∷ []) ∷ q) (word_then n [] word tt)

pub triple_pieces : (r s : ℕ) (n : List ℕ) → r < 32 → s < 32 → is_word n ≡ true → pieces (concat (triple r s n)) ≡ triple r s n
triple_pieces r s n hr hs word = after_first r _ hr ∙ ap (λ q. register r ∷ (44 ∷ []) ∷ q) (pair_pieces s n hs word)

pub addressed_pieces : (r : ℕ) (n : List ℕ) (b : ℕ) → r < 32 → is_word n ≡ true → b < 32 → pieces (concat (addressed r n b)) ≡ addressed r n b
addressed_pieces r n b hr word hb = after_first r _ hr ∙ ap (λ q. register r ∷ (44 ∷ []) ∷ q)
    (word_then n (40 ∷ register b ++ 41 ∷ []) word refl ∙ ap (λ q. n ∷ q) (base_pieces b hb))

pub atomic_pieces : (r s b : ℕ) → r < 32 → s < 32 → b < 32 → pieces (concat (atomic r s b)) ≡ atomic r s b
atomic_pieces r s b hr hs hb = after_first r _ hr ∙ ap (λ q. register r ∷ (44 ∷ []) ∷ q)
    (after_first s _ hs ∙ ap (λ q. register s ∷ (44 ∷ []) ∷ q) (base_pieces b hb))
