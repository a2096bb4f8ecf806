-- Words that hold an option's name and value.
use Rattle.std.proofs.Common.{◌≡◌, ℕ, ◌<◌, List, [], ◌∷◌, length, true, false, refl, arith}
use Rattle.std.specs.Prelude.{Bool, Option, Some, None, MatchOption}
use Rattle.std.specs.List.{position_or_len, before_first, after_first}
use denote.Ref.{Bor}
use Rattle.command_words.specs.Options.{cut, is_equals, is_whole, given_pair}

-- a word with no equals sign is a name alone
pub is_whole-absent : (word : List ℕ) → position_or_len is_equals word ≡ length word → is_whole word ≡ false
is_whole-absent [] h = refl
is_whole-absent (b ∷ bs) h =
    let go : (t : Bool) → is_equals b ≡ t → is_whole (b ∷ bs) ≡ false = λ t e. elim t as (λ v. is_equals b ≡ v → is_whole (b ∷ bs) ≡ false) [
      | true ↦ λ e. let h' = rw e at h in absurd (omega arith)
      | false ↦ λ e. let h' = rw e at h in rw e (is_whole-absent bs (omega arith))
    ] e in
    go (is_equals b) refl

-- a word with one holds a value too
pub is_whole-present : (word : List ℕ) → position_or_len is_equals word < length word → is_whole word ≡ true
is_whole-present [] h = absurd (omega arith)
is_whole-present (b ∷ bs) h =
    let go : (t : Bool) → is_equals b ≡ t → is_whole (b ∷ bs) ≡ true = λ t e. elim t as (λ v. is_equals b ≡ v → is_whole (b ∷ bs) ≡ true) [
      | true ↦ λ e. rw e
      | false ↦ λ e. let h' = rw e at h in rw e (is_whole-present bs (omega arith))
    ] e in
    go (is_equals b) refl

-- the parts of a word that is cut at its first equals sign
pub parts_of_split : (word : List ℕ) (r : Option (Bor (List ℕ) × Bor (List ℕ)))
    → MatchOption r (position_or_len is_equals word ≡ length word)
    (λ x. (position_or_len is_equals word < length word) × (x.0.now ≡ before_first is_equals word) × (x.1.now ≡ after_first is_equals word))
    → MatchOption r (is_whole word ≡ false)
    (λ x. (is_whole word ≡ true) × (cut word ≡ given_pair x.0.now x.1.now))
parts_of_split word None h = is_whole-absent word h
parts_of_split word (Some x) h = (is_whole-present word h.0, (let front = h.1 in let back = h.2 in cc))
