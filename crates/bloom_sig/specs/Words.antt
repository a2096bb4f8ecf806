-- A set of numbers below a bound, by a bit for each in words of 64.
use Rattle.std.specs.Prelude.{ℕ, Bool, ◌≡◌, ◌≢◌, ◌+◌, ◌/◌, ◌%◌, ◌<◌, ◌≤◌, ◌==◌, List, length, map, slice_index, bit_and, bit_or}
use Rattle.std.specs.List.{range_with_len}
use Rattle.std.specs.Int.{bit_at}

-- the bit of a number
abbrev pub bit_of_words : List ℕ → ℕ → ℕ
bit_of_words words n = bit_at (slice_index words (n / 64)) (n % 64)

-- the truth values that words are seen as
abbrev pub marks_of : ℕ → List ℕ → List Bool
marks_of bound words = map (λ n. bit_of_words words n == 1) (range_with_len 0 bound)

-- as many words as the bound needs, at least one, and no bit from the bound on
pub record AreWords (bound : ℕ) (words : List ℕ) : Type 0 where
  pub some : 0 < bound
  pub count : length words ≡ (bound + 63) / 64
  pub rest : (n : ℕ) → bound ≤ n → bit_of_words words n ≡ 0

-- the bit of a number is 1 now, and the others stay
pub record IsSet (number : ℕ) (old new : List ℕ) : Type 0 where
  pub len : length new ≡ length old
  pub on : bit_of_words new number ≡ 1
  pub others : (n : ℕ) → n ≢ number → bit_of_words new n ≡ bit_of_words old n

-- the words from one place up to another have the bits of others too, and the rest of them stay
pub record AreJoined (from until : ℕ) (old others new : List ℕ) : Type 0 where
  pub len : length new ≡ length old
  pub joined : (k : ℕ) → from ≤ k → k < until → slice_index new k ≡ bit_or (slice_index old k) (slice_index others k)
  pub before : (k : ℕ) → k < from → slice_index new k ≡ slice_index old k
  pub behind : (k : ℕ) → until ≤ k → slice_index new k ≡ slice_index old k

-- no word in this range has a bit in common with the other word of its place
abbrev pub AreDisjoint : ℕ → ℕ → List ℕ → List ℕ → Type 0
AreDisjoint from until words others =
    (k : ℕ) → from ≤ k → k < until → bit_and (slice_index words k) (slice_index others k) ≡ 0

-- some number's bit is 1 in both
abbrev pub ShareBit : List ℕ → List ℕ → Type 0
ShareBit words others = (n : ℕ) × (bit_of_words words n ≡ 1) × (bit_of_words others n ≡ 1)
