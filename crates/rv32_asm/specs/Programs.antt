-- What a program is.
use Rattle.std.specs.Prelude.{ℕ, ◌≡◌, ◌+◌, ◌*◌, ◌%◌, ◌^◌, ◌<◌, ◌≤◌, List, length}
use Rattle.rv32_asm.specs.declared.limits.TheConstants.{MOST_WORDS}

-- how many words a program has at most
abbrev pub most_words : ℕ
most_words = MOST_WORDS

-- The first word's address is a multiple of 4. There is a word, there are not too many, and none ends past the last
-- address.
pub record IsProgram (at : ℕ) (words : List ℕ) : Type 0 where
  pub aligned : at % 4 ≡ 0
  pub some : 0 < length words
  pub few : length words ≤ most_words
  pub inside : at + 4 * length words ≤ 2 ^ 32
