-- Chips that run small programs: the first 128 bytes of memory are data, and the program stands
-- behind them.
use Rattle.std.specs.Prelude.{ℕ, ◌/◌, ◌%◌, ◌*◌, ◌-◌, List, [], ◌∷◌, ◌++◌, length, replicate}
use Rattle.chip_config.specs.declared.config.Config.{Config}
use Rattle.chip_config.specs.Settings.{settings}
use Rattle.chip_laws.specs.Design.{Design}

-- the bytes of words, the low one first
abbrev pub word_bytes : List ℕ → List ℕ
word_bytes [] = []
word_bytes (word ∷ words) =
    word % 256 ∷ word / 256 % 256 ∷ word / 65536 % 256 ∷ word / 16777216 ∷ word_bytes words

-- a program is entered at its first word
abbrev pub program_design : Config → List ℕ → Design
program_design config words = record {
  config = settings config;
  image = record {
    entry = 128;
    code = record {
      base = 0;
      bytes = replicate 128 0 ++ word_bytes words
          ++ replicate (config.mem_bytes - 128 - 4 * length words) 0;
      ranges = (128, 4 * length words) ∷ [];
    };
  };
}
