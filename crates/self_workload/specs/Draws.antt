-- The draws of a seed: the successive words of the generator that it makes.
use Rattle.std.specs.Prelude.{ℕ, List}
use Rattle.rand_core.specs.Pcg32Seed.{pcg32_seed}
use Rattle.rand_core.specs.Steps.{first_words}
use Rattle.rand_pcg.specs.Lcg.{Lcg, advance}
use Rattle.rand_pcg.specs.Pcg.{multiplier_64, pcg32, pcg32_of_seed}

-- the generator of a seed, and that after so many of its words
unfoldable pub generator_of : ℕ → Lcg
generator_of seed = pcg32_of_seed (pcg32_seed 16 seed)

abbrev pub after_words : ℕ → Lcg → Lcg
after_words count from = advance 64 multiplier_64 count from

abbrev pub generator_after : ℕ → ℕ → Lcg
generator_after seed count = after_words count (generator_of seed)

-- so many draws of a seed, after the first so many
abbrev pub draws_after : ℕ → ℕ → ℕ → List ℕ
draws_after seed before count = first_words pcg32 count (generator_after seed before)
