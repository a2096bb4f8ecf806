-- Plain images: ELF files of one segment that is loaded, readable, writable and executable.
use Rattle.std.specs.Prelude.{ℕ, ◌≡◌, ◌+◌, ◌-◌, ◌*◌, ◌%◌, ◌<◌, ◌≤◌, List, [], ◌∷◌, ◌++◌, length, replicate}
use Rattle.std.specs.List.{flat_map}
use Rattle.std.specs.Int.{to_le_bytes, w16, w32}

-- a field of 16 or of 32 bits
abbrev pub half : ℕ → List ℕ
half n = to_le_bytes w16 n

abbrev pub word : ℕ → List ℕ
word n = to_le_bytes w32 n

-- the words of a program, in order
abbrev pub words_bytes : List ℕ → List ℕ
words_bytes words = flat_map word words

-- the ELF header of an executable for RISC-V with one program header behind it (System V gABI)
abbrev pub elf_header : ℕ → List ℕ
elf_header entry =
    127 ∷ 69 ∷ 76 ∷ 70 ∷ 1 ∷ 1 ∷ 1 ∷ 0 ∷ 0 ∷ 0 ∷ 0 ∷ 0 ∷ 0 ∷ 0 ∷ 0 ∷ 0 ∷ []
    ++ half 2 ++ half 243 ++ word 1 ++ word entry ++ word 52 ++ word 0 ++ word 0
    ++ half 52 ++ half 32 ++ half 1 ++ half 0 ++ half 0 ++ half 0

-- the program header of a segment of this size, of which the file holds every byte
abbrev pub program_header : ℕ → ℕ → List ℕ
program_header at size = word 1 ++ word 84 ++ word at ++ word at ++ word size ++ word size ++ word 7 ++ word 4

-- the plain image of these words at an address, which is its entry too
abbrev pub plain : ℕ → List ℕ → List ℕ
plain at words = elf_header at ++ program_header at (4 * length words) ++ words_bytes words

-- memory of `size` bytes from `base` on with these bytes at an address, and zeros elsewhere (unfoldable, since at a
-- known size it has as many numbers)
unfoldable pub memory_with : ℕ → ℕ → ℕ → List ℕ → List ℕ
memory_with base size at body =
    replicate (at - base) 0 ++ body ++ replicate (base + size - (at + length body)) 0

-- so many words at an address lie whole and aligned in the `size` bytes from `base` on, and there is one
pub record IsPlainIn (at words base size : ℕ) : Type 0 where
  pub some : 0 < words
  pub aligned : at % 4 ≡ 0
  pub from : base ≤ at
  pub to : at + 4 * words ≤ base + size
