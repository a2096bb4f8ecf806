-- The header of an ELF file (System V gABI, "ELF Header"), and what is asked of it.
use Rattle.std.specs.Prelude.{ℕ, ◌+◌, ◌*◌, Bool, not, ◌==◌, ◌||◌, ◌&&◌, nat_lt, bit_and, List, [], ◌∷◌, take, slice_index}
use Rattle.std.specs.Str.{bytes_eq}
use Rattle.conda_base.specs.Bytes.{value_at}
use Rattle.elf_loader.specs.declared.header.Header.{Header}

-- a little-endian field of 16 or of 32 bits at an offset
abbrev pub half_field : List ℕ → ℕ → ℕ
half_field file offset = value_at file offset 2

abbrev pub word_field : List ℕ → ℕ → ℕ
word_field file offset = value_at file offset 4

-- the header of a file, by the fields' offsets
abbrev pub header_of : List ℕ → Header
header_of file = record {
  ei_magic = take 4 file;
  ei_class = slice_index file 4;
  ei_data = slice_index file 5;
  ei_version = slice_index file 6;
  e_type = half_field file 16;
  e_machine = half_field file 18;
  e_version = word_field file 20;
  e_entry = word_field file 24;
  e_phoff = word_field file 28;
  e_flags = word_field file 36;
  e_ehsize = half_field file 40;
  e_phentsize = half_field file 42;
  e_phnum = half_field file 44;
}

-- some bit of the mask is set in a word of flags
abbrev pub has_flag : ℕ → ℕ → Bool
has_flag mask flags = not (bit_and flags mask == 0)

-- the first four bytes aren't 7f 45 4c 46
abbrev pub is_not_elf : Header → Bool
is_not_elf h = not (bytes_eq h.ei_magic (127 ∷ 69 ∷ 76 ∷ 70 ∷ []))

-- the class isn't ELFCLASS32
abbrev pub is_not_class32 : Header → Bool
is_not_class32 h = not (h.ei_class == 1)

-- the encoding isn't ELFDATA2LSB
abbrev pub is_not_little : Header → Bool
is_not_little h = not (h.ei_data == 1)

-- one of the two versions isn't EV_CURRENT
abbrev pub has_bad_version : Header → Bool
has_bad_version h = not (h.ei_version == 1) || not (h.e_version == 1)

-- the type isn't ET_EXEC
abbrev pub is_not_exec : Header → Bool
is_not_exec h = not (h.e_type == 2)

-- the machine isn't EM_RISCV
abbrev pub is_not_riscv : Header → Bool
is_not_riscv h = not (h.e_machine == 243)

-- RVC (1), a float ABI (2, 4) or RVE (8) is asked for
abbrev pub has_bad_flags : Header → Bool
has_bad_flags h = has_flag 15 h.e_flags

-- the ELF header hasn't 52 bytes, or the program headers, if there are any, haven't 32
abbrev pub has_bad_size : Header → Bool
has_bad_size h = not (h.e_ehsize == 52) || (not (h.e_phnum == 0) && not (h.e_phentsize == 32))

-- there are more than 64 program headers
abbrev pub has_too_many : Header → Bool
has_too_many h = nat_lt 64 h.e_phnum

-- the program headers, if there are any, don't lie in a file of this many bytes
abbrev pub is_table_outside : ℕ → Header → Bool
is_table_outside file_bytes h = not (h.e_phnum == 0) && nat_lt file_bytes (h.e_phoff + 32 * h.e_phnum)
