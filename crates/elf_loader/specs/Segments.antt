-- The program headers of an ELF file (System V gABI, "Program Header"), and what is asked of them.
use Rattle.std.specs.Prelude.{ℕ, ◌≡◌, ◌+◌, ◌*◌, ◌%◌, ◌<◌, Bool, false, not, ◌==◌, ◌||◌, ◌&&◌, nat_lt, nat_le, min, max, List, length, take, map, All}
use Rattle.std.specs.List.{range_with_len, list_any, slice_index_or, enumerate_from}
use Rattle.elf_loader.specs.Header.{word_field, header_of, has_flag}
use Rattle.elf_loader.specs.declared.segment.Segment.{Segment}

-- the program header at a place of a file, by the fields' offsets
abbrev pub segment_at : List ℕ → ℕ → Segment
segment_at file place = record {
  p_type = word_field file place;
  p_offset = word_field file (place + 4);
  p_vaddr = word_field file (place + 8);
  p_filesz = word_field file (place + 16);
  p_memsz = word_field file (place + 20);
  p_flags = word_field file (place + 24);
}

-- the program headers of a file, which has e_phnum of them from e_phoff on
abbrev pub segments_of : List ℕ → List Segment
segments_of file =
    map (λ k. segment_at file ((header_of file).e_phoff + 32 * k)) (range_with_len 0 (header_of file).e_phnum)

-- the address behind a segment's last one
abbrev pub memory_end : Segment → ℕ
memory_end s = s.p_vaddr + s.p_memsz

-- a segment that is loaded: PT_LOAD, and not empty in memory and file
abbrev pub is_live : Segment → Bool
is_live s = s.p_type == 1 && not (s.p_memsz == 0 && s.p_filesz == 0)

-- the segment asks for a dynamic linker: PT_DYNAMIC or PT_INTERP
abbrev pub is_dynamic : Segment → Bool
is_dynamic s = s.p_type == 2 || s.p_type == 3

-- a live segment has more bytes in the file than in memory, or some that a file of this many bytes doesn't have
abbrev pub is_bad : ℕ → Segment → Bool
is_bad file_bytes s =
    is_live s && (nat_lt s.p_memsz s.p_filesz || (not (s.p_filesz == 0) && nat_lt file_bytes (s.p_offset + s.p_filesz)))

-- a live segment doesn't lie in the `size` bytes from `base` on
abbrev pub is_outside : ℕ → ℕ → Segment → Bool
is_outside base size s = is_live s && (nat_lt s.p_vaddr base || nat_lt (base + size) (memory_end s))

-- some address lies in both segments
abbrev pub shares_address : Segment → Segment → Bool
shares_address s t = nat_lt (max s.p_vaddr t.p_vaddr) (min (memory_end s) (memory_end t))

-- a live segment shares an address with a live one of these
abbrev pub overlaps : List Segment → Segment → Bool
overlaps others s = is_live s && list_any (λ t. is_live t && shares_address s t) others

-- a live segment that instructions may be fetched from: PF_X
abbrev pub is_fetchable : Segment → Bool
is_fetchable s = is_live s && has_flag 1 s.p_flags

-- the four bytes from an address on lie in a segment that instructions may be fetched from
abbrev pub holds_word : ℕ → Segment → Bool
holds_word addr s = is_fetchable s && (nat_le s.p_vaddr addr && nat_le (addr + 4) (memory_end s))

-- the segments with their numbers, and whether one of them overlaps one of a lower number
abbrev pub numbered : List Segment → List (ℕ × Segment)
numbered segments = enumerate_from 0 segments

abbrev pub overlaps_earlier : List Segment → ℕ × Segment → Bool
overlaps_earlier segments e = overlaps (take e.0 segments) e.1

-- no segment is live
abbrev pub has_no_live : List Segment → Bool
has_no_live segments = not (list_any is_live segments)

-- the entry isn't a multiple of 4, or the four bytes there don't lie in one segment that may be fetched from
abbrev pub is_bad_entry : ℕ → List Segment → Bool
is_bad_entry entry segments = not (entry % 4 == 0 && list_any (holds_word entry) segments)

-- the live segments of these can be loaded from a file of this many bytes into the `size` bytes from `base` on
pub record IsLoadable (file_bytes base size : ℕ) (segments : List Segment) : Type 0 where
  pub good : All (λ s. is_bad file_bytes s ≡ false) segments
  pub inside : All (λ s. is_outside base size s ≡ false) segments
  pub apart : (k : ℕ) (d : Segment) → k < length segments
      → overlaps (take k segments) (slice_index_or segments k d) ≡ false
