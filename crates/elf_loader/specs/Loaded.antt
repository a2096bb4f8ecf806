-- What is loaded of a file: the bytes of memory, and the addresses that instructions may be fetched from.
use Rattle.std.specs.Prelude.{ℕ, ◌≡◌, ◌<◌, ◌≤◌, not, IsTrue, ◌+◌, ◌-◌, Bool, ◌&&◌, nat_le, nat_lt, List, [], ◌∷◌, map, slice_index, if◌then◌else◌}
use Rattle.std.specs.List.{range_with_len, filter, list_any}
use Rattle.rv32_hart.specs.Code.{CodeView}
use Rattle.elf_loader.specs.Segments.{segments_of, memory_end, is_live, is_fetchable}
use Rattle.elf_loader.specs.declared.segment.Segment.{Segment}

-- the address lies in a live segment
abbrev pub holds : ℕ → Segment → Bool
holds addr s = is_live s && (nat_le s.p_vaddr addr && nat_lt addr (memory_end s))

-- the byte of a segment at an address in it: of the file, or 0 past the bytes that the file has
abbrev pub segment_byte : List ℕ → Segment → ℕ → ℕ
segment_byte file s addr =
    if nat_lt (addr - s.p_vaddr) s.p_filesz then slice_index file (s.p_offset + (addr - s.p_vaddr)) else 0

-- the byte of memory at an address: that of the live segment that holds it, and else 0
abbrev pub loaded_byte : List ℕ → List Segment → ℕ → ℕ
loaded_byte file [] addr = 0
loaded_byte file (s ∷ segments) addr = if holds addr s then segment_byte file s addr else loaded_byte file segments addr

-- the `size` bytes of memory from `base` on (unfoldable, since at a known size it has as many numbers)
unfoldable pub loaded_bytes : List ℕ → ℕ → ℕ → List ℕ
loaded_bytes file base size = map (loaded_byte file (segments_of file)) (range_with_len base size)

-- a segment's range of addresses, as first address and length
abbrev pub range_of : Segment → ℕ × ℕ
range_of s = (s.p_vaddr, s.p_memsz)

-- the ranges that instructions may be fetched from, in the segments' order
abbrev pub fetch_ranges : List Segment → List (ℕ × ℕ)
fetch_ranges segments = map range_of (filter is_fetchable segments)

-- memory and ranges of a loaded file
abbrev pub code_of : List ℕ → ℕ → ℕ → CodeView
code_of file base size =
    record { base = base; bytes = loaded_bytes file base size; ranges = fetch_ranges (segments_of file) }

-- the file has the byte at an address of a live segment
abbrev pub is_copied : ℕ → Segment → Bool
is_copied addr s = is_live s && (nat_le s.p_vaddr addr && nat_lt addr (s.p_vaddr + s.p_filesz))

-- memory from `base` on has a segment's bytes at its addresses
abbrev pub IsInMemory : List ℕ → ℕ → List ℕ → Segment → Type 0
IsInMemory file base memory s =
    (addr : ℕ) → IsTrue (holds addr s) → slice_index memory (addr - base) ≡ segment_byte file s addr

-- `size` bytes of memory from `base` on are 0 at each address in none of these segments
abbrev pub IsZeroElsewhere : ℕ → ℕ → List ℕ → List Segment → Type 0
IsZeroElsewhere base size memory segments =
    (addr : ℕ) → base ≤ addr → addr < base + size → IsTrue (not (list_any (holds addr) segments))
    → slice_index memory (addr - base) ≡ 0
