-- The parts of a coherent memory, and what is seen of them.
use Rattle.std.specs.Prelude.{ℕ, zero, suc, ◌≡◌, ◌≢◌, ◌+◌, ◌/◌, ◌<◌, ◌≤◌, List, length, slice_index_or, Option, Some, None, is_some}
use Rattle.conda_base.specs.declared.Line.{Line}
use Rattle.conda_base.specs.declared.Mesi.TheVariants.{M, S}
use Rattle.cpu_cache.specs.Contents.{Content, Contents, IsCache, content_of, no_contents, tags_of}
use Rattle.mesi_directory.specs.declared.row.Row.{Row}
use Rattle.mesi_directory.specs.declared.row.Row.TheVariants.{Owner}
use Rattle.mesi_directory.specs.Rows.{Rows, AreRows, row_of, has_holder}
use Rattle.line_memory.specs.Memory.{Memory, IsMemory, IsIn, line_of}
use Rattle.line_memory.specs.Tags.{each_below}
use Rattle.line_memory.specs.Backing.{BackingView}

-- memory's own bytes, the directory, and each holder's cache with so many sets of so many ways
pub record Parts : Type 0 where
  pub sets : ℕ
  pub ways : ℕ
  pub memory : Memory
  pub rows : Rows
  pub caches : List Contents

abbrev pub parts_from : ℕ → ℕ → Memory → Rows → List Contents → Parts
parts_from sets ways memory rows caches = record {
  sets = sets;
  ways = ways;
  memory = memory;
  rows = rows;
  caches = caches;
}

-- the cache of a holder; one that isn't there holds nothing
abbrev pub cache_at : Parts → ℕ → Contents
cache_at p h = slice_index_or p.caches h (no_contents 0 0 0)

-- what a holder has of a line
abbrev pub held : Parts → Line → ℕ → Option Content
held p l h = content_of (cache_at p h) l

-- the bytes of a line that users see: those of a holder, and memory's own where nobody holds it
abbrev pub bytes_or : Option Content → List ℕ → List ℕ
bytes_or None rest = rest
bytes_or (Some content) rest = content.bytes

abbrev pub seen_below : ℕ → (ℕ → Option Content) → List ℕ → List ℕ
seen_below zero contents copy = copy
seen_below (suc n) contents copy = bytes_or (contents n) (seen_below n contents copy)

abbrev pub seen : Parts → Line → List ℕ
seen p l = seen_below (length p.caches) (held p l) (line_of p.memory l)

-- the first line of memory, how many there are, and the line at a place
abbrev pub first_line : Parts → ℕ
first_line p = p.memory.base / p.memory.line_bytes

abbrev pub line_count : Parts → ℕ
line_count p = length p.memory.bytes / p.memory.line_bytes

abbrev pub line_at_place : Parts → ℕ → Line
line_at_place p i = record { 0 = first_line p + i }

-- the memory under caches that the parts are
abbrev pub shown : Parts → BackingView
shown p = record {
  line_bytes = p.memory.line_bytes;
  base = p.memory.base;
  holders = length p.caches;
  sets = p.sets;
  ways = p.ways;
  view = each_below (line_count p) (λ i. seen p (line_at_place p i));
  copies = p.memory.bytes;
  tags = λ h set. tags_of (cache_at p h) set;
}

-- The rules of one line: its row is its holders, an owner is one that has it in M or E, and where a
-- holder doesn't have it in M its bytes are memory's.
pub record IsKept (contents : ℕ → Option Content) (row : Row) (copy : List ℕ) : Type 0 where
  pub holders : (h : ℕ) → has_holder row h ≡ is_some (contents h)
  pub owner : (h : ℕ) (content : Content) →
      contents h ≡ Some content → content.state ≢ S → row ≡ Owner h
  pub owned : (h : ℕ) (content : Content) →
      contents h ≡ Some content → row ≡ Owner h → content.state ≢ S
  pub clean : (h : ℕ) (content : Content) →
      contents h ≡ Some content → content.state ≢ M → content.bytes ≡ copy

-- a cache with the numbers of its memory
pub record FitsIn (p : Parts) (c : Contents) : Type 0 where
  pub is : IsCache c
  pub line_bytes : c.line_bytes ≡ p.memory.line_bytes
  pub sets : length c.lines.lists ≡ p.sets
  pub ways : c.lines.ways ≡ p.ways

-- The parts fit together.
pub record AreParts (p : Parts) : Type 0 where
  pub memory : IsMemory p.memory.line_bytes p.memory.base (length p.memory.bytes)
  pub few : length p.caches ≤ 12
  pub some_sets : 0 < p.sets
  pub few_sets : p.sets ≤ 256
  pub some_ways : 0 < p.ways
  pub few_ways : p.ways ≤ 8
  pub fits : (h : ℕ) → h < length p.caches → FitsIn p (cache_at p h)
  pub first : p.rows.first ≡ first_line p
  pub count : length p.rows.rows ≡ line_count p
  pub rows : AreRows p.rows.rows
  pub range : (l : Line) (h : ℕ) (content : Content) → held p l h ≡ Some content → IsIn p.memory l
  pub kept : (l : Line) → IsIn p.memory l → IsKept (held p l) (row_of p.rows l) (line_of p.memory l)
