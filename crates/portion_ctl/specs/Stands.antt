-- What an open portion stands for, and what every portion keeps.
use Rattle.std.specs.Prelude.{ℕ, ◌≡◌, ◌+◌, ◌*◌, ◌<◌, ◌≤◌, ◌||◌, Bool, true, List, length, slice_index, is_some}
use Rattle.conda_base.specs.declared.Line.{Line}
use Rattle.conda_base.specs.LineLists.{names}
use Rattle.conda_base.specs.Marks.{is_marked}
use Rattle.rv32_hart.specs.Code.{CodeView}
use Rattle.offload_calls.specs.Stores.{latest}
use Rattle.write_masks.specs.declared.Masked.{Masked}
use Rattle.set_assoc.specs.Entries.{lookup}
use Rattle.nda_cache.specs.Tried.{Tried, known_of, set_count}
use Rattle.bloom_sig.specs.Images.{IsSignatureOf}
use Rattle.try_runs.specs.Ends.{cached, in_set}
use Rattle.try_runs.specs.Fills.{Fills, Portion, portion_run}
use Rattle.try_runs.specs.Limits.{IsLimits}
use Rattle.try_runs.specs.Tries.{Try, writes, is_stored, stored_lines}
use Rattle.portion_ctl.specs.Views.{OpenView, FlushingView}

-- ---- the lines of a try

-- the address of a place in a line
abbrev pub address_in : ℕ → Line → ℕ → ℕ
address_in line_bytes l place = l.0 * line_bytes + place

-- A line of the cache: it is filled where it was read, the bytes that were stored are marked, and
-- a byte that was filled or stored is the last one stored, or else that of the fill.
pub record HoldsLine
    (line_bytes : ℕ) (stores : List (ℕ × ℕ)) (is_read : Bool) (fill : List ℕ)
    (l : Line) (masked : Masked) : Type 0 where
  pub filled : masked.filled ≡ is_read
  pub marks : (k : ℕ) → k < line_bytes
      → is_marked masked.mask k ≡ is_stored stores (address_in line_bytes l k)
  pub bytes : (k : ℕ) → k < line_bytes
      → (is_read || is_stored stores (address_in line_bytes l k)) ≡ true
      → slice_index masked.bytes k ≡ latest stores (address_in line_bytes l k) (slice_index fill k)

-- the lines that were read or stored to, by the stores and the lines read
abbrev pub lines_near : ℕ → List (ℕ × ℕ) → List Line → List Line
lines_near line_bytes stores reads = cached reads (stored_lines line_bytes stores)

-- the cache has these lines, each with its bytes, and those stored to in order
pub record HoldsLines
    (cache : Tried) (stores : List (ℕ × ℕ)) (reads : List Line) (fills : Fills) : Type 0 where
  pub lines : (l : Line)
      → HoldsLine cache.line_bytes stores (names reads l) (fills l) l (known_of cache l)
  pub there : (l : Line)
      → is_some (lookup l cache.lines) ≡ names (lines_near cache.line_bytes stores reads) l
  pub counts : (l : Line)
      → set_count cache l ≡ length (in_set cache.sets l (lines_near cache.line_bytes stores reads))
  pub order : cache.stored ≡ stored_lines cache.line_bytes stores

-- ---- sizes

-- every part of an open portion has the size that its limits give
pub record HasSizes (o : OpenView) : Type 0 where
  pub lines : o.cache.line_bytes ≡ o.limits.line_bytes
  pub sets : o.cache.sets ≡ o.limits.core_sets
  pub ways : o.cache.ways ≡ o.limits.core_ways
  pub reads : o.read_set.bits ≡ o.limits.sig_bits
  pub writes : o.write_set.bits ≡ o.limits.sig_bits
  pub foreign : o.foreign_set.bits ≡ o.limits.sig_bits

-- what every open portion keeps
pub record IsOpen (o : OpenView) : Type 0 where
  pub limits : IsLimits o.limits
  pub sizes : HasSizes o
  pub acts : o.acts ≤ o.limits.portion_max
  pub held : length o.held ≤ o.limits.out_max

-- what every portion keeps to which flushes are due
pub record IsFlushing (f : FlushingView) : Type 0 where
  pub limits : IsLimits f.limits
  pub bits : f.read_set.bits ≡ f.limits.sig_bits

-- ---- what an open portion stands for

-- an open portion has what a try came to over these fills
pub record Holds (o : OpenView) (t : Try) (fills : Fills) : Type 0 where
  pub regs : o.regs ≡ t.core.regs
  pub status : o.status ≡ t.core.status
  pub held : o.held ≡ t.held
  pub lines : HoldsLines o.cache t.stored t.reads fills
  pub reads : IsSignatureOf o.read_set t.reads
  pub writes : IsSignatureOf o.write_set (writes o.limits.line_bytes t)
  pub sizes : HasSizes o

-- An open portion stands for its opening registers, its fills and its number of acts: what it has
-- is what the try came to that makes these acts from these registers over these fills.
pub record StandsFor (code : CodeView) (o : OpenView) (p : Portion) : Type 0 where
  pub opening : o.opening ≡ p.regs
  pub acts : o.acts ≡ p.acts
  pub holds : Holds o (portion_run code o.limits.line_bytes p) p.fills

-- one stands for all that the other does
abbrev pub StandsAlike : OpenView → OpenView → Type 0
StandsAlike old new = (code : CodeView) (p : Portion) → StandsFor code old p → StandsFor code new p
