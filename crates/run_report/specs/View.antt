-- What a report shows.
use Rattle.std.specs.Prelude.{ℕ, ◌≡◌, ◌+◌, ◌*◌, ◌^◌, ◌<◌, ◌≤◌, List, length, All}
use Rattle.conda_base.specs.Lines.{IsLineSize, IsWhole}
use Rattle.conda_base.specs.Bytes.{bytes_of_line}
use Rattle.conda_base.specs.declared.Line.{Line}
use Rattle.conda_base.specs.declared.Mesi.{Mesi}
use Rattle.traffic_trace.specs.Notes.{Trace}
use Rattle.offload_calls.specs.declared.status.Hart.{Hart}
use Rattle.offload_calls.specs.declared.status.Core.{Core}

-- Harts and cores by their numbers; the bytes of memory from the base address on, now and as they were loaded; the
-- lines of each set of each hart's cache, the most recent first, with their states; and the traffic.
pub record View : Type 0 where
  pub harts : ℕ
  pub cores : ℕ
  pub hart : ℕ → Hart
  pub core : ℕ → Core
  pub base : ℕ
  pub line_bytes : ℕ
  pub memory : List ℕ
  pub loaded : List ℕ
  pub sets : ℕ
  pub tags : ℕ → ℕ → List (Line × Mesi)
  pub trace : Trace

-- the line's first address is below 2^32
abbrev pub IsAddressed : ℕ → Line → Type 0
IsAddressed line_bytes l = l.0 * line_bytes < 2 ^ 32

-- Memory is whole lines that end at or below address 2^32, and as many bytes were loaded. A set has at most eight
-- lines, and each line that is held or noted has an address.
pub record IsShown (v : View) : Type 0 where
  pub size : IsLineSize v.line_bytes
  pub whole_base : IsWhole v.base v.line_bytes
  pub whole_bytes : IsWhole (length v.memory) v.line_bytes
  pub bound : v.base + length v.memory ≤ 2 ^ 32
  pub same : length v.loaded ≡ length v.memory
  pub short : (i set : ℕ) → length (v.tags i set) ≤ 8
  pub held : (i set : ℕ) → All (λ tag. IsAddressed v.line_bytes tag.0) (v.tags i set)
  pub noted : All (λ note. IsAddressed v.line_bytes note.line) v.trace.notes

-- the bytes of line l, in one of the two lists
abbrev pub line_bytes_at : View → List ℕ → ℕ → List ℕ
line_bytes_at v bytes l = bytes_of_line v.base v.line_bytes bytes l
