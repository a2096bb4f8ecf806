-- What a load finds in a near-data cache, and what it does there.
use Rattle.std.specs.Prelude.{ℕ, ◌≡◌, Bool, List, [], Option, Some, None, if◌then◌else◌}
use Rattle.conda_base.specs.Lines.{line_offset}
use Rattle.conda_base.specs.LineLists.{line_at}
use Rattle.conda_base.specs.Bytes.{value_at, handed_out}
use Rattle.conda_base.specs.declared.line.Line.{Line}
use Rattle.write_masks.specs.Marks.{Covers}
use Rattle.write_masks.specs.declared.masked.Masked.{Masked}
use Rattle.nda_cache.specs.Looks.{NeedsFill, Looks}
use Rattle.nda_cache.specs.Tried.{Tried, IsFound, known_of, put_line, filled_from}
use Rattle.nda_cache.specs.declared.cache.Look.{Look}
use Rattle.nda_cache.specs.declared.cache.Look.TheVariants.{Known, Missing, Full}
use Rattle.bloom_sig.specs.Signatures.{Sets, inserted}
use Rattle.line_memory.specs.Backing.{BackingView, copy_of}
use Rattle.traffic_trace.specs.declared.note.Note.{Note}
use Rattle.try_runs.specs.Fills.{corefill_notes}
use Rattle.portion_ctl.specs.declared.accesses.Sought.{Sought}

-- what is known of the line of an address
abbrev pub line_known : Tried → ℕ → Masked
line_known cache addr = known_of cache (line_at cache.line_bytes addr)

-- all bytes of the load were stored
abbrev pub IsCovered : Tried → ℕ → ℕ → Type 0
IsCovered cache addr size =
    Covers (line_known cache addr).mask (line_offset addr cache.line_bytes) size

-- the value that the bytes of a load have in the cache
abbrev pub HasValue : Tried → ℕ → ℕ → ℕ → Type 0
HasValue cache addr size value =
    value ≡ value_at (line_known cache addr).bytes (line_offset addr cache.line_bytes) size

-- not all bytes were stored, and the line wasn't filled but may be
abbrev pub IsMissing : Tried → ℕ → ℕ → Type 0
IsMissing cache addr size =
    NeedsFill cache (line_at cache.line_bytes addr) (line_offset addr cache.line_bytes) size

-- the line of these bytes, and what a search for it has found
pub record IsSought (cache : Tried) (sought : Sought) : Type 0 where
  pub line : sought.l ≡ line_at cache.line_bytes sought.addr
  pub found : IsFound cache sought.l sought.found

-- what a look at a load's bytes tells
abbrev pub LooksUp : Tried → ℕ → ℕ → Look → Type 0
LooksUp cache addr size look =
    Looks cache (line_at cache.line_bytes addr) (line_offset addr cache.line_bytes) size look

-- the cache with memory's copy of a line
abbrev pub with_fill : BackingView → Tried → Line → Tried
with_fill memory cache l =
    let line = filled_from cache.line_bytes (known_of cache l) (handed_out (copy_of memory l)) in
    record cache { lines = put_line l line cache.lines }

-- the cause that stands against a load with this look, where the read signature is full for its
-- line or not
abbrev pub end_of_load : Look → Bool → Option ℕ
end_of_load (Known value) is_full = None
end_of_load Missing is_full = if is_full then Some 5 else None
end_of_load Full is_full = Some 4

-- What a load does to the cache and the read signature: nothing where the value is known, else a
-- fill.
abbrev pub TakesValue
    : BackingView → Tried → Sets → Line → ℕ → ℕ → Look → Tried → Sets → ℕ → Type 0
TakesValue memory cache reads l addr size (Known known) new_cache new_reads value =
    (new_cache ≡ cache) × (new_reads ≡ reads) × (value ≡ known)
TakesValue memory cache reads l addr size Missing new_cache new_reads value =
    (new_cache ≡ with_fill memory cache l)
    × (new_reads ≡ inserted reads l)
    × HasValue new_cache addr size value
TakesValue memory cache reads l addr size Full new_cache new_reads value = ⊥

-- the notes of a load
abbrev pub take_notes : ℕ → Line → Look → List Note
take_notes core l (Known value) = []
take_notes core l Missing = corefill_notes core (Some l)
take_notes core l Full = []

-- the line is there or may be put there
abbrev pub IsRoom : Look → Type 0
IsRoom (Known value) = Unit {0}
IsRoom Missing = Unit {0}
IsRoom Full = ⊥
