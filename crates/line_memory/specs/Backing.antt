-- A memory under caches: the bytes that its users see, memory's own copies of them, and what the caches hold.
use Rattle.std.specs.Prelude.{ℕ, ◌≡◌, ◌≢◌, ◌+◌, ◌*◌, ◌%◌, ◌<◌, ◌≤◌, ◌⊎◌, ◌&&◌, nat_le, List, [], ◌∷◌, take, length, All, AllPairs, Contains, if◌then◌else◌, Option, MatchOption}
use Rattle.conda_base.specs.Lines.{IsLineOf}
use Rattle.conda_base.specs.Bytes.{bytes_of_line}
use Rattle.conda_base.specs.Marks.{mixed}
use Rattle.conda_base.specs.declared.Line.{Line}
use Rattle.traffic_trace.specs.Notes.{Trace}
use Rattle.line_memory.specs.Memory.{Memory, IsMemory, with_line}
use Rattle.line_memory.specs.Tags.{Tag, Tags, Shape, no_tags, is_modified, each_below, dirty_lines}
use Rattle.line_memory.specs.Access.{after_flush, after_merge}
use Rattle.line_memory.specs.Notes.{all_noted, flush_notes, merge_notes}

-- The view is the bytes that users see, and the copies are memory's own, both from the base address on.
-- So many holders have a cache with so many sets of so many ways.
pub record BackingView : Type 0 where
  pub line_bytes : ℕ
  pub base : ℕ
  pub holders : ℕ
  pub sets : ℕ
  pub ways : ℕ
  pub view : List ℕ
  pub copies : List ℕ
  pub tags : Tags

-- the line is one of its memory's
abbrev pub IsInRange : BackingView → Line → Type 0
IsInRange b l = IsLineOf b.base (length b.view) b.line_bytes l.0

-- the bytes of a line that users see, and memory's own copy of it
abbrev pub view_of : BackingView → Line → List ℕ
view_of b l = bytes_of_line b.base b.line_bytes b.view l.0

abbrev pub copy_of : BackingView → Line → List ℕ
copy_of b l = bytes_of_line b.base b.line_bytes b.copies l.0

abbrev pub shape_of : BackingView → Shape
shape_of b = record { holders = b.holders; sets = b.sets; ways = b.ways }

-- the numbers of a memory, which no call changes
pub record HasSameNumbers (old new : BackingView) : Type 0 where
  pub line_bytes : new.line_bytes ≡ old.line_bytes
  pub base : new.base ≡ old.base
  pub holders : new.holders ≡ old.holders
  pub sets : new.sets ≡ old.sets
  pub ways : new.ways ≡ old.ways
  pub size : length new.view ≡ length old.view

-- the lines that some holder has in M, in walk order
abbrev pub dirty_in : BackingView → List Line
dirty_in b = dirty_lines (shape_of b) b.tags

abbrev pub IsDirty : BackingView → Line → Type 0
IsDirty b l = Contains (dirty_in b) l

-- the place of a way of a holder's set
abbrev pub way_place : BackingView → ℕ → ℕ → ℕ → ℕ
way_place b holder set way = (holder * b.sets + set) * b.ways + way

-- the lines in M of a list at or after the place `from`, where the list's first line has the given place
abbrev pub modified_from : ℕ → ℕ → List Tag → List Line
modified_from from place [] = []
modified_from from place (tag ∷ tags) =
    if nat_le from place && is_modified tag.1
    then tag.0 ∷ modified_from from (place + 1) tags
    else modified_from from (place + 1) tags

-- the dirty lines at or after a place, in walk order
abbrev pub dirty_from : BackingView → ℕ → List Line
dirty_from b from =
    each_below b.holders (λ holder. each_below b.sets (λ set.
    modified_from from (way_place b holder set 0) (b.tags holder set)))

-- the first dirty line at or after `from` is this one, and it stands at this place
pub record IsFirstDirty (b : BackingView) (from place : ℕ) (l : Line) : Type 0 where
  pub after : from ≤ place
  pub below : place < b.holders * b.sets * b.ways
  pub skipped : dirty_from b from ≡ dirty_from b place
  pub first : dirty_from b place ≡ l ∷ dirty_from b (place + 1)
  pub is_dirty : IsDirty b l
  pub in_range : IsInRange b l

-- what the walk finds from a place on: its first dirty line, or nothing where there is none
abbrev pub FindsDirty : BackingView → ℕ → Option (ℕ × Line) → Type 0
FindsDirty b from found =
    MatchOption found (dirty_from b from ≡ []) (λ place. IsFirstDirty b from place.0 place.1)

-- The rules of every backing. Its places are few, no list names a line twice, a line stands in the set of its
-- number, no line is dirty at two places, and a line that isn't dirty is in memory as users see it.
pub record IsBacking (b : BackingView) : Type 0 where
  pub memory : IsMemory b.line_bytes b.base (length b.view)
  pub same : length b.copies ≡ length b.view
  pub some_sets : 0 < b.sets
  pub some_ways : 0 < b.ways
  pub few : b.holders * b.sets * b.ways ≤ 65536
  pub short : (holder set : ℕ) → length (b.tags holder set) ≤ b.ways
  pub outside : (holder set : ℕ) → (b.holders ≤ holder) ⊎ (b.sets ≤ set) → b.tags holder set ≡ []
  pub once : (holder set : ℕ) → AllPairs (λ tag other. tag.0.0 ≢ other.0.0) (b.tags holder set)
  pub placed : (holder set : ℕ) → All (λ tag. tag.0.0 % b.sets ≡ set) (b.tags holder set)
  pub in_range : (holder set : ℕ) → All (λ tag. IsInRange b tag.0) (b.tags holder set)
  pub single : AllPairs (λ l k. l.0 ≢ k.0) (dirty_in b)
  pub clean : (l : Line) → IsInRange b l → (IsDirty b l → ⊥) → copy_of b l ≡ view_of b l

-- After a flush of a dirty line: memory's copy of it is what users see, and its M became E.
abbrev pub flushed : BackingView → Line → BackingView
flushed b l = record b {
  copies = with_line b.base b.line_bytes b.copies l.0 (view_of b l);
  tags = after_flush b.tags l;
}

-- the trace with the notes of that flush
abbrev pub noted_flush : BackingView → Line → Trace → Trace
noted_flush b l trace = all_noted trace (flush_notes (shape_of b) b.tags l)

-- a line as users see it, with the marked bytes of a commit
abbrev pub committed_line : BackingView → Line → List ℕ → ℕ → List ℕ
committed_line b l bytes mask = mixed mask (take b.line_bytes bytes) (view_of b l)

-- After a merge: users and memory have the line with the marked bytes of the commit, and nobody holds it.
abbrev pub merged : BackingView → Line → List ℕ → ℕ → BackingView
merged b l bytes mask = record b {
  view = with_line b.base b.line_bytes b.view l.0 (committed_line b l bytes mask);
  copies = with_line b.base b.line_bytes b.copies l.0 (committed_line b l bytes mask);
  tags = after_merge b.tags l;
}

-- the trace with the notes of that merge
abbrev pub noted_merge : BackingView → ℕ → Line → Trace → Trace
noted_merge b core l trace = all_noted trace (merge_notes (shape_of b) b.tags core l)

-- a memory under no caches: one set of one way that nobody has
abbrev pub bare : Memory → BackingView
bare m = record {
  line_bytes = m.line_bytes;
  base = m.base;
  holders = 0;
  sets = 1;
  ways = 1;
  view = m.bytes;
  copies = m.bytes;
  tags = no_tags;
}
