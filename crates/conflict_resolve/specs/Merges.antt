-- The merges of a commit, one line after another.
use Rattle.std.specs.Prelude.{ℕ, List, [], ◌∷◌, ◌++◌, map}
use Rattle.conda_base.specs.declared.Line.{Line}
use Rattle.write_masks.specs.declared.Masked.{Masked}
use Rattle.traffic_trace.specs.declared.note.Note.{Note}
use Rattle.line_memory.specs.Backing.{BackingView, shape_of, merged}
use Rattle.line_memory.specs.Notes.{merge_notes}
use Rattle.nda_cache.specs.Tried.{Tried, known_of}

-- a line that a try stored to, with what the near-data cache has of it
abbrev pub Stored : Type 0
Stored = Line × Masked

-- all of them, in the order of their first store
abbrev pub stored_in : Tried → List Stored
stored_in cache = map (λ (l : Line). (l, known_of cache l)) cache.stored

-- memory after their merges
abbrev pub all_merged : BackingView → List Stored → BackingView
all_merged b [] = b
all_merged b (s ∷ stored) = all_merged (merged b s.0 s.1.bytes s.1.mask) stored

-- the notes that the merges leave
abbrev pub all_merge_notes : BackingView → ℕ → List Stored → List Note
all_merge_notes b core [] = []
all_merge_notes b core (s ∷ stored) =
    merge_notes (shape_of b) b.tags core s.0
    ++ all_merge_notes (merged b s.0 s.1.bytes s.1.mask) core stored
