-- Traffic: seven totals and the last notes.
use Rattle.std.specs.Prelude.{ℕ, ◌+◌, ◌-◌, ◌^◌, min, List, [], ◌∷◌, ◌++◌, replicate, slice_index_or, slice_set}
use Rattle.circular_buffer.specs.Buffer.{keep_last}
use Rattle.traffic_trace.specs.declared.note.Kind.{Kind}
use Rattle.traffic_trace.specs.declared.note.Kind.TheVariants.{Fill, Back, Down, Drop, Evict, CoreFill, Merge}
use Rattle.traffic_trace.specs.declared.note.Note.{Note}

-- the number of notes of each kind, the last notes with the oldest first, and how many of them are kept at most
pub record Trace : Type 0 where
  pub totals : List ℕ
  pub notes : List Note
  pub kept : ℕ

-- a kind's place among the totals
abbrev pub place_of : Kind → ℕ
place_of Fill = 0
place_of Back = 1
place_of Down = 2
place_of Drop = 3
place_of Evict = 4
place_of CoreFill = 5
place_of Merge = 6

-- the total of a kind
abbrev pub total_of : Trace → Kind → ℕ
total_of trace kind = slice_index_or trace.totals (place_of kind) 0

-- no traffic, where this many notes are kept
abbrev pub no_notes : ℕ → Trace
no_notes kept = record { totals = replicate 7 0; notes = []; kept = kept }

-- one note more: its kind's total grows by 1, up to 2 ^ 64 - 1, and it is the newest
abbrev pub noted : Trace → Note → Trace
noted trace note = record {
  totals = slice_set trace.totals (place_of note.kind) (min (total_of trace note.kind + 1) (2 ^ 64 - 1));
  notes = keep_last trace.kept (trace.notes ++ note ∷ []);
  kept = trace.kept;
}
