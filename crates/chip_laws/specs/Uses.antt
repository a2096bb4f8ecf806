-- What the line that an act accesses makes of the caches, where it accesses one, and a flush, where
-- there is one.
use Rattle.std.specs.Prelude.{ℕ, List, [], Option, Some, None}
use Rattle.conda_base.specs.declared.Line.{Line}
use Rattle.traffic_trace.specs.declared.note.Note.{Note}
use Rattle.line_memory.specs.Tags.{Tags, Shape}
use Rattle.line_memory.specs.Access.{after_access, after_flush}
use Rattle.line_memory.specs.Notes.{access_notes}
use Rattle.offload_calls.specs.LineUses.{LineUse}

abbrev pub after_use : Shape → Tags → ℕ → Option LineUse → Tags
after_use shape tags h None = tags
after_use shape tags h (Some used) = after_access shape tags h used.line used.stores

abbrev pub use_notes : Shape → Tags → ℕ → Option LineUse → List Note
use_notes shape tags h None = []
use_notes shape tags h (Some used) = access_notes shape tags h used.line used.stores

abbrev pub flush_after : Tags → Option Line → Tags
flush_after tags None = tags
flush_after tags (Some l) = after_flush tags l
