-- What a run of a design comes to.
use Rattle.std.specs.Prelude.{ℕ, ◌≡◌, List}
use Rattle.conda_base.specs.declared.actor.Actor.{Actor}
use Rattle.schedule_log.specs.declared.entry.Entry.{Entry}
use Rattle.traffic_trace.specs.declared.note.Note.{Note}
use Rattle.line_memory.specs.Tags.{Tag}
use Rattle.chip_laws.specs.Design.{Design, hart_shape}
use Rattle.chip_laws.specs.Balance.{all_tags}
use Rattle.chip_laws.specs.Worlds.{flat_line, world, journal}

-- the order of entries, the notes of traffic, the tags at the end, and the bytes of line 1 in flat
-- memory
pub record RunOutcome : Type 0 where
  pub order : List Entry
  pub notes : List Note
  pub tags : List Tag
  pub bytes : List ℕ

pub record ComesTo (d : Design) (events : List Actor) (outcome : RunOutcome) : Type 0 where
  pub order : journal d events ≡ outcome.order
  pub notes : (world d events).notes ≡ outcome.notes
  pub tags : all_tags (hart_shape d) (world d events).tags ≡ outcome.tags
  pub bytes : flat_line d (world d events).flat (record { 0 = 1 }) ≡ outcome.bytes
