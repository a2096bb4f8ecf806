-- Four facts on a single entry.
use Rattle.std.specs.Prelude.{ℕ, ◌≡◌, ◌||◌, true, false, List, Some}
use Rattle.conda_base.specs.declared.Line.{Line}
use Rattle.conda_base.specs.declared.actor.Actor.{Actor}
use Rattle.schedule_log.specs.declared.entry.Entry.{Entry}
use Rattle.offload_calls.specs.declared.status.CoreStatus.TheVariants as Core_is
use Rattle.conda_base.specs.LineLists.{names}
use Rattle.chip_laws.specs.Design.{Design, IsDesign}
use Rattle.chip_laws.specs.Rules.{World, Opening, dirty_of, next}
use Rattle.chip_laws.specs.Worlds.{flat_line, changed, took, world}
use Rattle.chip_laws.specs.Entries.{is_commit}

-- a line that the entry doesn't change keeps its flat bytes
abbrev pub BytesStay : Design → World → Entry → World → Type 0
BytesStay d w e v =
    (l : Line) → names (changed d w e) l ≡ false → flat_line d v.flat l ≡ flat_line d w.flat l

-- such a line is dirty after only where it was before
abbrev pub DirtyStays : Design → World → Entry → World → Type 0
DirtyStays d w e v =
    (l : Line) → names (changed d w e) l ≡ false
    → names (dirty_of d v) l ≡ true → names (dirty_of d w) l ≡ true

-- a try that stays open has as foreign what was foreign to it and what the entry changes
abbrev pub ForeignGrows : Design → World → Entry → World → Type 0
ForeignGrows d w e v =
    (j : ℕ) (old new : Opening) → (w.seats j).opening ≡ Some old → (v.seats j).opening ≡ Some new
    → (l : Line) → (names old.foreign l || names (changed d w e) l) ≡ true
    → names new.foreign l ≡ true

-- a core that is Run stays as it is, but for its own commit
abbrev pub CoreStays : World → Entry → World → Type 0
CoreStays w e v =
    (j : ℕ) → (w.flat.cores j).status ≡ Core_is.Run → is_commit j e ≡ false
    → v.flat.cores j ≡ w.flat.cores j

pub record EntryFacts (d : Design) (w : World) (e : Entry) (v : World) : Type 0 where
  pub bytes : BytesStay d w e v
  pub dirty : DirtyStays d w e v
  pub foreign : ForeignGrows d w e v
  pub core : CoreStays w e v

abbrev pub AlwaysEntryFacts : Type 0
AlwaysEntryFacts =
    (d : Design) (events : List Actor) (a : Actor) → IsDesign d
    → (let w = world d events in let e = next d w a in EntryFacts d w e (took d w e))
