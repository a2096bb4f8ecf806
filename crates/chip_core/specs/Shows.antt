-- A chip stands for a list of events: each of its parts is what the world of these events has.
use Rattle.std.specs.Prelude.{ℕ, ◌≡◌, ◌<◌, Bool, false, List, length, slice_get, nat_lt, Option, Some, None}
use Rattle.std.specs.List.{AllByRecursion}
use Rattle.conda_base.specs.declared.Line.{Line}
use Rattle.conda_base.specs.declared.actor.Actor.{Actor}
use Rattle.rv32_hart.specs.declared.regs.Regs.{Regs}
use Rattle.line_memory.specs.Backing.{BackingView, IsInRange, copy_of}
use Rattle.line_memory.specs.Notes.{all_noted}
use Rattle.traffic_trace.specs.Notes.{Trace, no_notes}
use Rattle.bloom_sig.specs.Signatures.{Sets}
use Rattle.bloom_sig.specs.Images.{IsImage}
use Rattle.offload_calls.specs.State.{status_of}
use Rattle.offload_calls.specs.declared.status.Hart.{Hart}
use Rattle.offload_calls.specs.declared.status.CoreStatus.{CoreStatus}
use Rattle.fallback_lock.specs.Locks.{Counts}
use Rattle.try_runs.specs.Limits.{limits_of}
use Rattle.portion_ctl.specs.Views.{ReadyView, OpenView, FlushingView}
use Rattle.portion_ctl.specs.Stands.{StandsFor}
use Rattle.chip_laws.specs.Design.{Design, IsDesign, IsActorOf}
use Rattle.coherent_mem.specs.Parts.{shown}
use Rattle.chip_laws.specs.Rules.{World, Seat, Opening, portion_of, is_locked}
use Rattle.chip_laws.specs.Worlds.{world}
use Rattle.chip_core.specs.declared.stage.Stage.{Stage}
use Rattle.chip_core.specs.declared.stage.Stage.TheVariants as Stage_is
use Rattle.chip_core.specs.Fits.{is_locked_core}
use Rattle.chip_core.specs.Views.{ChipView}
use Rattle.chip_laws.specs.Design.{hart_shape}
use Rattle.line_memory.specs.Backing.{shape_of}

-- ---- memory and traffic

-- memory has the numbers that the design gives
pub record HasShape (d : Design) (b : BackingView) : Type 0 where
  pub line_bytes : b.line_bytes ≡ d.config.line_bytes
  pub base : b.base ≡ d.image.code.base
  pub shape : shape_of b ≡ hart_shape d

-- The flat view, memory's own copies and the tags; the totals and the last notes.
pub record ShowsMemory (d : Design) (b : BackingView) (trace : Trace) (w : World) : Type 0 where
  pub numbers : HasShape d b
  pub view : b.view ≡ w.flat.memory
  pub copies : (l : Line) → IsInRange b l → copy_of b l ≡ w.copies l
  pub tags : b.tags ≡ w.tags
  pub log : trace ≡ all_noted (no_notes d.config.trace_last) w.notes

-- ---- harts

pub record ShowsHarts (d : Design) (harts : List Hart) (w : World) : Type 0 where
  pub many : length harts ≡ d.config.harts
  pub each : (h : ℕ) → h < d.config.harts → slice_get harts h ≡ Some (w.flat.harts h)

-- ---- what a core holds

-- these sets are the image of these lines, with so many bits as the configuration gives
pub record IsImageOf (d : Design) (s : Sets) (lines : List Line) : Type 0 where
  pub bits : s.bits ≡ d.config.sig_bits
  pub image : IsImage s lines

-- No try of the core is open, and its last one ended by a rollback. (A commit makes the count 0, an
-- opening is followed by its end, and a launch is of an idle core, whose count is 0.)
abbrev pub is_taken_back : Seat → Bool
is_taken_back seat = nat_lt 0 seat.backs

-- no try of core j is open, and none was taken back since its last commit or launch
pub record HoldsReady (d : Design) (j : ℕ) (r : Regs) (seat : Seat) (s : ReadyView) : Type 0 where
  pub closed : seat.opening ≡ None
  pub settled : is_taken_back seat ≡ false
  pub core : s.core ≡ j
  pub limits : s.limits ≡ limits_of d.config
  pub regs : s.regs ≡ r

-- a try of core j is open: the portion stands for its opening registers, its fills and its number
-- of acts
pub record HoldsOpening (d : Design) (j : ℕ) (regs : Regs) (o : Opening) (s : OpenView)
    : Type 0 where
  pub core : s.core ≡ j
  pub limits : s.limits ≡ limits_of d.config
  pub opening : o.regs ≡ regs
  pub stands : StandsFor d.image.code s (portion_of o)
  pub foreign : IsImageOf d s.foreign_set o.foreign
  pub locked : s.locked ≡ o.locked

abbrev pub HoldsOpen : Design → ℕ → Regs → Option Opening → OpenView → Type 0
HoldsOpen d j regs None s = ⊥
HoldsOpen d j regs (Some o) s = HoldsOpening d j regs o s

-- the last try of core j was taken back, and it had no opening since
pub record HoldsFlushing (d : Design) (j : ℕ) (r : Regs) (seat : Seat) (s : FlushingView)
    : Type 0 where
  pub closed : seat.opening ≡ None
  pub taken : 0 < seat.backs
  pub core : s.core ≡ j
  pub limits : s.limits ≡ limits_of d.config
  pub regs : s.regs ≡ r
  pub reads : IsImageOf d s.read_set seat.last
  pub due : s.due ≡ seat.due

-- what core j holds, exactly
abbrev pub HoldsAt : Design → ℕ → Regs → Seat → Stage → Type 0
HoldsAt d j regs seat (Stage_is.Ready s) = HoldsReady d j regs seat s
HoldsAt d j regs seat (Stage_is.Open s) = HoldsOpen d j regs seat.opening s
HoldsAt d j regs seat (Stage_is.Flushing s) = HoldsFlushing d j regs seat s
HoldsAt d j regs seat Stage_is.Moved = ⊥

-- each core has its status and holds its portion
pub record ShowsCores (d : Design) (stands : List CoreStatus) (held : List Stage) (w : World)
    : Type 0 where
  pub statuses : (k : ℕ) → slice_get stands k ≡ status_of d.config.cores w.flat.cores k
  pub many : length held ≡ d.config.cores
  pub portions : (j : ℕ) (p : Stage) → slice_get held j ≡ Some p
      → HoldsAt d j (w.flat.cores j).regs (w.seats j) p

-- ---- rollbacks and the lock

-- the rollback counts, and the locked core is the one whose try was opened by Lock
pub record ShowsLock (d : Design) (lock : Counts) (w : World) : Type 0 where
  pub retries : lock.retries ≡ d.config.retries
  pub many : length lock.backs ≡ d.config.cores
  pub backs : (j : ℕ) → j < d.config.cores → slice_get lock.backs j ≡ Some (w.seats j).backs
  pub locked : (j : ℕ) → is_locked_core lock.locked j ≡ is_locked (w.seats j).opening
  pub within : (k : ℕ) → lock.locked ≡ Some k → k < d.config.cores

-- ---- the chip

pub record Shows (d : Design) (c : ChipView) (w : World) : Type 0 where
  pub config : c.config ≡ d.config
  pub code : c.code ≡ d.image.code
  pub memory : ShowsMemory d (shown c.memory) c.log w
  pub harts : ShowsHarts d c.harts w
  pub cores : ShowsCores d c.statuses c.portions w
  pub lock : ShowsLock d c.lock w

-- the chip stands for these events, under an accepted configuration and image
pub record Stands (d : Design) (c : ChipView) (events : List Actor) : Type 0 where
  pub is_design : IsDesign d
  pub actors : AllByRecursion (IsActorOf d) events
  pub shows : Shows d c (world d events)
