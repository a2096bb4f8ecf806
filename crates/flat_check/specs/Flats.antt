-- A flat machine, and the flat state that it stands for.
use Rattle.std.specs.Prelude.{ℕ, ◌≡◌, ◌≢◌, ◌<◌, ◌≤◌, ◌||◌, List, length, filter, slice_get, slice_set, slice_index_or, Option, Some, None}
use Rattle.rv32_hart.specs.Code.{CodeView}
use Rattle.rv32_hart.specs.Regs.{start_regs}
use Rattle.rv32_hart.specs.declared.regs.Regs.{Regs}
use Rattle.rv32_hart.specs.declared.act.Access.{Access}
use Rattle.offload_calls.specs.declared.status.Hart.{Hart}
use Rattle.offload_calls.specs.declared.status.Core.{Core}
use Rattle.offload_calls.specs.declared.status.CoreStatus.{CoreStatus}
use Rattle.offload_calls.specs.declared.status.CoreStatus.TheVariants as Core_is
use Rattle.offload_calls.specs.State.{Setup, State, status_of, launched_core}
use Rattle.offload_calls.specs.Stores.{is_listed, stored_addresses}
use Rattle.offload_calls.specs.HartAct.{hart_step, hart_stores}
use Rattle.offload_calls.specs.CoreActs.{core_acts, outside, written}
use Rattle.flat_check.specs.declared.acts.Launch.{Launch}
use Rattle.flat_check.specs.declared.flat.Flat.{Flat}
use Rattle.flat_check.specs.Acts.{stored_by}
use Rattle.flat_check.specs.Marks.{Marked}
use Rattle.flat_check.specs.Portions.{is_marked_at, marks_at}
use Rattle.flat_check.specs.Walks.{lowest}

-- memory, the harts, the cores' statuses and registers, and how many bytes were put
pub record FlatParts : Type 0 where
  pub memory : List ℕ
  pub harts : List Hart
  pub statuses : List CoreStatus
  pub regs : List Regs
  pub output : ℕ

abbrev pub flat_parts : Flat → FlatParts
flat_parts m = record {
  memory = m.memory.items;
  harts = m.harts.items;
  statuses = m.statuses.items;
  regs = m.regs.items;
  output = m.output;
}

-- there is a byte for each of the image's, and each core has registers
pub record FitsFlat (code : CodeView) (p : FlatParts) : Type 0 where
  pub long : length p.memory ≡ length code.bytes
  pub cores : length p.regs ≡ length p.statuses

-- the parts are those of a flat state
pub record ShowsFlat (s : Setup) (p : FlatParts) (f : State) : Type 0 where
  pub memory : p.memory ≡ f.memory
  pub many_harts : length p.harts ≡ s.harts
  pub harts : (h : ℕ) → h < s.harts → slice_get p.harts h ≡ Some (f.harts h)
  pub many_statuses : length p.statuses ≡ s.cores
  pub statuses : (k : ℕ) → slice_get p.statuses k ≡ status_of s.cores f.cores k
  pub many_cores : length p.regs ≡ s.cores
  pub regs : (j : ℕ) → j < s.cores → slice_get p.regs j ≡ Some (f.cores j).regs
  pub output : p.output ≡ length f.output

-- core j by its registers and its status
abbrev pub core_with : List Regs → List CoreStatus → ℕ → Core
core_with regs statuses j = record {
  regs = slice_index_or regs j (start_regs 0);
  status = slice_index_or statuses j Core_is.Idle;
}

-- the registers where a core starts, if there is one of its number
abbrev pub with_launch : Option Launch → List Regs → List Regs
with_launch None regs = regs
with_launch (Some l) regs = slice_set regs l.core (launched_core l.entry l.arg).regs

-- ---- what acts make of a flat machine

-- a step of hart h, which made this access
pub record HasStepped (s : Setup) (f : State) (h : ℕ) (p : FlatParts) (access : Access) : Type 0 where
  pub shows : ShowsFlat s p (hart_step s f h)
  pub stores : stored_addresses (hart_stores s f h) ≡ stored_by access

-- one act of core j, which made this access
pub record HasMadeAct (s : Setup) (f : State) (j : ℕ) (p : FlatParts) (access : Access) : Type 0 where
  pub shows : ShowsFlat s p (core_acts s f j 1)
  pub stores : written s f j 1 ≡ stored_by access

-- what these addresses are is marked too, for every core but j
abbrev pub MarksStoredBeside : List Marked → List Marked → ℕ → ℕ → List ℕ → Type 0
MarksStoredBeside old new base j stored =
    (k : ℕ) → k < length old → k ≢ j → (addr : ℕ) → base ≤ addr
    → is_marked_at (marks_at new k) base addr ≡ (is_marked_at (marks_at old k) base addr || is_listed stored addr)

-- a portion of n acts of core j, with the lowest address that it loaded from outside and others stored to
pub record HasMadePortion (s : Setup) (f : State) (j n : ℕ) (stored : List ℕ) (before : List Marked) (p : FlatParts)
    (marks : List Marked) (found : Option ℕ) : Type 0 where
  pub shows : ShowsFlat s p (core_acts s f j n)
  pub marks_are : MarksStoredBeside before marks s.code.base j (written s f j n)
  pub found_is : found ≡ lowest (filter (is_listed stored) (outside s f j n))
