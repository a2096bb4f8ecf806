-- What a portion's acts find among marked addresses.
use Rattle.std.specs.Prelude.{ℕ, ◌≡◌, ◌≢◌, ◌+◌, ◌-◌, ◌<◌, ◌≤◌, ◌%◌, ◌&&◌, ◌||◌, not, Bool, List, [], length, filter, slice_index_or, Option, Some, None}
use Rattle.rv32_hart.specs.Code.{CodeView}
use Rattle.rv32_hart.specs.declared.act.Access.{Access}
use Rattle.offload_calls.specs.declared.status.Core.{Core}
use Rattle.offload_calls.specs.State.{Setup, State}
use Rattle.offload_calls.specs.CoreActs.{core_acts, written, outside}
use Rattle.offload_calls.specs.Stores.{is_listed}
use Rattle.flat_check.specs.Acts.{loaded_by, stored_by}
use Rattle.flat_check.specs.Marks.{Marked, is_set, HasPlaces}
use Rattle.flat_check.specs.Walks.{lowest, lower}

-- an address is marked, in a memory from this base on
abbrev pub is_marked_at : Marked → ℕ → ℕ → Bool
is_marked_at m base addr = is_set m (addr - base)

-- there is a mark for each byte of the image, and a block begins at its base
pub record FitsImage (m : Marked) (code : CodeView) : Type 0 where
  pub places : HasPlaces m (length code.bytes)
  pub even : code.base % 32 ≡ 0

-- the lower of two, if there are any
abbrev pub lower_of : Option ℕ → Option ℕ → Option ℕ
lower_of None y = y
lower_of (Some n) y = Some (lower n y)

-- the lowest marked address that an access loads
abbrev pub lowest_loaded : Marked → ℕ → Access → Option ℕ
lowest_loaded m base access = lowest (filter (is_marked_at m base) (loaded_by access))

-- what an access stores is no longer marked
abbrev pub Unmarks : Marked → Marked → ℕ → Access → Type 0
Unmarks old new base access =
    (addr : ℕ) → base ≤ addr → is_marked_at new base addr ≡ (is_marked_at old base addr && not (is_listed (stored_by access) addr))

-- the marks are on what others stored, but not on what the portion itself stored so far
abbrev pub MarksStored : Marked → ℕ → List ℕ → List ℕ → Type 0
MarksStored m base stored own =
    (addr : ℕ) → base ≤ addr → is_marked_at m base addr ≡ (is_listed stored addr && not (is_listed own addr))

-- what an access stores is marked too
abbrev pub MarksToo : Marked → Marked → ℕ → Access → Type 0
MarksToo old new base access =
    (addr : ℕ) → base ≤ addr
    → is_marked_at new base addr ≡ (is_marked_at old base addr || is_listed (stored_by access) addr)

-- ---- the marks of all cores

-- past the last core there are no marks
abbrev pub no_marked : Marked
no_marked = record { round = 0; blocks = [] }

-- the marks of core k
abbrev pub marks_at : List Marked → ℕ → Marked
marks_at marks k = slice_index_or marks k no_marked

-- the marks of every core fit the image
abbrev pub AllFitImage : List Marked → CodeView → Type 0
AllFitImage marks code = (k : ℕ) → k < length marks → FitsImage (marks_at marks k) code

-- core j's marks stay, and what an access stores is marked for every other core
pub record MarksBeside (old new : List Marked) (base j : ℕ) (access : Access) : Type 0 where
  pub own : marks_at new j ≡ marks_at old j
  pub others : (k : ℕ) → k < length old → k ≢ j
      → MarksToo (marks_at old k) (marks_at new k) base access

-- ---- portions

-- after k acts of core j from `f` on: memory and the core are those of the flat machine, which put so many bytes
pub record HasRun (s : Setup) (f : State) (j k : ℕ) (memory : List ℕ) (core : Core) (puts : ℕ) : Type 0 where
  pub memory_is : memory ≡ (core_acts s f j k).memory
  pub core_is : core ≡ (core_acts s f j k).cores j
  pub puts_are : length (core_acts s f j k).output ≡ length f.output + puts

-- The acts are those of the flat machine. Core j's marks are on what others stored and not on what the acts stored,
-- every other core's on what the acts stored too; and the lowest address of their Outside that others stored to is
-- known.
pub record HasActed (s : Setup) (f : State) (j k : ℕ) (stored : List ℕ) (before : List Marked) (memory : List ℕ)
    (core : Core) (marks : List Marked) (found : Option ℕ) (puts : ℕ) : Type 0 where
  pub run : HasRun s f j k memory core puts
  pub own : MarksStored (marks_at marks j) s.code.base stored (written s f j k)
  pub others : (i : ℕ) → i < length before → i ≢ j → (addr : ℕ) → s.code.base ≤ addr
      → is_marked_at (marks_at marks i) s.code.base addr
      ≡ (is_marked_at (marks_at before i) s.code.base addr || is_listed (written s f j k) addr)
  pub found_is : found ≡ lowest (filter (is_listed stored) (outside s f j k))
