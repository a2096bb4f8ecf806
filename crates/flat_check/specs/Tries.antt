-- The open tries of the cores, and what stands for them.
use Rattle.std.specs.Prelude.{ℕ, suc, ◌≡◌, ◌<◌, ◌-◌, ◌^◌, ◌++◌, List, [], length, slice_get, min, Option, Some, None, option_map}
use Rattle.rv32_hart.specs.Code.{CodeView}
use Rattle.offload_calls.specs.State.{Setup, updated}
use Rattle.flat_check.specs.declared.tries.Tries.{Tries}
use Rattle.flat_check.specs.Marks.{Marked}
use Rattle.flat_check.specs.Portions.{AllFitImage, MarksStored, marks_at}
use Rattle.flat_check.specs.Walks.{Watched}

-- of each core, how many acts its open try has, and its marks
pub record TryParts : Type 0 where
  pub acts : List (Option ℕ)
  pub marks : List Marked

abbrev pub try_parts : Tries → TryParts
try_parts t = record { acts = t.acts.items; marks = t.marks.items }

-- there are so many cores, and their marks fit the image
pub record FitsTries (code : CodeView) (cores : ℕ) (p : TryParts) : Type 0 where
  pub acts : length p.acts ≡ cores
  pub marks : length p.marks ≡ cores
  pub fit : AllFitImage p.marks code

-- a number of acts, as it is counted: it stands still at 2^32 - 1
abbrev pub counted_acts : Option Watched → Option ℕ
counted_acts try = option_map (λ (w : Watched). min w.acts (2 ^ 32 - 1)) try

-- the marks are on what others stored since the try was opened
abbrev pub MarksTry : ℕ → Marked → Option Watched → Type 0
MarksTry base m None = Unit {0}
MarksTry base m (Some w) = MarksStored m base w.stored []

-- the parts stand for these open tries
pub record ShowsTries (s : Setup) (p : TryParts) (tries : ℕ → Option Watched) : Type 0 where
  pub many_acts : length p.acts ≡ s.cores
  pub many_marks : length p.marks ≡ s.cores
  pub acts : (j : ℕ) → j < s.cores → slice_get p.acts j ≡ Some (counted_acts (tries j))
  pub marks : (j : ℕ) → j < s.cores → MarksTry s.code.base (marks_at p.marks j) (tries j)

-- ---- what entries make of open tries

-- core j's try was just opened
abbrev pub opened : (ℕ → Option Watched) → ℕ → ℕ → Option Watched
opened tries j = updated tries j (Some (record { acts = 0; stored = [] }))

-- core j's try is over
abbrev pub closed : (ℕ → Option Watched) → ℕ → ℕ → Option Watched
closed tries j = updated tries j None

-- a try with one act more
abbrev pub one_act : Watched → Watched
one_act w = record w { acts = suc w.acts }

-- core j's try has one act more
abbrev pub counted : (ℕ → Option Watched) → ℕ → ℕ → Option Watched
counted tries j = updated tries j (option_map one_act (tries j))

-- a try, since whose opening these addresses were stored to too
abbrev pub with_stored : List ℕ → Watched → Watched
with_stored more w = record w { stored = w.stored ++ more }
