-- Where a portion stores.
use Rattle.std.specs.Prelude.{All}
use Rattle.rv32_hart.specs.Code.{CodeView, IsCode}
use Rattle.line_memory.specs.Backing.{BackingView, IsBacking, IsInRange}
use Rattle.try_runs.specs.Fills.{Portion}
use Rattle.portion_ctl.specs.Stands.{StandsFor}
use Rattle.portion_ctl.specs.States.{FitsMemory}
use Rattle.portion_ctl.specs.Views.{OpenView}

-- a portion whose acts were made over this memory's addresses stored to lines of its range alone
abbrev pub StoresInRange : Type 0
StoresInRange =
    (code : CodeView) (b : BackingView) (o : OpenView) (p : Portion)
    → IsCode code → IsBacking b → FitsMemory code b o.limits.line_bytes → StandsFor code o p
    → All (IsInRange b) o.cache.stored

-- what a portion has is what some number of acts came to
abbrev pub IsPortion : CodeView → OpenView → Type 0
IsPortion code o = (p : Portion) × StandsFor code o p
