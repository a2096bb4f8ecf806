-- The line that an act accesses.
use Rattle.std.specs.Prelude.{ℕ, Bool, true, false, Option, Some, None, Result, Ok, Err, option_map, if◌then◌else◌}
use Rattle.conda_base.specs.declared.Line.{Line}
use Rattle.conda_base.specs.LineLists.{line_at}
use Rattle.rv32_hart.specs.declared.regs.Trap.{Trap}
use Rattle.rv32_hart.specs.declared.act.Access.{Access}
use Rattle.rv32_hart.specs.declared.act.Access.TheVariants as Access_is
use Rattle.rv32_hart.specs.declared.act.Planned.{Planned}

-- a line, and whether it is stored to
pub record LineUse : Type 0 where
  pub line : Line
  pub stores : Bool

-- an atomic counts as a store alone
abbrev pub use_of_access : ℕ → Access → Option LineUse
use_of_access line_bytes Access_is.Nothing = None
use_of_access line_bytes (Access_is.Load addr size signed rd) =
    Some (record { line = line_at line_bytes addr; stores = false })
use_of_access line_bytes (Access_is.Store addr size value) =
    Some (record { line = line_at line_bytes addr; stores = true })
use_of_access line_bytes (Access_is.Amo addr op rd value) =
    Some (record { line = line_at line_bytes addr; stores = true })
use_of_access line_bytes Access_is.Call = None

-- an act that traps has no line
unfoldable pub line_use : ℕ → Result Planned Trap → Option LineUse
line_use line_bytes (Err trap) = None
line_use line_bytes (Ok p) = use_of_access line_bytes p.access

abbrev pub used_line : Option LineUse → Option Line
used_line used = option_map (λ (u : LineUse). u.line) used

abbrev pub stored_line : Option LineUse → Option Line
stored_line None = None
stored_line (Some u) = if u.stores then Some u.line else None
