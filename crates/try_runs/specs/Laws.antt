-- What is known of every try.
use Rattle.std.specs.Prelude.{ℕ, ◌≡◌, ◌≤◌, true, false, length, All, Some}
use Rattle.conda_base.specs.declared.Line.{Line}
use Rattle.conda_base.specs.Lines.{IsLineSize}
use Rattle.conda_base.specs.LineLists.{names}
use Rattle.rv32_hart.specs.declared.regs.Regs.{Regs}
use Rattle.rv32_hart.specs.Code.{CodeView, IsCode}
use Rattle.offload_calls.specs.Calls.{is_idle}
use Rattle.offload_calls.specs.Stores.{Inside}
use Rattle.try_runs.specs.declared.limits.Limits.{Limits}
use Rattle.try_runs.specs.Ends.{end_of}
use Rattle.try_runs.specs.Fills.{Fills, try_run}
use Rattle.try_runs.specs.Limits.{IsLimits}

-- what a try comes to depends on the fills of the lines alone that it reads
abbrev pub DependsOnReads : Type 0
DependsOnReads =
    (code : CodeView) (line_bytes : ℕ) (r : Regs) (fills other : Fills) (n : ℕ)
    → IsCode code → IsLineSize line_bytes
    → ((l : Line) → names (try_run code line_bytes r fills n).reads l ≡ true → fills l ≡ other l)
    → try_run code line_bytes r fills n ≡ try_run code line_bytes r other n

-- a try stores into memory alone
abbrev pub StoresInMemory : Type 0
StoresInMemory =
    (code : CodeView) (line_bytes : ℕ) (r : Regs) (fills : Fills) (n : ℕ) → IsCode code
    → All (Inside code.base (length code.bytes)) (try_run code line_bytes r fills n).stored

-- its core is never idle
abbrev pub IsNeverIdle : Type 0
IsNeverIdle =
    (code : CodeView) (line_bytes : ℕ) (r : Regs) (fills : Fills) (n : ℕ)
    → is_idle (Some (try_run code line_bytes r fills n).core.status) ≡ false

-- no cause stands before its first act
abbrev pub EndsAfterAnAct : Type 0
EndsAfterAnAct =
    (code : CodeView) (limits : Limits) (r : Regs) (fills : Fills) (n cause : ℕ) → IsLimits limits
    → end_of code limits n (try_run code limits.line_bytes r fills n) ≡ Some cause
    → 1 ≤ n
