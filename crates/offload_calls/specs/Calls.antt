-- The table of calls, by the number in x17. A function gives the status of each near-data core that there is.
use Rattle.std.specs.Prelude.{ℕ, ◌%◌, ◌==◌, ◌&&◌, Bool, true, false, List, slice_get, slice_set, Option, Some, None, is_some, if◌then◌else◌}
use Rattle.rv32_hart.specs.declared.regs.Regs.{Regs}
use Rattle.rv32_hart.specs.Act.{next_pc, value_of}
use Rattle.offload_calls.specs.declared.status.CoreStatus.{CoreStatus}
use Rattle.offload_calls.specs.declared.status.CoreStatus.TheVariants as Core_is
use Rattle.offload_calls.specs.declared.serve.Served.{Served}
use Rattle.offload_calls.specs.declared.serve.Served.TheVariants as Served_is
use Rattle.offload_calls.specs.declared.serve.Kernel.{Kernel}
use Rattle.offload_calls.specs.declared.serve.Kernel.TheVariants as Kernel_is

-- the registers of a call that goes on
abbrev pub goes_on : Regs → Regs
goes_on r = record r { pc = next_pc r }

abbrev pub answers : Regs → ℕ → Regs
answers r answer = record { pc = next_pc r; x = slice_set r.x 10 answer }

abbrev pub answers_both : Regs → ℕ → ℕ → Regs
answers_both r answer value = record { pc = next_pc r; x = slice_set (slice_set r.x 10 answer) 11 value }

-- ---- calls of harts

abbrev pub is_idle : Option CoreStatus → Bool
is_idle None = false
is_idle (Some Core_is.Idle) = true
is_idle (Some Core_is.Run) = false
is_idle (Some (Core_is.Done value)) = false
is_idle (Some (Core_is.Trapped trap)) = false

abbrev pub is_running : Option CoreStatus → Bool
is_running None = false
is_running (Some Core_is.Idle) = false
is_running (Some Core_is.Run) = true
is_running (Some (Core_is.Done value)) = false
is_running (Some (Core_is.Trapped trap)) = false

-- the call is wait (1001) on a core that is Run
abbrev pub waits : (ℕ → Option CoreStatus) → Regs → Bool
waits cores r = value_of r 17 == 1001 && is_running (cores (value_of r 10))

-- the call is launch (1000) of a core that is Idle
abbrev pub launches : (ℕ → Option CoreStatus) → Regs → Bool
launches cores r = value_of r 17 == 1000 && is_idle (cores (value_of r 10))

-- the call is wait on a core that there is
abbrev pub collects : (ℕ → Option CoreStatus) → Regs → Bool
collects cores r = value_of r 17 == 1001 && is_some (cores (value_of r 10))

-- a launch answers 0, or 1 where the core isn't Idle, or 2 where there is no such core
abbrev pub launch_answer : Option CoreStatus → ℕ
launch_answer None = 2
launch_answer (Some status) = if is_idle (Some status) then 0 else 1

-- a poll answers 0 idle, 1 running, 2 done, 3 trapped, 4 no such core, and the done value, the trap's cause, or 0
abbrev pub poll_answer : Option CoreStatus → ℕ
poll_answer None = 4
poll_answer (Some Core_is.Idle) = 0
poll_answer (Some Core_is.Run) = 1
poll_answer (Some (Core_is.Done value)) = 2
poll_answer (Some (Core_is.Trapped trap)) = 3

abbrev pub poll_value : Option CoreStatus → ℕ
poll_value None = 0
poll_value (Some Core_is.Idle) = 0
poll_value (Some Core_is.Run) = 0
poll_value (Some (Core_is.Done value)) = value
poll_value (Some (Core_is.Trapped trap)) = trap.cause

abbrev pub polled : (ℕ → Option CoreStatus) → Regs → Regs
polled cores r = answers_both r (poll_answer (cores (value_of r 10))) (poll_value (cores (value_of r 10)))

-- what a hart's call asks for: 93 exit, 1000 launch, 1001 wait, 1002 poll, 1003 put, else trap 8
abbrev pub served : (ℕ → Option CoreStatus) → Regs → Served
served cores r =
    if value_of r 17 == 93 then Served_is.Exit (value_of r 10)
    else if launches cores r then Served_is.Launch (value_of r 10) (value_of r 11) (value_of r 12)
    else if value_of r 17 == 1000 then Served_is.Next
    else if value_of r 17 == 1001 then Served_is.Next
    else if value_of r 17 == 1002 then Served_is.Next
    else if value_of r 17 == 1003 then Served_is.Put (value_of r 10 % 256)
    else Served_is.Trapped (record { cause = 8; value = value_of r 17 })

-- an exit and a trap leave pc and registers
abbrev pub regs_after_call : (ℕ → Option CoreStatus) → Regs → Regs
regs_after_call cores r =
    if value_of r 17 == 1000 then answers r (launch_answer (cores (value_of r 10)))
    else if value_of r 17 == 1001 then polled cores r
    else if value_of r 17 == 1002 then polled cores r
    else if value_of r 17 == 1003 then goes_on r
    else r

-- a core that is launched runs, and one that is waited for becomes idle
abbrev pub statuses_after_call : List CoreStatus → Regs → List CoreStatus
statuses_after_call cores r =
    if launches (slice_get cores) r then slice_set cores (value_of r 10) Core_is.Run
    else if collects (slice_get cores) r then slice_set cores (value_of r 10) Core_is.Idle
    else cores

-- ---- calls of kernels

-- 1003 put, 1004 done, else trap 8
abbrev pub kernel_served : Regs → Kernel
kernel_served r =
    if value_of r 17 == 1003 then Kernel_is.Put (value_of r 10 % 256)
    else if value_of r 17 == 1004 then Kernel_is.Done (value_of r 10)
    else Kernel_is.Trapped (record { cause = 8; value = value_of r 17 })

abbrev pub regs_after_kernel_call : Regs → Regs
regs_after_kernel_call r = if value_of r 17 == 1003 then goes_on r else r
