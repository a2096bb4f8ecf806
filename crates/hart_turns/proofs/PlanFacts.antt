-- Turns that touch no memory.
use Rattle.std.proofs.Common.{◌≡◌, ℕ, true, false, List, [], refl, ap, ◌∙◌, Option, None, Ok, Err}
use Rattle.std.specs.Prelude.{slice_get}
use Rattle.rv32_hart.specs.declared.regs.Regs.{Regs}
use Rattle.rv32_hart.specs.declared.regs.Trap.{Trap}
use Rattle.rv32_hart.specs.declared.act.Planned.{Planned}
use Rattle.rv32_hart.specs.Code.{CodeView}
use Rattle.rv32_hart.specs.Act.{plan_of, is_call_access}
use Rattle.offload_calls.specs.declared.status.Hart.{Hart}
use Rattle.offload_calls.specs.declared.status.HartStatus.TheVariants as Hart_is
use Rattle.offload_calls.specs.declared.status.Core.{Core}
use Rattle.offload_calls.specs.declared.status.CoreStatus.{CoreStatus}
use Rattle.offload_calls.specs.declared.status.CoreStatus.TheVariants as Core_is
use Rattle.offload_calls.specs.Calls.{waits}
use Rattle.offload_calls.specs.HartAct.{HartEffect, Stays, waits_next, call_effect, plan_effect}
use Rattle.offload_calls.specs.CoreActs.{kernel_effect, kernel_call_effect}
use Rattle.hart_turns.specs.declared.calls.Launch.{Launch}
use Rattle.hart_turns.specs.Plans.{Beside, HasEffect, MakesCall, IsOver, HasKernelEffect, is_quiet, quiet_effect}

-- ---- harts

pub waits-call : (code : CodeView) (cores : ℕ → Option CoreStatus) (r : Regs) (p : Planned) → plan_of code r ≡ Ok p
    → is_call_access p.access ≡ true
    → waits_next code cores r ≡ waits cores r
unfolding waits_next
waits-call code cores r p plan call = rw (plan, call) refl

pub waits-trap : (code : CodeView) (cores : ℕ → Option CoreStatus) (r : Regs) (trap : Trap) → plan_of code r ≡ Err trap
    → waits_next code cores r ≡ false
unfolding waits_next
waits-trap code cores r trap plan = rw plan refl

pub waits-plain : (code : CodeView) (cores : ℕ → Option CoreStatus) (r : Regs) (p : Planned) → plan_of code r ≡ Ok p
    → is_call_access p.access ≡ false
    → waits_next code cores r ≡ false
unfolding waits_next
waits-plain code cores r p plan plain = rw (plan, plain) refl

effect-trap : (cores : ℕ → Option CoreStatus) (r : Regs) (trap : Trap)
    → plan_effect cores r (Err trap) 0
    ≡ record { hart = record { regs = r; status = Hart_is.Trapped trap }; change = Stays; stores = []; puts = [] }
unfolding plan_effect
effect-trap cores r trap = refl

effect-call : (cores : ℕ → Option CoreStatus) (r : Regs) (p : Planned) → is_call_access p.access ≡ true
    → plan_effect cores r (Ok p) 0 ≡ call_effect cores r
unfolding plan_effect
effect-call cores r p call = rw call refl

has-effect : (e f : HartEffect) (old new : Beside) (starts : Option Launch) (puts : List ℕ) → e ≡ f
    → HasEffect f old new starts puts → HasEffect e old new starts puts
has-effect e f old new starts puts same h = rw same h

pub over-trap : (code : CodeView) (old : Beside) (hart : Hart) (puts : List ℕ) (trap : Trap)
    → plan_of code old.hart.regs ≡ Err trap
    → hart ≡ record { regs = old.hart.regs; status = Hart_is.Trapped trap } → puts ≡ []
    → IsOver code old (record { hart = hart; statuses = old.statuses }) None puts
over-trap code old hart puts trap plan hart_is none = record {
  goes_on = waits-trap code (slice_get old.statuses) old.hart.regs trap plan;
  quiet = ap is_quiet plan;
  effect = has-effect (quiet_effect code old)
      (record {
        hart = record { regs = old.hart.regs; status = Hart_is.Trapped trap };
        change = Stays;
        stores = [];
        puts = [];
      }) old
      (record { hart = hart; statuses = old.statuses }) None puts
      (ap (λ x. plan_effect (slice_get old.statuses) old.hart.regs x 0) plan
      ∙ effect-trap (slice_get old.statuses) old.hart.regs trap)
      (record { hart_is = hart_is; statuses_are = refl; starts_is = refl; puts_are = none });
}

pub over-call : (code : CodeView) (old new : Beside) (starts : Option Launch) (puts : List ℕ) (p : Planned)
    → plan_of code old.hart.regs ≡ Ok p → is_call_access p.access ≡ true
    → waits (slice_get old.statuses) old.hart.regs ≡ false → MakesCall old new starts puts
    → IsOver code old new starts puts
over-call code old new starts puts p plan call goes_on makes = record {
  goes_on = waits-call code (slice_get old.statuses) old.hart.regs p plan call ∙ goes_on;
  quiet = ap is_quiet plan ∙ call;
  effect = has-effect (quiet_effect code old) (call_effect (slice_get old.statuses) old.hart.regs) old new starts puts
      (ap (λ x. plan_effect (slice_get old.statuses) old.hart.regs x 0) plan
      ∙ effect-call (slice_get old.statuses) old.hart.regs p call) makes;
}

-- ---- kernels

kernel-trap : (r : Regs) (trap : Trap)
    → kernel_effect r (Err trap) 0
    ≡ record { core = record { regs = r; status = Core_is.Trapped trap }; stores = []; puts = [] }
unfolding kernel_effect
kernel-trap r trap = refl

kernel-call : (r : Regs) (p : Planned) → is_call_access p.access ≡ true
    → kernel_effect r (Ok p) 0 ≡ kernel_call_effect r
unfolding kernel_effect
kernel-call r p call = rw call refl

pub kernel-over-trap : (code : CodeView) (r : Regs) (left : Core) (puts : List ℕ) (trap : Trap)
    → plan_of code r ≡ Err trap
    → left ≡ record { regs = r; status = Core_is.Trapped trap } → puts ≡ []
    → (is_quiet (plan_of code r) ≡ true) × HasKernelEffect (kernel_effect r (plan_of code r) 0) left puts
kernel-over-trap code r left puts trap plan left_is none = (
  ap is_quiet plan,
  rw (ap (λ x. kernel_effect r x 0) plan ∙ kernel-trap r trap) (record { core_is = left_is; puts_are = none }),
)

pub kernel-over-call : (code : CodeView) (r : Regs) (left : Core) (puts : List ℕ) (p : Planned) → plan_of code r ≡ Ok p
    → is_call_access p.access ≡ true
    → HasKernelEffect (kernel_call_effect r) left puts
    → (is_quiet (plan_of code r) ≡ true) × HasKernelEffect (kernel_effect r (plan_of code r) 0) left puts
kernel-over-call code r left puts p plan call h = (
  ap is_quiet plan ∙ call,
  rw (ap (λ x. kernel_effect r x 0) plan ∙ kernel-call r p call) h,
)
