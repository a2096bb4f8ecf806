-- The effect of an act of a hart, by its plan.
use Rattle.std.proofs.Common.{◌≡◌, ℕ, true, false, not, cond, List, [], refl, sym, ap, ◌∙◌, ◌&&◌, Option, Result, Ok, Err}
use Rattle.std.proofs.lemmas.Bool.{false≢true, cond_both}
use Rattle.rv32_hart.specs.declared.regs.Regs.{Regs}
use Rattle.rv32_hart.specs.declared.regs.Trap.{Trap}
use Rattle.rv32_hart.specs.declared.act.Planned.{Planned}
use Rattle.rv32_hart.specs.Code.{CodeView}
use Rattle.rv32_hart.specs.Act.{plan_of, is_call_access}
use Rattle.offload_calls.specs.Calls.{waits}
use Rattle.offload_calls.specs.Stores.{byte_at}
use Rattle.offload_calls.specs.Effects.{loads_of, is_call, span_of_access, span_value, stores_of_access}
use Rattle.offload_calls.specs.declared.status.Hart.{Hart}
use Rattle.offload_calls.specs.declared.status.HartStatus.{HartStatus}
use Rattle.offload_calls.specs.declared.status.HartStatus.TheVariants as Hart_is
use Rattle.offload_calls.specs.declared.status.CoreStatus.{CoreStatus}
use Rattle.offload_calls.specs.HartAct.{HartEffect, Stays, hart_runs, plan_effect, act_effect, call_effect, instr_effect, waits_next, steps}
use Rattle.offload_calls.specs.Stores.{stored_addresses}
use Rattle.flat_check.specs.Acts.{access_of, stored_by}
use Rattle.flat_check.specs.HartActs.{turn_effect, stay_effect}
use Rattle.flat_check.proofs.StepFacts.{call_stores, stored_access}

abbrev by_plan : (ℕ → Option CoreStatus) → List ℕ → CodeView → Regs → Result Planned Trap → HartEffect
by_plan cores memory code r plan = plan_effect cores r plan (span_value (byte_at code.base memory) (loads_of plan))

abbrev pub trap_effect : Regs → Trap → HartEffect
trap_effect r t = record { hart = record { regs = r; status = Hart_is.Trapped t }; change = Stays; stores = []; puts = [] }

pub hart-trap : (code : CodeView) (cores : ℕ → Option CoreStatus) (memory : List ℕ) (r : Regs) (t : Trap) → plan_of code r ≡ Err t
    → act_effect code cores memory r ≡ trap_effect r t
unfolding plan_effect
hart-trap code cores memory r t plan = ap (by_plan cores memory code r) plan

pub hart-called : (code : CodeView) (cores : ℕ → Option CoreStatus) (memory : List ℕ) (r : Regs) (p : Planned) → plan_of code r ≡ Ok p → is_call_access p.access ≡ true
    → act_effect code cores memory r ≡ call_effect cores r
unfolding plan_effect
hart-called code cores memory r p plan call =
    ap (by_plan cores memory code r) plan
    ∙ ap (λ b. cond b (call_effect cores r) (instr_effect r p.instr (span_value (byte_at code.base memory) (span_of_access p.access))
    (stores_of_access (span_value (byte_at code.base memory) (span_of_access p.access)) p.access))) call

pub hart-plain : (code : CodeView) (cores : ℕ → Option CoreStatus) (memory : List ℕ) (r : Regs) (p : Planned) → plan_of code r ≡ Ok p → is_call_access p.access ≡ false
    → act_effect code cores memory r ≡ instr_effect r p.instr (span_value (byte_at code.base memory) (span_of_access p.access))
    (stores_of_access (span_value (byte_at code.base memory) (span_of_access p.access)) p.access)
unfolding plan_effect
hart-plain code cores memory r p plan call =
    ap (by_plan cores memory code r) plan
    ∙ ap (λ b. cond b (call_effect cores r) (instr_effect r p.instr (span_value (byte_at code.base memory) (span_of_access p.access))
    (stores_of_access (span_value (byte_at code.base memory) (span_of_access p.access)) p.access))) call

-- a call that doesn't wait
pub goes_on : (code : CodeView) (cores : ℕ → Option CoreStatus) (r : Regs) (p : Planned) → plan_of code r ≡ Ok p → is_call_access p.access ≡ true
    → waits_next code cores r ≡ false → waits cores r ≡ false
unfolding waits_next
goes_on code cores r p plan call free = sym (ap (λ b. b && waits cores r) call) ∙ sym (ap (λ x. is_call x && waits cores r) plan) ∙ free

-- a hart that runs
pub run_is : (now : Hart) (then : Regs) → hart_runs now.status ≡ true → now.regs ≡ then → now ≡ record { regs = then; status = Hart_is.Run }
run_is now then runs e = go now.status runs refl
  where
    go : (status : HartStatus) → hart_runs status ≡ true → now.status ≡ status → now ≡ record { regs = then; status = Hart_is.Run }
    go Hart_is.Run h same = λ i. record { regs = e i; status = same i }
    go (Hart_is.Exit v) h same = absurd (false≢true h)
    go (Hart_is.Trapped t) h same = absurd (false≢true h)

-- ---- a hart's turn

turn-still : (code : CodeView) (cores : ℕ → Option CoreStatus) (memory : List ℕ) (hart : Hart) → steps code cores hart ≡ false → turn_effect code cores memory hart ≡ stay_effect hart
turn-still code cores memory hart none = ap (λ b. cond b (act_effect code cores memory hart.regs) (stay_effect hart)) none

pub turn-ended : (code : CodeView) (cores : ℕ → Option CoreStatus) (memory : List ℕ) (hart : Hart) → hart_runs hart.status ≡ false → turn_effect code cores memory hart ≡ stay_effect hart
turn-ended code cores memory hart ended = turn-still code cores memory hart (ap (λ b. b && not (waits_next code cores hart.regs)) ended)

pub turn-waits : (code : CodeView) (cores : ℕ → Option CoreStatus) (memory : List ℕ) (hart : Hart) → hart_runs hart.status ≡ true → waits_next code cores hart.regs ≡ true
    → turn_effect code cores memory hart ≡ stay_effect hart
turn-waits code cores memory hart runs waits = turn-still code cores memory hart (ap (λ b. b && not (waits_next code cores hart.regs)) runs ∙ ap not waits)

pub turn-acts : (code : CodeView) (cores : ℕ → Option CoreStatus) (memory : List ℕ) (hart : Hart) → hart_runs hart.status ≡ true → waits_next code cores hart.regs ≡ false
    → turn_effect code cores memory hart ≡ act_effect code cores memory hart.regs
turn-acts code cores memory hart runs goes =
    ap (λ b. cond b (act_effect code cores memory hart.regs) (stay_effect hart)) (ap (λ b. b && not (waits_next code cores hart.regs)) runs ∙ ap not goes)

pub waits-err : (code : CodeView) (cores : ℕ → Option CoreStatus) (r : Regs) (t : Trap) → plan_of code r ≡ Err t → waits_next code cores r ≡ false
unfolding waits_next
waits-err code cores r t plan = ap (λ x. is_call x && waits cores r) plan

pub waits-ok : (code : CodeView) (cores : ℕ → Option CoreStatus) (r : Regs) (p : Planned) → plan_of code r ≡ Ok p → waits_next code cores r ≡ (is_call_access p.access && waits cores r)
unfolding waits_next
waits-ok code cores r p plan = ap (λ x. is_call x && waits cores r) plan

-- what an act of a hart stores, its access stores
pub hart_effect-stores : (cores : ℕ → Option CoreStatus) (r : Regs) (p : Result Planned Trap) (v : ℕ) → stored_addresses (plan_effect cores r p v).stores ≡ stored_by (access_of p)
unfolding plan_effect
hart_effect-stores cores r (Err t) v = refl
hart_effect-stores cores r (Ok p) v =
    cond_both (is_call_access p.access) (call_effect cores r) (instr_effect r p.instr v (stores_of_access v p.access)) (λ (e : HartEffect). stored_addresses e.stores ≡ stored_by p.access)
    (λ call. call_stores p.access call) (λ _. stored_access v p.access)
