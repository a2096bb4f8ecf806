-- What a step of a hart keeps, and what it makes of memory.
use Rattle.std.proofs.Common.{◌≡◌, ◌≢◌, ℕ, ◌+◌, ◌-◌, ◌<◌, ◌≤◌, ◌/◌, ◌%◌, List, [], ◌∷◌, length, refl, sym, ap, ◌∙◌, Bool, true, false, not, ◌&&◌, cond, eqb, ltb, Option, Some, None, Ok, Err}
use Rattle.std.specs.Prelude.{All, IfOk, Result, is_some}
use Rattle.std.proofs.lemmas.Bool.{eqb-true, cond_both, and_parts, true≢false}
use Rattle.std.proofs.lemmas.List.Elements.{All-nil}
use Rattle.rv32_hart.specs.declared.regs.Regs.{Regs}
use Rattle.rv32_hart.specs.declared.regs.Trap.{Trap}
use Rattle.rv32_hart.specs.declared.act.Access.{Access}
use Rattle.rv32_hart.specs.declared.act.Access.TheVariants as Access_is
use Rattle.rv32_hart.specs.declared.act.Planned.{Planned}
use Rattle.rv32_hart.specs.Code.{CodeView, IsCode}
use Rattle.rv32_hart.specs.Act.{IsPlan, AccessFits, plan_of, is_call_access, value_of}
use Rattle.rv32_hart.specs.Arithmetic.{amo_result}
use Rattle.rv32_hart.proofs.PlanFacts.{plan-fits}
use Rattle.offload_calls.specs.declared.status.Core.{Core}
use Rattle.offload_calls.specs.declared.status.CoreStatus.{CoreStatus}
use Rattle.offload_calls.specs.declared.status.CoreStatus.TheVariants as Core_is
use Rattle.offload_calls.specs.Calls.{is_idle, is_running, waits, launches, collects}
use Rattle.offload_calls.specs.Stores.{Inside, byte_at, latest}
use Rattle.offload_calls.specs.Effects.{stores_of_access, is_call, loads_of, span_value}
use Rattle.offload_calls.specs.State.{Setup, State, updated, status_of, launched_core}
use Rattle.offload_calls.specs.HartAct.{HartEffect, CoreChange, Stays, Starts, Rests, hart_runs, change_of_call, plan_effect, act_effect, waits_next, steps, cores_after, hart_does, hart_stores, hart_step}
use Rattle.offload_calls.proofs.StoreLemmas.{length-overlay, bytes_from-inside, byte_at-overlay}

-- ---- what an access stores lies in memory

pub stores_of_access-inside : (code : CodeView) (access : Access) (value : ℕ) → AccessFits code access
    → All (Inside code.base (length code.bytes)) (stores_of_access value access)
stores_of_access-inside code Access_is.Nothing value fits = All-nil (Inside code.base (length code.bytes))
stores_of_access-inside code (Access_is.Load addr size signed rd) value fits = All-nil (Inside code.base (length code.bytes))
stores_of_access-inside code (Access_is.Store addr size word) value fits =
    bytes_from-inside code.base (length code.bytes) addr size word fits.from fits.to
stores_of_access-inside code (Access_is.Amo addr op rd word) value fits =
    bytes_from-inside code.base (length code.bytes) addr 4 (amo_result op value word) fits.0.from fits.0.to
stores_of_access-inside code Access_is.Call value fits = All-nil (Inside code.base (length code.bytes))

plan_effect-inside : (code : CodeView) (cores : ℕ → Option CoreStatus) (r : Regs) (p : Result Planned Trap) (value : ℕ) → IfOk p (IsPlan code)
    → All (Inside code.base (length code.bytes)) (plan_effect cores r p value).stores
unfolding plan_effect
plan_effect-inside code cores r (Err trap) value fits = All-nil (Inside code.base (length code.bytes))
plan_effect-inside code cores r (Ok p) value fits =
    cond_both (is_call_access p.access) _ _ (λ (e : HartEffect). All (Inside code.base (length code.bytes)) e.stores)
    (λ _. All-nil (Inside code.base (length code.bytes)))
    (λ _. stores_of_access-inside code p.access value fits.access)

-- ---- near-data cores that are Run stay

updated-other : (cores : ℕ → Core) (j k : ℕ) (core : Core) → k ≢ j → updated cores j core k ≡ cores k
updated-other cores j k core other =
    cond_both (eqb k j) core (cores k) (λ c. c ≡ cores k) (λ e. absurd (other (eqb-true k j e))) (λ _. refl)

run_not_idle : (many j : ℕ) (cores : ℕ → Core) → (cores j).status ≡ Core_is.Run → is_idle (status_of many cores j) ≡ false
run_not_idle many j cores run =
    cond_both (ltb j many) (Some (cores j).status) None (λ o. is_idle o ≡ false) (λ _. ap (λ st. is_idle (Some st)) run) (λ _. refl)

run_is_running : (many j : ℕ) (cores : ℕ → Core) → (cores j).status ≡ Core_is.Run → is_some (status_of many cores j) ≡ is_running (status_of many cores j)
run_is_running many j cores run =
    cond_both (ltb j many) (Some (cores j).status) None (λ o. is_some o ≡ is_running o) (λ _. sym (ap (λ st. is_running (Some st)) run)) (λ _. refl)

-- a call that doesn't wait
call-running : (many : ℕ) (cores : ℕ → Core) (r : Regs) (k : ℕ) → waits (status_of many cores) r ≡ false → (cores k).status ≡ Core_is.Run
    → cores_after (change_of_call (status_of many cores) r) cores k ≡ cores k
call-running many cores r k goes_on run =
    let core : ℕ = value_of r 10 in
    let there : k ≡ core → (cores core).status ≡ Core_is.Run = λ same. sym (ap (λ j. (cores j).status) same) ∙ run in
    cond_both (launches (status_of many cores) r) (Starts core (value_of r 11) (value_of r 12)) (cond (collects (status_of many cores) r) (Rests core) Stays) (λ (change : CoreChange). cores_after change cores k ≡ cores k)
    (λ e. updated-other cores core k (launched_core (value_of r 11) (value_of r 12))
    (λ same. true≢false (sym (and_parts _ _ e).1 ∙ run_not_idle many core cores (there same))))
    (λ _. cond_both (collects (status_of many cores) r) (Rests core) Stays (λ (change : CoreChange). cores_after change cores k ≡ cores k)
    (λ e. updated-other cores core k (record { regs = (cores core).regs; status = Core_is.Idle })
    (λ same. true≢false (sym e ∙ ap (λ b. eqb (value_of r 17) 1001 && b) (run_is_running many core cores (there same)) ∙ goes_on)))
    (λ _. refl))

plan_effect-running : (many : ℕ) (cores : ℕ → Core) (r : Regs) (p : Result Planned Trap) (value k : ℕ)
    → (is_call p && waits (status_of many cores) r) ≡ false → (cores k).status ≡ Core_is.Run
    → cores_after (plan_effect (status_of many cores) r p value).change cores k ≡ cores k
unfolding plan_effect
plan_effect-running many cores r (Err trap) value k free run = refl
plan_effect-running many cores r (Ok p) value k free run =
    cond_both (is_call_access p.access) _ _ (λ (e : HartEffect). cores_after e.change cores k ≡ cores k)
    (λ call. call-running many cores r k (rw call at free) run)
    (λ _. refl)

-- ---- a step

-- what a step of hart h from `f` to `g`, which stores these bytes, keeps and changes
pub record StepFits (s : Setup) (f g : State) (h : ℕ) (stores : List (ℕ × ℕ)) : Type 0 where
  pub long : length g.memory ≡ length f.memory
  pub bytes : (addr : ℕ) → s.code.base ≤ addr → byte_at s.code.base g.memory addr ≡ latest stores addr (byte_at s.code.base f.memory addr)
  pub others : (k : ℕ) → k ≢ h → g.harts k ≡ f.harts k
  pub running : (k : ℕ) → (f.cores k).status ≡ Core_is.Run → g.cores k ≡ f.cores k

act-fits : (s : Setup) (f : State) (h : ℕ) → IsCode s.code → length f.memory ≡ length s.code.bytes
    → waits_next s.code (status_of s.cores f.cores) (f.harts h).regs ≡ false
    → (let e = act_effect s.code (status_of s.cores f.cores) f.memory (f.harts h).regs in StepFits s f (hart_does s f h e) h e.stores)
unfolding waits_next
act-fits s f h is long free =
    let see : ℕ → Option CoreStatus = status_of s.cores f.cores in
    let r : Regs = (f.harts h).regs in
    let value : ℕ = span_value (byte_at s.code.base f.memory) (loads_of (plan_of s.code r)) in
    let e : HartEffect = plan_effect see r (plan_of s.code r) value in
    let inside : All (Inside s.code.base (length s.code.bytes)) e.stores = plan_effect-inside s.code see r (plan_of s.code r) value (plan-fits s.code r is) in
    record {
      long = length-overlay s.code.base f.memory e.stores;
      bytes = λ addr from. byte_at-overlay s.code.base f.memory e.stores addr (rw long inside) from;
      others = λ k other. cond_both (eqb k h) e.hart (f.harts k) (λ x. x ≡ f.harts k) (λ same. absurd (other (eqb-true k h same))) (λ _. refl);
      running = λ k run. plan_effect-running s.cores f.cores r (plan_of s.code r) value k free run;
    }

-- for every hart, whether or not it makes an act
pub step-fits : (s : Setup) (f : State) (h : ℕ) → IsCode s.code → length f.memory ≡ length s.code.bytes
    → StepFits s f (hart_step s f h) h (hart_stores s f h)
unfolding hart_step
step-fits s f h is long = go (steps s.code (status_of s.cores f.cores) (f.harts h)) refl
  where
    e : HartEffect
    e = act_effect s.code (status_of s.cores f.cores) f.memory (f.harts h).regs

    free : (runs waiting : Bool) → (runs && not waiting) ≡ true → waiting ≡ false
    free true true h = absurd (true≢false (sym h))
    free true false h = refl
    free false waiting h = absurd (true≢false (sym h))

    go : (b : Bool) → steps s.code (status_of s.cores f.cores) (f.harts h) ≡ b
        → StepFits s f (cond b (hart_does s f h e) f) h (cond b e.stores [])
    go true makes = act-fits s f h is long (free (hart_runs (f.harts h).status) _ makes)
    go false ends = record { long = refl; bytes = λ addr from. refl; others = λ k other. refl; running = λ k run. refl }
