-- Where a step of a hart stores: on the line of its access.
use Rattle.std.proofs.Common.{◌≡◌, ◌+◌, ◌<◌, ◌≤◌, ◌/◌, ◌%◌, ℕ, zero, suc, Bool, true, false, ◌||◌, cond, List, [], ◌∷◌, refl, sym, ap, arith, Option, Result, Ok, Err}
use Rattle.std.specs.Prelude.{All, IfOk}
use Rattle.std.proofs.lemmas.Bool.{cond_both, eq-eqb}
use Rattle.std.proofs.lemmas.List.Elements.{All-nil, All-cons}
use Rattle.conda_base.specs.declared.Line.{Line}
use Rattle.conda_base.specs.Lines.{IsLineSize, line_number}
use Rattle.conda_base.specs.LineLists.{line_at, names, line_list}
use Rattle.rv32_hart.specs.declared.regs.Regs.{Regs}
use Rattle.rv32_hart.specs.declared.regs.Trap.{Trap}
use Rattle.rv32_hart.specs.declared.act.Access.{Access}
use Rattle.rv32_hart.specs.declared.act.Access.TheVariants as Access_is
use Rattle.rv32_hart.specs.declared.act.Planned.{Planned}
use Rattle.rv32_hart.specs.Code.{CodeView, IsCode}
use Rattle.rv32_hart.specs.Arithmetic.{amo_result}
use Rattle.rv32_hart.specs.Act.{IsPlan, AccessFits, plan_of, is_call_access}
use Rattle.rv32_hart.proofs.PlanFacts.{plan-fits}
use Rattle.offload_calls.specs.declared.status.CoreStatus.{CoreStatus}
use Rattle.offload_calls.specs.Stores.{bytes_from, overlay}
use Rattle.offload_calls.specs.Effects.{stores_of_access}
use Rattle.offload_calls.specs.LineUses.{line_use, use_of_access, stored_line}
use Rattle.offload_calls.specs.State.{Setup, State, status_of}
use Rattle.offload_calls.specs.HartAct.{HartEffect, plan_effect, act_effect, steps, hart_step, hart_stores, hart_does}
use Rattle.offload_calls.proofs.SpanFacts.{access-span}

-- a store at base or above, to one of these lines
abbrev pub OnLines : ℕ → ℕ → List Line → ℕ × ℕ → Type 0
OnLines base n lines store = (base ≤ store.0) × (names lines (line_at n store.0) ≡ true)

bytes_from-on : (base n addr size value : ℕ) (l : Line) → base ≤ addr → ((x : ℕ) → addr ≤ x → x < addr + size → line_number x n ≡ l.0)
    → All (OnLines base n (l ∷ [])) (bytes_from addr size value)
bytes_from-on base n addr zero value l low at = All-nil (OnLines base n (l ∷ []))
bytes_from-on base n addr (suc size) value l low at =
    All-cons (OnLines base n (l ∷ [])) (addr, value % 256) (bytes_from (suc addr) size (value / 256))
    (low, named (at addr (omega arith) (omega arith)))
    (bytes_from-on base n (suc addr) size (value / 256) l (omega arith) (λ x lo hi. at x (omega arith) (omega arith)))
  where
    named : line_number addr n ≡ l.0 → names (l ∷ []) (line_at n addr) ≡ true
    named e = ap (λ b. b || false) (eq-eqb l.0 (line_number addr n) (sym e))

stores-on : (code : CodeView) (n : ℕ) (access : Access) (v : ℕ) → IsLineSize n → AccessFits code access
    → All (OnLines code.base n (line_list (stored_line (use_of_access n access)))) (stores_of_access v access)
stores-on code n Access_is.Nothing v line h = All-nil _
stores-on code n (Access_is.Load addr size signed rd) v line h = All-nil _
stores-on code n (Access_is.Store addr size value) v line h =
    let fits = access-span code n addr size line h in
    bytes_from-on code.base n addr size value (line_at n addr) fits.from fits.one_line
stores-on code n (Access_is.Amo addr op rd value) v line h =
    let fits = access-span code n addr 4 line h.0 in
    bytes_from-on code.base n addr 4 (amo_result op v value) (line_at n addr) fits.from fits.one_line
stores-on code n Access_is.Call v line h = All-nil _

-- what an act of a hart stores lies on the line that its access stores to
plan_effect-on : (code : CodeView) (n : ℕ) (cores : ℕ → Option CoreStatus) (r : Regs) (p : Result Planned Trap) (v : ℕ) → IsLineSize n
    → IfOk p (IsPlan code) → All (OnLines code.base n (line_list (stored_line (line_use n p)))) (plan_effect cores r p v).stores
unfolding plan_effect line_use
plan_effect-on code n cores r (Err trap) v line h = All-nil _
plan_effect-on code n cores r (Ok p) v line h =
    cond_both (is_call_access p.access) _ _
    (λ (e : HartEffect). All (OnLines code.base n (line_list (stored_line (use_of_access n p.access)))) e.stores)
    (λ _. All-nil _) (λ _. stores-on code n p.access v line h.access)

hart_stores-on : (code : CodeView) (n : ℕ) (cores : ℕ → Option CoreStatus) (r : Regs) (v : ℕ) → IsCode code → IsLineSize n
    → All (OnLines code.base n (line_list (stored_line (line_use n (plan_of code r))))) (plan_effect cores r (plan_of code r) v).stores
hart_stores-on code n cores r v is line = plan_effect-on code n cores r (plan_of code r) v line (plan-fits code r is)

-- ---- a step

-- the lines that the next act of hart h stores to
abbrev pub hart_lines : Setup → State → ℕ → List Line
hart_lines s f h = line_list (stored_line (line_use s.line_bytes (plan_of s.code (f.harts h).regs)))

-- a step's stores lie on the line of its access
pub step_stores-on : (s : Setup) (f : State) (h : ℕ) → IsCode s.code → IsLineSize s.line_bytes → All (OnLines s.code.base s.line_bytes (hart_lines s f h)) (hart_stores s f h)
step_stores-on s f h is line =
    cond_both (steps s.code (status_of s.cores f.cores) (f.harts h)) (act_effect s.code (status_of s.cores f.cores) f.memory (f.harts h).regs).stores []
    (All (OnLines s.code.base s.line_bytes (hart_lines s f h)))
    (λ _. hart_stores-on s.code s.line_bytes (status_of s.cores f.cores) (f.harts h).regs _ is line) (λ _. All-nil _)

-- a step's memory is that before with its stores laid over it
pub step-memory : (s : Setup) (f : State) (h : ℕ) → (hart_step s f h).memory ≡ overlay s.code.base f.memory (hart_stores s f h)
unfolding hart_step
step-memory s f h = go (steps s.code (status_of s.cores f.cores) (f.harts h))
  where
    e : HartEffect
    e = act_effect s.code (status_of s.cores f.cores) f.memory (f.harts h).regs

    go : (b : Bool) → (cond b (hart_does s f h e) f).memory ≡ overlay s.code.base f.memory (cond b e.stores [])
    go true = refl
    go false = refl
