-- What an act loads and stores lies in memory and in one line. Nothing above this file looks at an instruction.
use Rattle.std.proofs.Common.{◌≡◌, ◌+◌, ◌-◌, ◌≤◌, ◌<◌, ℕ, length, sym, ap, ◌∙◌, arith, Result, Ok, Err}
use Rattle.std.specs.Prelude.{All, IfOk, IfSome}
use Rattle.std.proofs.lemmas.Bool.{cond_both}
use Rattle.std.proofs.lemmas.List.Elements.{All-nil}
use Rattle.conda_base.specs.Lines.{IsLineSize, line_number}
use Rattle.conda_base.proofs.LineLemmas.{access_in_line, line_number-add}
use Rattle.rv32_hart.specs.declared.regs.Regs.{Regs}
use Rattle.rv32_hart.specs.declared.regs.Trap.{Trap}
use Rattle.rv32_hart.specs.declared.act.Access.{Access}
use Rattle.rv32_hart.specs.declared.act.Access.TheVariants as Access_is
use Rattle.rv32_hart.specs.declared.act.Planned.{Planned}
use Rattle.rv32_hart.specs.Code.{CodeView, IsCode}
use Rattle.rv32_hart.specs.Act.{IsAccess, IsPlan, AccessFits, plan_of, is_call_access}
use Rattle.rv32_hart.proofs.PlanFacts.{plan-fits}
use Rattle.offload_calls.specs.Stores.{Inside}
use Rattle.offload_calls.specs.Effects.{Span, span_of_access, loads_of}
use Rattle.offload_calls.specs.CoreActs.{KernelEffect, kernel_effect}
use Rattle.offload_calls.proofs.HartFacts.{stores_of_access-inside}

pub record SpanFits (code : CodeView) (n : ℕ) (span : Span) : Type 0 where
  pub from : code.base ≤ span.addr
  pub to : span.addr + span.size ≤ code.base + length code.bytes
  pub one_line : (x : ℕ) → span.addr ≤ x → x < span.addr + span.size → line_number x n ≡ line_number span.addr n

pub access-span : (code : CodeView) (n addr size : ℕ) → IsLineSize n → IsAccess code addr size → SpanFits code n (record { addr = addr; size = size })
access-span code n addr size line a =
    let within = access_in_line addr size n line a.size a.aligned in
    record {
      from = a.from;
      to = a.to;
      one_line = λ x low high.
          let at : addr + (x - addr) ≡ x = omega arith in
          ap (λ y. line_number y n) (sym at) ∙ line_number-add addr (x - addr) n (omega arith);
    }

access-fits : (code : CodeView) (n : ℕ) (access : Access) → IsLineSize n → AccessFits code access → IfSome (span_of_access access) (SpanFits code n)
access-fits code n Access_is.Nothing line h = tt
access-fits code n (Access_is.Load addr size signed rd) line h = access-span code n addr size line h.0
access-fits code n (Access_is.Store addr size value) line h = tt
access-fits code n (Access_is.Amo addr op rd value) line h = access-span code n addr 4 line h.0
access-fits code n Access_is.Call line h = tt

span-fits : (code : CodeView) (n : ℕ) (p : Result Planned Trap) → IsLineSize n → IfOk p (IsPlan code) → IfSome (loads_of p) (SpanFits code n)
span-fits code n (Err trap) line h = tt
span-fits code n (Ok p) line h = access-fits code n p.access line h.access

pub loads-fit : (code : CodeView) (n : ℕ) (r : Regs) → IsCode code → IsLineSize n → IfSome (loads_of (plan_of code r)) (SpanFits code n)
loads-fit code n r is line = span-fits code n (plan_of code r) line (plan-fits code r is)

-- what an act of a kernel stores lies in memory
effect-inside : (code : CodeView) (r : Regs) (p : Result Planned Trap) (v : ℕ) → IfOk p (IsPlan code)
    → All (Inside code.base (length code.bytes)) (kernel_effect r p v).stores
unfolding kernel_effect
effect-inside code r (Err trap) v h = All-nil (Inside code.base (length code.bytes))
effect-inside code r (Ok p) v h =
    cond_both (is_call_access p.access) _ _ (λ (e : KernelEffect). All (Inside code.base (length code.bytes)) e.stores)
    (λ _. All-nil (Inside code.base (length code.bytes))) (λ _. stores_of_access-inside code p.access v h.access)

pub stores-inside : (code : CodeView) (r : Regs) (v : ℕ) → IsCode code → All (Inside code.base (length code.bytes)) (kernel_effect r (plan_of code r) v).stores
stores-inside code r v is = effect-inside code r (plan_of code r) v (plan-fits code r is)
