-- Acts on flat memory are the try over that memory.
use Rattle.std.proofs.Common.{◌≡◌, ◌≤◌, ℕ, zero, suc, Bool, true, false, List, [], ◌++◌, length, refl, sym, ap, ◌∙◌, subst, arith, cond, eqb, Option, Some, None, append_assoc}
use mathlib.Core.Path.{fun_ext}
use Rattle.std.specs.Prelude.{All, IfSome}
use Rattle.std.proofs.lemmas.Bool.{eq-eqb, eqb-true}
use Rattle.std.proofs.lemmas.List.{append-nil}
use Rattle.rv32_hart.specs.Act.{plan_of}
use Rattle.offload_calls.specs.declared.status.Core.{Core}
use Rattle.offload_calls.specs.declared.status.CoreStatus.TheVariants as Core_is
use Rattle.offload_calls.specs.Stores.{Inside, overlay, byte_at}
use Rattle.offload_calls.specs.Effects.{Span, loads_of, span_value}
use Rattle.offload_calls.specs.State.{Setup, State, updated}
use Rattle.offload_calls.specs.CoreActs.{KernelEffect, kernel_effect, core_runs, core_effect, core_does, core_act_of, core_act, core_acts}
use Rattle.offload_calls.proofs.StoreLemmas.{overlay-append, byte_at-overlay, number_at-same}
use Rattle.offload_calls.proofs.SpanFacts.{SpanFits, loads-fit}
use Rattle.try_runs.specs.Tries.{Try, byte_seen, try_effect, acted, try_act, try_over}
use Rattle.try_runs.specs.Serial.{IsSetup, IsLong, after_try}
use Rattle.try_runs.proofs.TryFacts.{try_over-inside}

-- the value that flat memory gives is the one that the try sees over it
pub loaded_flat : (s : Setup) (f : State) (ws : List (ℕ × ℕ)) (o : Option Span) → IsLong s f
    → IfSome o (SpanFits s.code s.line_bytes) → All (Inside s.code.base (length s.code.bytes)) ws
    → span_value (byte_at s.code.base (overlay s.code.base f.memory ws)) o ≡ span_value (byte_seen (byte_at s.code.base f.memory) ws) o
loaded_flat s f ws None long h k = refl
loaded_flat s f ws (Some span) long h k =
    number_at-same (byte_at s.code.base (overlay s.code.base f.memory ws)) (byte_seen (byte_at s.code.base f.memory) ws) span.addr span.size
    (λ x l u. byte_at-overlay s.code.base f.memory ws x (subst (λ room. All (Inside s.code.base room) ws) (sym long) k) (omega (arith, h.from)))

pub updated-same : {A : Type 0} (f : ℕ → A) (j : ℕ) (x : A) → updated f j x j ≡ x
updated-same f j x = ap (λ b. cond b x (f j)) (eq-eqb j j refl)

pub updated_twice : {A : Type 0} (f : ℕ → A) (j : ℕ) (x y : A) → updated (updated f j x) j y ≡ updated f j y
updated_twice {A} f j x y = fun_ext (λ k. go k (eqb k j))
  where
    go : (k : ℕ) (b : Bool) → cond b y (cond b x (f k)) ≡ cond b y (f k)
    go k true = refl
    go k false = refl

pub updated_self : {A : Type 0} (f : ℕ → A) (j : ℕ) (x : A) → f j ≡ x → f ≡ updated f j x
updated_self {A} f j x same = fun_ext (λ k. go k (eqb k j) refl)
  where
    go : (k : ℕ) (b : Bool) → eqb k j ≡ b → f k ≡ cond b x (f k)
    go k true e = ap f (eqb-true k j e) ∙ same
    go k false e = refl

-- one act on the state with the try's effects
core_does-sim : (s : Setup) (f : State) (j : ℕ) (t : Try) (e : KernelEffect)
    → core_does s (after_try s f j t) j e ≡ after_try s f j (acted s.code s.line_bytes t e)
core_does-sim s f j t e =
    let memory : overlay s.code.base (overlay s.code.base f.memory t.stored) e.stores ≡ overlay s.code.base f.memory (t.stored ++ e.stores)
    = sym (overlay-append s.code.base f.memory t.stored e.stores) in
    let cores : updated (updated f.cores j t.core) j e.core ≡ updated f.cores j e.core = updated_twice f.cores j t.core e.core in
    let output : (f.output ++ t.held) ++ e.puts ≡ f.output ++ (t.held ++ e.puts) = append_assoc f.output t.held e.puts in
    λ i. record { memory = memory i; harts = f.harts; cores = cores i; output = output i }

core_act-sim : (s : Setup) (f : State) (j : ℕ) (t : Try) → IsSetup s → IsLong s f
    → All (Inside s.code.base (length s.code.bytes)) t.stored
    → core_act s (after_try s f j t) j ≡ after_try s f j (try_act s.code s.line_bytes (byte_at s.code.base f.memory) t)
unfolding core_act try_act
core_act-sim s f j t is long inside =
    ap (core_act_of s (after_try s f j t) j) (updated-same f.cores j t.core) ∙ go (core_runs t.core.status)
  where
    go : (b : Bool) → cond b (core_does s (after_try s f j t) j (core_effect s (overlay s.code.base f.memory t.stored) t.core.regs)) (after_try s f j t)
        ≡ after_try s f j (cond b (acted s.code s.line_bytes t (try_effect s.code (byte_at s.code.base f.memory) t)) t)
    go true =
        ap (λ v. core_does s (after_try s f j t) j (kernel_effect t.core.regs (plan_of s.code t.core.regs) v))
        (loaded_flat s f t.stored (loads_of (plan_of s.code t.core.regs)) long (loads-fit s.code s.line_bytes t.core.regs is.code is.size) inside)
        ∙ core_does-sim s f j t (try_effect s.code (byte_at s.code.base f.memory) t)
    go false = refl

-- n acts on flat memory are the try over the bytes of that memory
pub core_acts-sim : (s : Setup) (f : State) (j n : ℕ) → IsSetup s → IsLong s f → (f.cores j).status ≡ Core_is.Run
    → core_acts s f j n ≡ after_try s f j (try_over s.code s.line_bytes (byte_at s.code.base f.memory) (f.cores j).regs n)
unfolding core_acts try_over
core_acts-sim s f j zero is long run = λ i. record { memory = f.memory; harts = f.harts; cores = cores i; output = output i }
  where
    output : f.output ≡ f.output ++ []
    output = sym (append-nil f.output)

    core : Core
    core = record { regs = (f.cores j).regs; status = Core_is.Run }

    same : f.cores j ≡ core
    same = λ i. record { regs = (f.cores j).regs; status = run i }

    cores : f.cores ≡ updated f.cores j core
    cores = updated_self f.cores j core same
core_acts-sim s f j (suc n) is long run =
    ap (λ (g : State). core_act s g j) (core_acts-sim s f j n is long run)
    ∙ core_act-sim s f j (try_over s.code s.line_bytes (byte_at s.code.base f.memory) (f.cores j).regs n) is long
    (try_over-inside s.code s.line_bytes (byte_at s.code.base f.memory) (f.cores j).regs n is.code)
