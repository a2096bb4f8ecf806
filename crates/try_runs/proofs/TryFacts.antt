-- Tries over two readers of bytes, where tries store, and how they stand.
use Rattle.std.proofs.Common.{◌≡◌, ◌≤◌, ◌<◌, ◌+◌, ℕ, zero, suc, Bool, true, false, List, length, refl, sym, ap, ◌∙◌, subst, arith, cond, eqb, Option, Some, None, Result, Ok, Err}
use Rattle.std.specs.Prelude.{All, IfSome, slice_index}
use Rattle.std.proofs.lemmas.Bool.{cond_both, or_left, eqb-true, both_ways}
use Rattle.std.proofs.lemmas.List.Elements.{All-nil, All-append}
use Rattle.conda_base.specs.declared.Line.{Line}
use Rattle.conda_base.specs.Lines.{IsLineSize, line_offset}
use Rattle.conda_base.specs.LineLists.{line_at, names, with_new}
use Rattle.rv32_hart.specs.declared.regs.Regs.{Regs}
use Rattle.rv32_hart.specs.declared.regs.Trap.{Trap}
use Rattle.rv32_hart.specs.declared.act.Planned.{Planned}
use Rattle.rv32_hart.specs.Code.{CodeView, IsCode}
use Rattle.rv32_hart.specs.Act.{value_of, is_call_access}
use Rattle.offload_calls.specs.declared.serve.Kernel.{Kernel}
use Rattle.offload_calls.specs.Calls.{is_idle}
use Rattle.offload_calls.specs.Stores.{Inside, latest, number_at}
use Rattle.offload_calls.specs.Effects.{Span, loads_of, span_value}
use Rattle.offload_calls.specs.CoreActs.{KernelEffect, kernel_effect, status_after_kernel_call, core_runs}
use Rattle.offload_calls.proofs.StoreLemmas.{latest_stored, number_at-same}
use Rattle.offload_calls.proofs.SpanFacts.{SpanFits, loads-fit, stores-inside}
use Rattle.try_runs.specs.Tries.{Try, is_covered, outside_line, with_some_line, byte_seen, next_plan, next_outside, try_effect, acted, try_act, try_over}
use Rattle.try_runs.specs.Fills.{Fills, byte_of, new_line, fills_with, try_run}
use Rattle.conda_base.proofs.LineListLemmas.{names-same, names-with_new, names-itself}
use Rattle.try_runs.proofs.StoreFacts.{are_stored_at}

-- two readers agree on these lines, from an address on
pub record Agree (low n : ℕ) (one two : ℕ → ℕ) (lines : List Line) : Type 0 where
  pub at : (a : ℕ) → low ≤ a → names lines (line_at n a) ≡ true → one a ≡ two a

-- lines once read stay read
names-with_line : (ls : List Line) (o : Option Line) (l : Line) → names ls l ≡ true → names (with_some_line ls o) l ≡ true
names-with_line ls None l h = h
names-with_line ls (Some n) l h = names-with_new ls n l ∙ or_left _ _ h

reads_stay : (code : CodeView) (n : ℕ) (below : ℕ → ℕ) (t : Try) (l : Line) → names t.reads l ≡ true → names (try_act code n below t).reads l ≡ true
unfolding try_act
reads_stay code n below t l h =
    cond_both (core_runs t.core.status) (acted code n t (try_effect code below t)) t (λ (u : Try). names u.reads l ≡ true)
    (λ _. names-with_line t.reads (next_outside code n t) l h) (λ _. h)

-- a load reads one value over readers that agree on its line
loaded_agree : (code : CodeView) (n : ℕ) (one two : ℕ → ℕ) (ws : List (ℕ × ℕ)) (ls : List Line) (o : Option Span)
    → IfSome o (SpanFits code n) → Agree code.base n one two (with_some_line ls (outside_line n ws o))
    → span_value (byte_seen one ws) o ≡ span_value (byte_seen two ws) o
loaded_agree code n one two ws ls None h g = refl
loaded_agree code n one two ws ls (Some s) h g = go (is_covered ws s.addr s.size) refl g
  where
    go : (t : Bool) → is_covered ws s.addr s.size ≡ t → Agree code.base n one two (with_some_line ls (cond t None (Some (line_at n s.addr))))
        → number_at (byte_seen one ws) s.addr s.size ≡ number_at (byte_seen two ws) s.addr s.size
    go true e g =
        number_at-same (byte_seen one ws) (byte_seen two ws) s.addr s.size (λ x l u. latest_stored ws x (one x) (two x) (are_stored_at ws s.addr s.size x e l u))
    go false e g =
        number_at-same (byte_seen one ws) (byte_seen two ws) s.addr s.size
        (λ x l u. ap (latest ws x) (g.at x (omega (arith, h.from))
        (subst (λ m. names (with_new ls (line_at n s.addr)) (record { 0 = m }) ≡ true) (sym (h.one_line x l u)) (names-itself ls (line_at n s.addr)))))

try_act-agree : (code : CodeView) (n : ℕ) (one two : ℕ → ℕ) (t : Try) → IsCode code → IsLineSize n → Agree code.base n one two (try_act code n one t).reads
    → try_act code n one t ≡ try_act code n two t
unfolding try_act
try_act-agree code n one two t is line g = go (core_runs t.core.status) g
  where
    go : (s : Bool) → Agree code.base n one two (cond s (acted code n t (try_effect code one t)) t).reads
        → cond s (acted code n t (try_effect code one t)) t ≡ cond s (acted code n t (try_effect code two t)) t
    go true g =
        ap (λ v. acted code n t (kernel_effect t.core.regs (next_plan code t) v))
        (loaded_agree code n one two t.stored t.reads (loads_of (next_plan code t)) (loads-fit code n t.core.regs is line) g)
    go false g = refl

-- a try is the same over readers that agree on the lines that it read
pub try_over-agree : (code : CodeView) (n : ℕ) (one two : ℕ → ℕ) (r : Regs) (k : ℕ) → IsCode code → IsLineSize n
    → Agree code.base n one two (try_over code n one r k).reads → try_over code n one r k ≡ try_over code n two r k
unfolding try_over
try_over-agree code n one two r zero is line g = refl
try_over-agree code n one two r (suc k) is line g =
    try_act-agree code n one two (try_over code n one r k) is line g
    ∙ ap (try_act code n two)
    (try_over-agree code n one two r k is line (record { at = λ a low h. g.at a low (reads_stay code n one (try_over code n one r k) (line_at n a) h) }))

-- the stores of a try lie in memory
try_act-inside : (code : CodeView) (n : ℕ) (below : ℕ → ℕ) (t : Try) → IsCode code → All (Inside code.base (length code.bytes)) t.stored
    → All (Inside code.base (length code.bytes)) (try_act code n below t).stored
unfolding try_act
try_act-inside code n below t is h =
    cond_both (core_runs t.core.status) (acted code n t (try_effect code below t)) t (λ (u : Try). All (Inside code.base (length code.bytes)) u.stored)
    (λ _. All-append (Inside code.base (length code.bytes)) t.stored (try_effect code below t).stores h (stores-inside code t.core.regs _ is))
    (λ _. h)

pub try_over-inside : (code : CodeView) (n : ℕ) (below : ℕ → ℕ) (r : Regs) (k : ℕ) → IsCode code → All (Inside code.base (length code.bytes)) (try_over code n below r k).stored
unfolding try_over
try_over-inside code n below r zero is = All-nil (Inside code.base (length code.bytes))
try_over-inside code n below r (suc k) is = try_act-inside code n below (try_over code n below r k) is (try_over-inside code n below r k is)

-- ---- fills

-- a fill of a line that wasn't read changes nothing that was
pub fills-agree : (low n : ℕ) (copies : Line → List ℕ) (fills : Fills) (lines : List Line) (o : Option Line)
    → Agree low n (byte_of n fills) (byte_of n (fills_with fills copies (new_line lines o))) lines
fills-agree low n copies fills lines None = record { at = λ a from h. refl }
fills-agree low n copies fills lines (Some l) = record { at = λ a from h. go a h (names lines l) refl }
  where
    go : (a : ℕ) → names lines (line_at n a) ≡ true → (b : Bool) → names lines l ≡ b
        → byte_of n fills a ≡ byte_of n (fills_with fills copies (cond b None (Some l))) a
    go a h true e = refl
    go a h false e = other (eqb (line_at n a).0 l.0) refl
      where
        other : (b : Bool) → eqb (line_at n a).0 l.0 ≡ b
            → slice_index (fills (line_at n a)) (line_offset a n) ≡ slice_index (cond b (copies (line_at n a)) (fills (line_at n a))) (line_offset a n)
        other true d = absurd (both_ways _ (names-same lines (line_at n a) l (eqb-true _ _ d) ∙ e) h)
        other false d = refl

-- ---- a try's core is never idle

effect-status : (r : Regs) (p : Result Planned Trap) (v : ℕ) → is_idle (Some (kernel_effect r p v).core.status) ≡ false
unfolding kernel_effect
effect-status r (Err trap) v = refl
effect-status r (Ok p) v =
    cond_both (is_call_access p.access) _ _ (λ (e : KernelEffect). is_idle (Some e.core.status) ≡ false)
    (λ _. cond_both (eqb (value_of r 17) 1003) _ _ (λ (k : Kernel). is_idle (Some (status_after_kernel_call k)) ≡ false) (λ _. refl)
    (λ _. cond_both (eqb (value_of r 17) 1004) _ _ (λ (k : Kernel). is_idle (Some (status_after_kernel_call k)) ≡ false) (λ _. refl) (λ _. refl)))
    (λ _. refl)

try_act-status : (code : CodeView) (n : ℕ) (below : ℕ → ℕ) (t : Try) → is_idle (Some t.core.status) ≡ false → is_idle (Some (try_act code n below t).core.status) ≡ false
unfolding try_act
try_act-status code n below t h =
    cond_both (core_runs t.core.status) (acted code n t (try_effect code below t)) t (λ (u : Try). is_idle (Some u.core.status) ≡ false)
    (λ _. effect-status t.core.regs (next_plan code t) _) (λ _. h)

pub try_over-status : (code : CodeView) (n : ℕ) (below : ℕ → ℕ) (r : Regs) (k : ℕ) → is_idle (Some (try_over code n below r k).core.status) ≡ false
unfolding try_over
try_over-status code n below r zero = refl
try_over-status code n below r (suc k) = try_act-status code n below (try_over code n below r k) (try_over-status code n below r k)

-- ---- portions

pub try_run-depends : (code : CodeView) (n : ℕ) (r : Regs) (fills other : Fills) (acts : ℕ) → IsCode code → IsLineSize n
    → ((l : Line) → names (try_run code n r fills acts).reads l ≡ true → fills l ≡ other l)
    → try_run code n r fills acts ≡ try_run code n r other acts
try_run-depends code n r fills other acts is line same =
    try_over-agree code n (byte_of n fills) (byte_of n other) r acts is line
    (record { at = λ a low h. ap (λ xs. slice_index xs (line_offset a n)) (same (line_at n a) h) })

pub try_run-inside : (code : CodeView) (n : ℕ) (r : Regs) (fills : Fills) (acts : ℕ) → IsCode code
    → All (Inside code.base (length code.bytes)) (try_run code n r fills acts).stored
try_run-inside code n r fills acts is = try_over-inside code n (byte_of n fills) r acts is

pub try_run-status : (code : CodeView) (n : ℕ) (r : Regs) (fills : Fills) (acts : ℕ) → is_idle (Some (try_run code n r fills acts).core.status) ≡ false
try_run-status code n r fills acts = try_over-status code n (byte_of n fills) r acts
