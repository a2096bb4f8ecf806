-- The addresses that acts load from outside and store lie on the lines that the try reads and stores to.
use Rattle.std.proofs.Common.{◌≡◌, ◌+◌, ◌<◌, ◌≤◌, ℕ, zero, suc, Bool, true, false, List, [], ◌∷◌, ◌++◌, length, refl, sym, ap, ◌∙◌, arith, ◌||◌, ◌&&◌, cond, not, map, Option, Some, None}
use Rattle.std.specs.Prelude.{All, IfSome}
use Rattle.std.specs.List.{filter}
use Rattle.std.proofs.lemmas.List.{map-append, append-nil}
use Rattle.std.proofs.lemmas.Bool.{true≢false}
use Rattle.conda_base.specs.declared.Line.{Line}
use Rattle.conda_base.specs.Lines.{line_number}
use Rattle.rv32_hart.specs.Code.{CodeView}
use Rattle.rv32_hart.specs.Act.{plan_of}
use Rattle.offload_calls.specs.declared.status.Core.{Core}
use Rattle.offload_calls.specs.declared.status.CoreStatus.TheVariants as Core_is
use Rattle.offload_calls.specs.Stores.{Inside, overlay, byte_at, is_listed, stored_addresses, addresses_from}
use Rattle.offload_calls.specs.Effects.{Span, loads_of, span_addresses}
use Rattle.offload_calls.specs.State.{Setup, State}
use Rattle.offload_calls.specs.CoreActs.{kernel_effect, core_effect, core_runs, core_acts, act_loads, act_stores, written, outside}
use Rattle.offload_calls.proofs.SpanFacts.{SpanFits, loads-fit}
use Rattle.conda_base.specs.LineLists.{line_at, same_line, names}
use Rattle.try_runs.specs.Tries.{Try, is_covered, outside_line, with_some_line, try_effect, acted, try_act, try_over}
use Rattle.try_runs.specs.Serial.{IsSetup, IsLong, after_try}
use Rattle.conda_base.proofs.LineListLemmas.{or_false, names-append, names-with_new}
use Rattle.try_runs.proofs.TryFacts.{try_over-inside}
use Rattle.try_runs.proofs.SerialLemmas.{updated-same, loaded_flat, core_acts-sim}

-- the stores of one act, on the state with the try's effects
stores_sim : (s : Setup) (f : State) (j : ℕ) (t : Try) → IsSetup s → IsLong s f → All (Inside s.code.base (length s.code.bytes)) t.stored
    → stored_addresses t.stored ++ act_stores s (after_try s f j t).memory ((after_try s f j t).cores j)
    ≡ stored_addresses (try_act s.code s.line_bytes (byte_at s.code.base f.memory) t).stored
unfolding try_act
stores_sim s f j t is long inside =
    ap (λ (core : Core). stored_addresses t.stored ++ act_stores s (overlay s.code.base f.memory t.stored) core) (updated-same f.cores j t.core)
    ∙ go (core_runs t.core.status)
  where
    go : (b : Bool)
        → stored_addresses t.stored ++ cond b (stored_addresses (core_effect s (overlay s.code.base f.memory t.stored) t.core.regs).stores) []
        ≡ stored_addresses (cond b (acted s.code s.line_bytes t (try_effect s.code (byte_at s.code.base f.memory) t)) t).stored
    go true =
        ap (λ v. stored_addresses t.stored ++ stored_addresses (kernel_effect t.core.regs (plan_of s.code t.core.regs) v).stores)
        (loaded_flat s f t.stored (loads_of (plan_of s.code t.core.regs)) long (loads-fit s.code s.line_bytes t.core.regs is.code is.size) inside)
        ∙ sym (map-append (λ (store : ℕ × ℕ). store.0) t.stored (try_effect s.code (byte_at s.code.base f.memory) t).stores)
    go false = append-nil (stored_addresses t.stored)

-- what the acts store is what the try stores
pub written-sim : (s : Setup) (f : State) (j n : ℕ) → IsSetup s → IsLong s f → (f.cores j).status ≡ Core_is.Run
    → written s f j n ≡ stored_addresses (try_over s.code s.line_bytes (byte_at s.code.base f.memory) (f.cores j).regs n).stored
unfolding written try_over
written-sim s f j zero is long run = refl
written-sim s f j (suc n) is long run =
    let t : Try = try_over s.code s.line_bytes (byte_at s.code.base f.memory) (f.cores j).regs n in
    ap (λ xs. xs ++ act_stores s (core_acts s f j n).memory ((core_acts s f j n).cores j)) (written-sim s f j n is long run)
    ∙ ap (λ (g : State). stored_addresses t.stored ++ act_stores s g.memory (g.cores j)) (core_acts-sim s f j n is long run)
    ∙ stores_sim s f j t is long (try_over-inside s.code s.line_bytes (byte_at s.code.base f.memory) (f.cores j).regs n is.code)

-- the lines of a span's addresses that no earlier act stored
span_lines : (n : ℕ) (wr : List ℕ) (ws : List (ℕ × ℕ)) (a size : ℕ) (m l : Line) → wr ≡ stored_addresses ws
    → ((x : ℕ) → a ≤ x → x < a + size → line_number x n ≡ m.0)
    → names (map (line_at n) (filter (λ x. not (is_listed wr x)) (addresses_from a size))) l ≡ (not (is_covered ws a size) && same_line m l)
span_lines n wr ws a zero m l same one = refl
span_lines n wr ws a (suc size) m l same one =
    go (is_listed wr a) (is_listed (stored_addresses ws) a) (ap (λ xs. is_listed xs a) same) (one a (omega arith) (omega arith))
    (span_lines n wr ws (suc a) size m l same (λ x k u. one x (omega arith) (omega arith)))
  where
    both : (e d : Bool) → (e || (d && e)) ≡ e
    both true d = refl
    both false true = refl
    both false false = refl

    rest : List ℕ
    rest = filter (λ x. not (is_listed wr x)) (addresses_from (suc a) size)

    go : (s t : Bool) → s ≡ t → line_number a n ≡ m.0
        → names (map (line_at n) rest) l ≡ (not (is_covered ws (suc a) size) && same_line m l)
        → names (map (line_at n) (cond (not s) (a ∷ rest) rest)) l ≡ (not (t && is_covered ws (suc a) size) && same_line m l)
    go true true e at ih = ih
    go false false e at ih =
        ap (λ b. same_line (line_at n a) l || b) ih
        ∙ ap (λ (k : ℕ). same_line (record { 0 = k }) l || (not (is_covered ws (suc a) size) && same_line m l)) at
        ∙ both (same_line m l) (not (is_covered ws (suc a) size))
    go true false e at ih = absurd (true≢false e)
    go false true e at ih = absurd (true≢false (sym e))

names-with_line : (n : ℕ) (ls : List Line) (ws : List (ℕ × ℕ)) (o : Option Span) (wr : List ℕ) (l : Line)
    → IfSome o (λ (span : Span). (x : ℕ) → span.addr ≤ x → x < span.addr + span.size → line_number x n ≡ line_number span.addr n)
    → wr ≡ stored_addresses ws
    → (names ls l || names (map (line_at n) (filter (λ x. not (is_listed wr x)) (span_addresses o))) l) ≡ names (with_some_line ls (outside_line n ws o)) l
names-with_line n ls ws None wr l one same = or_false (names ls l)
names-with_line n ls ws (Some span) wr l one same =
    ap (λ b. names ls l || b) (span_lines n wr ws span.addr span.size (line_at n span.addr) l same one) ∙ go (is_covered ws span.addr span.size)
  where
    go : (t : Bool) → (names ls l || (not t && same_line (line_at n span.addr) l)) ≡ names (with_some_line ls (cond t None (Some (line_at n span.addr)))) l
    go true = or_false (names ls l)
    go false = sym (names-with_new ls (line_at n span.addr) l)

one_line : (code : CodeView) (n : ℕ) (o : Option Span) → IfSome o (SpanFits code n)
    → IfSome o (λ (span : Span). (x : ℕ) → span.addr ≤ x → x < span.addr + span.size → line_number x n ≡ line_number span.addr n)
one_line code n None h = tt
one_line code n (Some span) h = h.one_line

reads_sim : (s : Setup) (f : State) (j : ℕ) (t : Try) (below : ℕ → ℕ) (wr : List ℕ) (l : Line) → IsSetup s → wr ≡ stored_addresses t.stored
    → (names t.reads l || names (map (line_at s.line_bytes) (filter (λ x. not (is_listed wr x)) (act_loads s ((after_try s f j t).cores j)))) l)
    ≡ names (try_act s.code s.line_bytes below t).reads l
unfolding try_act
reads_sim s f j t below wr l is same =
    ap (λ (core : Core). names t.reads l || names (map (line_at s.line_bytes) (filter (λ x. not (is_listed wr x)) (act_loads s core))) l) (updated-same f.cores j t.core)
    ∙ go (core_runs t.core.status)
  where
    go : (b : Bool)
        → (names t.reads l || names (map (line_at s.line_bytes) (filter (λ x. not (is_listed wr x)) (cond b (span_addresses (loads_of (plan_of s.code t.core.regs))) []))) l)
        ≡ names (cond b (acted s.code s.line_bytes t (try_effect s.code below t)) t).reads l
    go true =
        names-with_line s.line_bytes t.reads t.stored (loads_of (plan_of s.code t.core.regs)) wr l
        (one_line s.code s.line_bytes (loads_of (plan_of s.code t.core.regs)) (loads-fit s.code s.line_bytes t.core.regs is.code is.size)) same
    go false = or_false (names t.reads l)

-- the lines of outside loads are those that the try reads
pub outside-sim : (s : Setup) (f : State) (j n : ℕ) (l : Line) → IsSetup s → IsLong s f → (f.cores j).status ≡ Core_is.Run
    → names (map (line_at s.line_bytes) (outside s f j n)) l ≡ names (try_over s.code s.line_bytes (byte_at s.code.base f.memory) (f.cores j).regs n).reads l
unfolding outside try_over
outside-sim s f j zero l is long run = refl
outside-sim s f j (suc n) l is long run =
    let t : Try = try_over s.code s.line_bytes (byte_at s.code.base f.memory) (f.cores j).regs n in
    let more : List ℕ = filter (λ a. not (is_listed (written s f j n) a)) (act_loads s ((core_acts s f j n).cores j)) in
    ap (λ xs. names xs l) (map-append (line_at s.line_bytes) (outside s f j n) more)
    ∙ names-append (map (line_at s.line_bytes) (outside s f j n)) (map (line_at s.line_bytes) more) l
    ∙ ap (λ b. b || names (map (line_at s.line_bytes) more) l) (outside-sim s f j n l is long run)
    ∙ ap (λ (g : State). names t.reads l || names (map (line_at s.line_bytes) (filter (λ a. not (is_listed (written s f j n) a)) (act_loads s (g.cores j)))) l) (core_acts-sim s f j n is long run)
    ∙ reads_sim s f j t (byte_at s.code.base f.memory) (written s f j n) l is (written-sim s f j n is long run)
