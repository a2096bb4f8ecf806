-- Lines that lie in memory: those that are dirty, and those that a try fills.
use Rattle.std.proofs.Common.{◌≡◌, ℕ, zero, suc, ◌<◌, ◌≤◌, ◌+◌, Bool, true, false, List, [], ◌∷◌, length, cond, refl, sym, ◌∙◌, subst, arith, Option, Some, None, ◌⊎◌, inl, inr}
use Rattle.std.specs.Prelude.{All}
use Rattle.std.specs.Option.{IfSome}
use Rattle.std.proofs.lemmas.Bool.{false≢true, or_cases}
use Rattle.std.proofs.lemmas.List.Elements.{All-head, All-tail}
use Rattle.std.proofs.Math.Path.{fun_ext}
use Rattle.conda_base.specs.declared.Line.{Line}
use Rattle.conda_base.proofs.LineLemmas.{line_in_memory}
use Rattle.line_memory.specs.Tags.{Tag, is_modified, modified, each_below}
use Rattle.line_memory.specs.Backing.{BackingView, IsBacking, IsInRange}
use Rattle.rv32_hart.specs.Code.{CodeView, IsCode}
use Rattle.rv32_hart.specs.Act.{plan_of}
use Rattle.offload_calls.specs.Effects.{Span, loads_of}
use Rattle.conda_base.specs.LineLists.{names, same_line, line_at}
use Rattle.try_runs.specs.Tries.{Try, is_covered, outside_line, next_outside}
use Rattle.conda_base.proofs.LineListLemmas.{line_eq, names-append}
use Rattle.offload_calls.proofs.SpanFacts.{SpanFits, loads-fit}
use Rattle.line_memory.specs.Backing.{dirty_in}
use Rattle.try_runs.specs.Fills.{fills_with, new_line}

-- ---- dirty lines

named-in : (P : Line → Type 0) (ts : List Tag) (l : Line) → All (λ (tag : Tag). P tag.0) ts → names (modified ts) l ≡ true → P l
named-in P [] l all there = absurd (false≢true there)
named-in P (t ∷ ts) l all there = go (is_modified t.1) there (named-in P ts l (All-tail (λ (tag : Tag). P tag.0) t ts all))
  where
    either : (same_line t.0 l ≡ true) ⊎ (names (modified ts) l ≡ true) → (names (modified ts) l ≡ true → P l) → P l
    either (inl e) rest = subst P (line_eq t.0 l e) (All-head (λ (tag : Tag). P tag.0) t ts all)
    either (inr r) rest = rest r

    go : (b : Bool) → names (cond b (t.0 ∷ modified ts) (modified ts)) l ≡ true → (names (modified ts) l ≡ true → P l) → P l
    go false h rest = rest h
    go true h rest = either (or_cases (same_line t.0 l) (names (modified ts) l) h) rest

each-in : (P : Line → Type 0) (n : ℕ) (f : ℕ → List Line) (l : Line) → ((k : ℕ) → names (f k) l ≡ true → P l) → names (each_below n f) l ≡ true → P l
each-in P zero f l h there = absurd (false≢true there)
each-in P (suc n) f l h there = go (or_cases (names (each_below n f) l) (names (f n) l) (sym (names-append (each_below n f) (f n) l) ∙ there)) (each-in P n f l h)
  where
    go : (names (each_below n f) l ≡ true) ⊎ (names (f n) l ≡ true) → (names (each_below n f) l ≡ true → P l) → P l
    go (inl e) ih = ih e
    go (inr e) ih = h n e

pub dirty-in-range : (b : BackingView) (l : Line) → IsBacking b → names (dirty_in b) l ≡ true → IsInRange b l
dirty-in-range b l is there =
    each-in (IsInRange b) b.holders (λ h. each_below b.sets (λ s. modified (b.tags h s))) l
    (λ h here. each-in (IsInRange b) b.sets (λ s. modified (b.tags h s)) l
    (λ s at. named-in (IsInRange b) (b.tags h s) l (is.in_range h s) at) here) there

-- ---- lines that a try fills

-- a memory where the code lies
pub record LiesAt (code : CodeView) (b : BackingView) : Type 0 where
  pub is_code : IsCode code
  pub backing : IsBacking b
  pub base : b.base ≡ code.base
  pub bytes : length b.view ≡ length code.bytes

some-size : (stores : List (ℕ × ℕ)) (addr size : ℕ) → is_covered stores addr size ≡ false → 0 < size
some-size stores addr zero h = absurd (false≢true (sym h))
some-size stores addr (suc size) h = omega arith

outside-in-range : (code : CodeView) (b : BackingView) (stores : List (ℕ × ℕ)) (span : Option Span) (l : Line) → LiesAt code b
    → IfSome span (SpanFits code b.line_bytes) → outside_line b.line_bytes stores span ≡ Some l → IsInRange b l
outside-in-range code b stores None l is fits at = absurd cc
outside-in-range code b stores (Some span) l is fits at = go (is_covered stores span.addr span.size) refl at
  where
    go : (x : Bool) → is_covered stores span.addr span.size ≡ x → cond x None (Some (line_at b.line_bytes span.addr)) ≡ Some l → IsInRange b l
    go true e h = absurd (let k : ◌≡◌ {A = Option Line} None (Some l) = h in cc)
    go false e h =
        let same : line_at b.line_bytes span.addr ≡ l = cc in
        let size : 0 < span.size = some-size stores span.addr span.size e in
        let from : b.base ≤ span.addr = rw is.base fits.from in
        let below : span.addr < b.base + length b.view = rw (is.base, is.bytes) (ends size fits.to) in
        subst (IsInRange b) same
        (line_in_memory b.base (length b.view) b.line_bytes span.addr is.backing.memory.size is.backing.memory.whole_base is.backing.memory.whole_bytes from below)
      where
        ends : {a s n : ℕ} → 0 < s → a + s ≤ n → a < n
        ends u v = omega arith

new-is-outside : (lines : List Line) (x : Option Line) (l : Line) → new_line lines x ≡ Some l → x ≡ Some l
new-is-outside lines None l e = e
new-is-outside lines (Some k) l e = go (names lines k) e
  where
    go : (b : Bool) → cond b None (Some k) ≡ Some l → Some k ≡ Some l
    go true h = absurd (let z : ◌≡◌ {A = Option Line} None (Some l) = h in cc)
    go false h = h

pub filled-in-range : (code : CodeView) (b : BackingView) (t : Try) (l : Line) → LiesAt code b
    → new_line t.reads (next_outside code b.line_bytes t) ≡ Some l → IsInRange b l
filled-in-range code b t l is at =
    outside-in-range code b t.stored (loads_of (plan_of code t.core.regs)) l is
    (loads-fit code b.line_bytes t.core.regs is.is_code is.backing.memory.size)
    (new-is-outside t.reads (next_outside code b.line_bytes t) l at)

-- fills with copies that agree on the line that is filled
pub same-fills : (fills one other : Line → List ℕ) (x : Option Line) → ((l : Line) → x ≡ Some l → one l ≡ other l)
    → fills_with fills one x ≡ fills_with fills other x
same-fills fills one other None same = refl
same-fills fills one other (Some l) same = fun_ext (λ k. go k (same_line k l) refl)
  where
    go : (k : Line) (b : Bool) → same_line k l ≡ b → cond b (one k) (fills k) ≡ cond b (other k) (fills k)
    go k true e = subst (λ (m : Line). one m ≡ other m) (sym (line_eq k l e)) (same l refl)
    go k false e = refl
