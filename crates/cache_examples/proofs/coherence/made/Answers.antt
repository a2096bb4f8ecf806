use Rattle.std.proofs.Common.{◌≡◌, ℕ, length, ⊎_elim, ap, ◌∙◌, refl, arith, Result, Ok, Err}
use Rattle.std.specs.Prelude.{IfOk}
use Rattle.std.proofs.lemmas.List.{length-replicate}
use Rattle.conda_base.specs.Lines.{IsLineSize}
use Rattle.conda_base.proofs.LineLemmas.{line_size_cases}
use Rattle.rv32_hart.specs.Code.{CodeView}
use Rattle.line_memory.specs.Backing.{BackingView}
use Rattle.line_memory.specs.Memory.{IsMemory}
use Rattle.coherent_mem.specs.Parts.{shown}
use Rattle.cache_examples.specs.Tried.{IsTestMemory}
use Rattle.cache_examples.proofs.coherence.made.Goals as goal

memory_of : (n : ℕ) → IsLineSize n → IsMemory n 0 4096
memory_of n is =
    ⊎_elim
    (λ (a : n ≡ 32). rw a (record { size = refl; whole_base = refl; whole_bytes = refl; top = omega arith }))
    (λ more. ⊎_elim
    (λ (a : n ≡ 64). rw a (record { size = refl; whole_base = refl; whole_bytes = refl; top = omega arith }))
    (λ (a : n ≡ 128). rw a (record { size = refl; whole_base = refl; whole_bytes = refl; top = omega arith }))
    more)
    (line_size_cases n is)

if_both : {A E : Type 0} (r : Result A E) (P Q R : A → Type 0) → IfOk r P → IfOk r Q → ((a : A) → P a → Q a → R a) → IfOk r R
if_both (Ok a) P Q R one other then = then a one other
if_both (Err e) P Q R one other then = one

pub new-requires-2-clause-memory : goal.new-requires-2-clause-memory
new-requires-2-clause-memory c =
    let items = c.in_ok-bytes.ensures.items_if_clones_equal (λ y is. is) in
    let count : length c.in_ok-bytes.bytes.items ≡ 4096 = ap length items ∙ length-replicate {A = ℕ} 4096 0 in
    rw c.new-code.ensures (rw count (memory_of c.args.line_bytes c.requires.size))

pub returns : goal.returns
returns c =
    let items = c.in_ok-bytes.ensures.items_if_clones_equal (λ y is. is) in
    let count : length c.in_ok-bytes.bytes.items ≡ 4096 = ap length items ∙ length-replicate {A = ℕ} 4096 0 in
    if_both c.new-2.result _ _ (λ m. IsTestMemory (shown m)) c.new-2.ensures.unused c.new-2.ensures.kept
    (λ m fresh kept. record {
      base = ap (λ (b : BackingView). b.base) fresh ∙ ap (λ (k : CodeView). k.base) c.new-code.ensures;
      size = ap (λ (b : BackingView). length b.view) fresh ∙ ap (λ (k : CodeView). length k.bytes) c.new-code.ensures ∙ count;
      holders = ap (λ (b : BackingView). b.holders) fresh;
      sets = ap (λ (b : BackingView). b.sets) fresh;
      coherent = kept;
    })
