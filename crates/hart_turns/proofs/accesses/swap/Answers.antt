use Rattle.std.proofs.Common.{◌≡◌, ◌≤◌, ◌+◌, ◌∙◌, ap, sym, subst, List, ℕ, length}
use Rattle.coherent_mem.specs.Parts.{shown}
use Rattle.coherent_mem.specs.Steps.{StepsTo, view_stored}
use Rattle.coherent_mem.proofs.AgainFacts.{atomic}
use Rattle.line_memory.specs.Access.{after_store}
use Rattle.line_memory.specs.Backing.{BackingView, shape_of}
use Rattle.line_memory.specs.Notes.{all_noted}
use Rattle.offload_calls.specs.Stores.{overlay, bytes_from}
use Rattle.offload_calls.proofs.StoreLemmas.{overlay-stored}
use Rattle.conda_base.specs.LineLists.{line_at}
use Rattle.hart_turns.proofs.accesses.swap.Goals as goal

-- the view after the store is the view before with its bytes, since the take left it
one-store : (b mid : BackingView) (addr value : ℕ) → mid.view ≡ b.view → mid.base ≡ b.base
    → overlay mid.base mid.view (bytes_from addr 4 value) ≡ overlay b.base b.view (bytes_from addr 4 value)
one-store b mid addr value view base =
    ap (λ xs. overlay mid.base xs (bytes_from addr 4 value)) view
    ∙ ap (λ n. overlay n b.view (bytes_from addr 4 value)) base

pub returns-clause-memory : goal.returns-clause-memory
returns-clause-memory c =
    let b = shown c.args.memory.now in
    let mid = shown c.take-old.new.self in
    let value = c.amo_result.result in
    let a = c.requires.access in
    let n = c.take-old.ensures.steps.numbers in
    let both = atomic b mid (shown c.store.new.self) c.args.h c.args.addr (view_stored mid c.args.addr 4 value)
    c.take-old.ensures.kept.backing c.take-old.ensures.steps c.store.ensures.steps in
    subst (λ (v : List ℕ). StepsTo (after_store (shape_of b) b.tags c.args.h (line_at b.line_bytes c.args.addr)) v b
    (shown c.store.new.self))
    (sym (overlay-stored mid.base mid.view c.args.addr 4 value a.size
    (subst (λ k. k ≤ c.args.addr) (sym n.base) a.from)
    (subst (λ k. c.args.addr + 4 ≤ k + length mid.view) (sym n.base)
    (subst (λ k. c.args.addr + 4 ≤ b.base + k) (sym n.size) a.within)))
    ∙ one-store b mid c.args.addr value c.take-old.ensures.steps.view n.base
    ∙ ap (λ k. overlay b.base b.view (bytes_from c.args.addr 4 k)) c.amo_result.ensures) both.steps

pub returns-clause-notes : goal.returns-clause-notes
returns-clause-notes c =
    let b = shown c.args.memory.now in
    let mid = shown c.take-old.new.self in
    let value = c.amo_result.result in
    let both = atomic b mid (shown c.store.new.self) c.args.h c.args.addr (view_stored mid c.args.addr 4 value)
    c.take-old.ensures.kept.backing c.take-old.ensures.steps c.store.ensures.steps in
    c.store.ensures.notes ∙ ap (all_noted c.take-old.new.log) both.no_notes ∙ c.take-old.ensures.notes
