use Rattle.std.proofs.Common.{sym, subst, List, ℕ}
use Rattle.coherent_mem.specs.Parts.{shown}
use Rattle.coherent_mem.specs.Steps.{StepsTo}
use Rattle.line_memory.specs.Access.{after_store}
use Rattle.line_memory.specs.Backing.{shape_of}
use Rattle.offload_calls.proofs.StoreLemmas.{overlay-stored}
use Rattle.conda_base.specs.LineLists.{line_at}
use Rattle.hart_turns.proofs.accesses.store.Goals as goal

pub returns-clause-memory : goal.returns-clause-memory
returns-clause-memory c =
    let b = shown c.args.memory.now in
    let a = c.requires.access in
    subst (λ (v : List ℕ). StepsTo (after_store (shape_of b) b.tags c.args.h (line_at b.line_bytes c.args.addr)) v b
    (shown c.store.new.self))
    (sym (overlay-stored b.base b.view c.args.addr c.args.size c.args.value a.size a.from a.within))
    c.store.ensures.steps

pub returns-clause-notes : goal.returns-clause-notes
returns-clause-notes c = c.store.ensures.notes
