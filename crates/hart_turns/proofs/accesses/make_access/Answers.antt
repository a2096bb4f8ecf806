use Rattle.std.proofs.Common.{⊎_elim}
use Rattle.coherent_mem.specs.Parts.{shown}
use Rattle.hart_turns.proofs.MemoryFacts.{unchanged}
use Rattle.hart_turns.proofs.accesses.make_access.Goals as goal

pub returns-in-Nothing-clause-memory : goal.returns-in-Nothing-clause-memory
returns-in-Nothing-clause-memory c =
    ⊎_elim (λ e. rw e (unchanged (shown c.args.memory.now) c.requires.same.coherent.backing))
    (λ e. rw e (unchanged (shown c.args.memory.now) c.requires.same.coherent.backing)) c.in-Nothing.is

pub returns-in-Load-clause-memory : goal.returns-in-Load-clause-memory
returns-in-Load-clause-memory c = rw c.in-Load.is c.load.ensures.memory
