use Rattle.std.proofs.Common.{⊎_elim}
use Rattle.coherent_mem.specs.Parts.{shown}
use Rattle.chip_core.proofs.CoreFacts.{none-told}
use Rattle.chip_core.proofs.MemoryFacts.{unchanged}
use Rattle.chip_core.proofs.exchange.exchange.Goals as goal

pub returns-in-Nothing-clause-memory : goal.returns-in-Nothing-clause-memory
returns-in-Nothing-clause-memory c =
    ⊎_elim (λ e. rw e (unchanged (shown c.args.memory.now) c.requires.same.coherent.backing))
    (λ e. rw e (unchanged (shown c.args.memory.now) c.requires.same.coherent.backing)) c.in-Nothing.is

pub returns-in-Nothing-clause-told : goal.returns-in-Nothing-clause-told
returns-in-Nothing-clause-told c =
    ⊎_elim (λ e. rw e (none-told c.args.portions.now)) (λ e. rw e (none-told c.args.portions.now)) c.in-Nothing.is

pub returns-in-Load-clause-memory : goal.returns-in-Load-clause-memory
returns-in-Load-clause-memory c = rw c.in-Load.is c.load.ensures.memory

pub returns-in-Load-clause-told : goal.returns-in-Load-clause-told
returns-in-Load-clause-told c = rw c.in-Load.is (none-told c.args.portions.now)
