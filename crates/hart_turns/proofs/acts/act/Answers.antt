use Rattle.coherent_mem.specs.Parts.{shown}
use Rattle.hart_turns.proofs.NotedFacts.{used-noted}
use Rattle.hart_turns.proofs.acts.act.Goals as goal

pub returns-clause-noted : goal.returns-clause-noted
returns-clause-noted c =
    let e = c.make_access-loaded in
    used-noted c.args.code.now (shown c.args.memory.now) (shown e.new.memory) c.args.h c.args.planned.access
    c.args.log.now e.new.log
    c.requires.same c.requires.plan.access e.ensures.memory.numbers e.ensures.notes
