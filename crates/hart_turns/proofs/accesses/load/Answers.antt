use Rattle.hart_turns.proofs.accesses.load.Goals as goal

pub returns-clause-memory : goal.returns-clause-memory
returns-clause-memory c = c.load.ensures.steps

pub returns-clause-notes : goal.returns-clause-notes
returns-clause-notes c = c.load.ensures.notes
