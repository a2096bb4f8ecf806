use Rattle.chip_core.proofs.EntryFacts.{backs_are_entries}
use Rattle.chip_core.proofs.backs_are_entries.Goals as goal

pub returns : goal.returns
returns c = backs_are_entries
