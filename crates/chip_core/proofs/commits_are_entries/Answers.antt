use Rattle.chip_core.proofs.EntryFacts.{commits_are_entries}
use Rattle.chip_core.proofs.commits_are_entries.Goals as goal

pub returns : goal.returns
returns c = commits_are_entries
