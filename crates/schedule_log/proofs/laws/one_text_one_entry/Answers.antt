use Rattle.schedule_log.proofs.EndReadingLemmas.{one_entry}
use Rattle.schedule_log.proofs.laws.one_text_one_entry.Goals as goal

pub returns : goal.returns
returns c = one_entry
