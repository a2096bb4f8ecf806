use Rattle.schedule_log.proofs.LawLemmas.{pieces_join_all, whole_is_found}
use Rattle.schedule_log.proofs.laws.pieces_join.Goals as goal

pub returns : goal.returns
returns c = record { joins = pieces_join_all; whole = whole_is_found }
