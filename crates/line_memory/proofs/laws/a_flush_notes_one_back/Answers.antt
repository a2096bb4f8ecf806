use Rattle.line_memory.proofs.MemberLemmas.{flush_written}
use Rattle.line_memory.proofs.laws.a_flush_notes_one_back.Goals as goal

pub returns : goal.returns
returns c = flush_written
