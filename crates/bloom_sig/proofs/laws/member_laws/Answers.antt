use Rattle.bloom_sig.proofs.HitLemmas.{listed_is_member}
use Rattle.bloom_sig.proofs.ImageLemmas.{members_are_of_lines, members_are_counted, member_is_no_change, meetings_are_of_lines}
use Rattle.bloom_sig.proofs.laws.member_laws.Goals as goal

pub returns-clause-members : goal.returns-clause-members
returns-clause-members c = members_are_of_lines

pub returns-clause-counts : goal.returns-clause-counts
returns-clause-counts c = members_are_counted

pub returns-clause-listed : goal.returns-clause-listed
returns-clause-listed c = listed_is_member

pub returns-clause-again : goal.returns-clause-again
returns-clause-again c = member_is_no_change

pub returns-clause-meetings : goal.returns-clause-meetings
returns-clause-meetings c = meetings_are_of_lines
