use Rattle.std.proofs.Common.{subst}
use Rattle.conda_base.specs.declared.Line.{Line}
use Rattle.nda_cache.specs.Tried.{HasRoom, IsFound}
use Rattle.portion_ctl.proofs.accesses.put.Goals as goal

pub write_found-requires-clause-room : goal.write_found-requires-clause-room
write_found-requires-clause-room c = subst (λ (k : Line). HasRoom c.args.cache.now k) c.requires.line c.requires.room

pub write_found-requires-clause-found : goal.write_found-requires-clause-found
write_found-requires-clause-found c = subst (λ (k : Line). IsFound c.args.cache.now k c.args.found) c.requires.line c.requires.found

pub returns : goal.returns
returns c = record { is = c.write_found.ensures.tried; cache = c.write_found.ensures.writes }
