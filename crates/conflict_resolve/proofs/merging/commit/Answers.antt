use Rattle.try_runs.specs.Fills.{portion_run}
use Rattle.conflict_resolve.specs.Commits.{Change}
use Rattle.conflict_resolve.proofs.CommitFacts.{Committed, commits, atomic}
use Rattle.conflict_resolve.proofs.merging.commit.Goals as goal

pub returns-clause-commits : goal.returns-clause-commits
returns-clause-commits g c code p stands = commits m c.args.c (portion_run code c.args.c.try.limits.line_bytes p) p.fills c.keep.result is stands.holds
  where
    m : Change
    m = record { old = g.B.Backing.shown c.args.mem.now; new = g.B.Backing.shown c.merge_all.new.mem; before = c.args.log.now; after = c.merge_all.new.log }

    is : Committed m c.args.c c.keep.result
    is = record {
      backing = c.merge_all.ensures.backing;
      still_backing = c.merge_all.ensures.still_backing;
      tried = c.merge_all.ensures.tried;
      lines = c.requires.lines;
      in_range = c.requires.in_range;
      merged = c.merge_all.ensures.memory;
      noted = c.merge_all.ensures.notes;
      kept_is = c.keep.ensures;
    }

pub returns-clause-serial : goal.returns-clause-serial
returns-clause-serial g c s f j fills n stands = atomic m c.args.c s f j fills n c.keep.result is stands
  where
    m : Change
    m = record { old = g.B.Backing.shown c.args.mem.now; new = g.B.Backing.shown c.merge_all.new.mem; before = c.args.log.now; after = c.merge_all.new.log }

    is : Committed m c.args.c c.keep.result
    is = record {
      backing = c.merge_all.ensures.backing;
      still_backing = c.merge_all.ensures.still_backing;
      tried = c.merge_all.ensures.tried;
      lines = c.requires.lines;
      in_range = c.requires.in_range;
      merged = c.merge_all.ensures.memory;
      noted = c.merge_all.ensures.notes;
      kept_is = c.keep.ensures;
    }
