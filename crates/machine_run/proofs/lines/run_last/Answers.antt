use Rattle.schedule_log.proofs.ActorLemmas.{last_on}
use Rattle.machine_run.proofs.lines.run_last.Goals as goal

pub line-requires : goal.line-requires
line-requires g c = c.requires.on_chip c.in-Events.actor (last_on c.args.reader c.in-Events.actor c.in-Events.count c.in-Events.ensures.said)
