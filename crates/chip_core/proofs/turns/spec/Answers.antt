use Rattle.std.proofs.Common.{subst, inr}
use Rattle.traffic_trace.specs.Notes.{Trace}
use Rattle.coherent_mem.specs.Parts.{shown}
use Rattle.conflict_resolve.proofs.RangeFacts.{stores_in_range}
use Rattle.chip_core.specs.Seats.{around, others_in, RulesOn, turned}
use Rattle.chip_core.proofs.ArmFacts.{end-fits}
use Rattle.chip_core.proofs.turns.spec.Goals as goal

pub rule-requires-clause-in_range : goal.rule-requires-clause-in_range
rule-requires-clause-in_range c =
    (end-fits c.args.code.now (shown c.args.memory.now) c.args.tried c.in-Ends.ended c.args.log.now c.act.new.log stores_in_range
    c.base-addresses.ensures.code c.line_bytes-lines.ensures.kept.backing c.requires.fits c.requires.portion c.in-Ends.ensures.acts c.in-Ends.ensures.notes).in_range

pub returns-in-Ends : goal.returns-in-Ends
returns-in-Ends c =
    let fits = end-fits c.args.code.now (shown c.args.memory.now) c.args.tried c.in-Ends.ended c.args.log.now c.act.new.log stores_in_range
    c.base-addresses.ensures.code c.line_bytes-lines.ensures.kept.backing c.requires.fits c.requires.portion c.in-Ends.ensures.acts c.in-Ends.ensures.notes in
    inr (
      c.in-Ends.ended,
      (λ p s. let a = c.in-Ends.ensures.acts p s in (a.0, a.1)),
      subst (λ (log : Trace). RulesOn c.args.j c.in-Ends.ended (around (shown c.args.memory.now) c.args.cores.now.lock log)
          (around (shown c.rule.new.memory) c.rule.new.cores.lock c.rule.new.log) (others_in c.args.cores.now) (others_in c.rule.new.cores) c.rule.result.0 (turned c.rule.result.1 c.rule.new.out.items))
          fits.log c.rule.ensures,
    )
