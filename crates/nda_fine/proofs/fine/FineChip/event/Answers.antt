use Rattle.std.proofs.Common.{◌∙◌, ap, sym, ◌++◌}
use Rattle.baseline_laws.specs.Rules.{fine_rules, fine_shape}
use Rattle.baseline_laws.specs.Worlds.{world}
use Rattle.plain_chip.proofs.StandsFacts.{stands-more, output-more}
use Rattle.nda_fine.specs.Fine.{fine_output}
use Rattle.nda_fine.proofs.fine.FineChip.event.Goals as goal

pub returns-clause-entry : goal.returns-clause-entry
returns-clause-entry c d events s = (c.turn-entry.ensures.turns d (world (fine_rules d) events) s.shows).entry_is

pub returns-clause-stands : goal.returns-clause-stands
returns-clause-stands c d events s =
    stands-more d (fine_shape d) (fine_rules d) c.args.self.now c.turn-entry.new.self events c.args.a c.turn-entry.result
    c.turn-entry.new.out.items c.requires s (c.turn-entry.ensures.turns d (world (fine_rules d) events) s.shows)

pub returns-clause-output : goal.returns-clause-output
returns-clause-output c d events s =
    output-more d (fine_shape d) (fine_rules d) c.turn-entry.new.self events c.args.a c.turn-entry.result
    c.turn-entry.new.out.items (c.turn-entry.ensures.turns d (world (fine_rules d) events) s.shows)
    ∙ ap (λ xs. fine_output d events ++ xs) (sym c.only_byte.ensures)
