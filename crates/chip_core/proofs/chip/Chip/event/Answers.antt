use Rattle.chip_laws.specs.Worlds.{world}
use Rattle.chip_laws.proofs.UntouchedFacts.{untouched}
use Rattle.std.proofs.Common.{◌++◌, ◌∷◌, []}
use Rattle.chip_core.proofs.EventFacts.{reached, stands-more, output-more}
use Rattle.chip_core.proofs.chip.Chip.event.Goals as goal

pub returns-clause-entry : goal.returns-clause-entry
returns-clause-entry c d events s = (c.turn-entry.ensures.turns d (world d events) (reached d c.args.self.now events s) s.shows).entry_is

pub returns-clause-stands : goal.returns-clause-stands
returns-clause-stands c d events s =
    stands-more d c.args.self.now c.turn-entry.new.self events c.args.a c.turn-entry.result c.turn-entry.new.out.items c.requires s
    (c.turn-entry.ensures.turns d (world d events) (reached d c.args.self.now events s) s.shows)

pub returns-clause-output : goal.returns-clause-output
returns-clause-output c d events s =
    output-more d c.turn-entry.new.self events c.args.a c.turn-entry.result c.turn-entry.new.out.items
    (c.turn-entry.ensures.turns d (world d events) (reached d c.args.self.now events s) s.shows)

pub returns-clause-untouched : goal.returns-clause-untouched
returns-clause-untouched c d events s = untouched d (events ++ c.args.a ∷ []) s.is_design
