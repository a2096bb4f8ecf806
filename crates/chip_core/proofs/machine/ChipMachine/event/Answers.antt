use Rattle.std.proofs.Common.{◌∙◌, ap, sym, [], ◌∷◌, ◌++◌}
use Rattle.chip_laws.proofs.EntryLaws.{grows}
use Rattle.chip_laws.specs.Worlds.{journal, world}
use Rattle.chip_core.specs.Shows.{Stands}
use Rattle.chip_core.specs.Turns.{Turns}
use Rattle.chip_core.proofs.EventFacts.{reached, stands-more, output-more}
use Rattle.chip_core.proofs.ReportFacts.{reports_are_of_events}
use Rattle.chip_core.proofs.machine.ChipMachine.event.Goals as goal

pub returns-clause-stands : goal.returns-clause-stands
returns-clause-stands c d events h =
    let turns : Turns d (world d events) c.args.a c.turn.new.self c.turn.result c.turn.new.out.items =
    c.turn.ensures.turns d (world d events) (reached d c.args.self.now events h.stands) h.stands.shows in
    let stands : Stands d c.turn.new.self (events ++ c.args.a ∷ []) =
    stands-more d c.args.self.now c.turn.new.self events c.args.a c.turn.result c.turn.new.out.items c.requires.has h.stands turns in
    record { stands = stands; report = reports_are_of_events d c.turn.new.self (events ++ c.args.a ∷ []) stands }

pub returns-clause-entry : goal.returns-clause-entry
returns-clause-entry c d events h =
    let turns : Turns d (world d events) c.args.a c.turn.new.self c.turn.result c.turn.new.out.items =
    c.turn.ensures.turns d (world d events) (reached d c.args.self.now events h.stands) h.stands.shows in
    (grows d events c.args.a).journal_after ∙ ap (λ e. journal d events ++ e ∷ []) (sym turns.entry_is)

pub returns-clause-output : goal.returns-clause-output
returns-clause-output c d events h =
    output-more d c.turn.new.self events c.args.a c.turn.result c.turn.new.out.items
    (c.turn.ensures.turns d (world d events) (reached d c.args.self.now events h.stands) h.stands.shows)
