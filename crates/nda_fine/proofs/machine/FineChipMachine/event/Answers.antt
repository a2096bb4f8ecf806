use Rattle.std.proofs.Common.{◌∙◌, ap, sym, refl, [], ◌∷◌, ◌++◌}
use Rattle.baseline_laws.specs.Rules.{fine_rules, fine_shape}
use Rattle.baseline_laws.specs.Worlds.{world}
use Rattle.baseline_laws.proofs.GrowthFacts.{grows}
use Rattle.plain_chip.proofs.ReportFacts.{reports_are_of_events}
use Rattle.plain_chip.proofs.StandsFacts.{stands-more, output-more}
use Rattle.nda_fine.specs.Fine.{FineStands, FineTurns, fine_journal}
use Rattle.nda_fine.proofs.machine.FineChipMachine.event.Goals as goal

pub returns-clause-stands : goal.returns-clause-stands
returns-clause-stands c d events h =
    let stands : FineStands d c.turn.new.self (events ++ c.args.a ∷ []) =
    stands-more d (fine_shape d) (fine_rules d) c.args.self.now c.turn.new.self events c.args.a c.turn.result
    c.turn.new.out.items c.requires.has h.stands
    (c.turn.ensures.turns d (world (fine_rules d) events) h.stands.shows) in
    record {
      stands = stands;
      report = reports_are_of_events d (fine_shape d) (fine_rules d) c.turn.new.self (events ++ c.args.a ∷ []) refl
          stands.shows;
    }

pub returns-clause-entry : goal.returns-clause-entry
returns-clause-entry c d events h =
    (grows (fine_rules d) events c.args.a).journal_after
    ∙ ap (λ e. fine_journal d events ++ e ∷ [])
    (sym (c.turn.ensures.turns d (world (fine_rules d) events) h.stands.shows).entry_is)

pub returns-clause-output : goal.returns-clause-output
returns-clause-output c d events h =
    output-more d (fine_shape d) (fine_rules d) c.turn.new.self events c.args.a c.turn.result c.turn.new.out.items
    (c.turn.ensures.turns d (world (fine_rules d) events) h.stands.shows)
