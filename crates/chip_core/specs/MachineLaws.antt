-- A chip is a machine.
use Rattle.std.specs.Prelude.{◌≡◌, List, ◌++◌, length}
use Rattle.std.proofs.Common.{ap}
use Rattle.conda_base.specs.declared.actor.Actor.{Actor}
use Rattle.streams.specs.Fronts.{IsFrontOf}
use Rattle.chip_config.specs.Settings.{Settings}
use Rattle.chip_laws.specs.Design.{Design}
use Rattle.chip_laws.specs.Lawful.{AreLawful}
use Rattle.chip_laws.specs.Worlds.{journal, journal_from, output_of, world}
use Rattle.chip_laws.proofs.GrowthFacts.{journal_more, output_more}
use Rattle.chip_laws.proofs.LawfulFacts.{lawful}
use Rattle.run_report.specs.Texts.{report_text}
use Rattle.chip_core.specs.Reports.{report_of_events, view_of_chip}
use Rattle.chip_core.specs.Shows.{Stands}
use Rattle.chip_core.specs.Views.{ChipView}

-- the chip stands for these events, and its report is theirs
pub record StandsAndReports (d : Design) (c : ChipView) (events : List Actor) : Type 0 where
  pub stands : Stands d c events
  pub report : report_text (view_of_chip c) (length events) (length (output_of d events))
      ≡ report_of_events d events

pub has_counts : (d : Design) (c : ChipView) (events : List Actor) → StandsAndReports d c events
    → (c.config.harts ≡ d.config.harts) × (c.config.cores ≡ d.config.cores)
has_counts d c events h = (
  ap (λ (x : Settings). x.harts) h.stands.shows.config,
  ap (λ (x : Settings). x.cores) h.stands.shows.config,
)

pub is_lawful : (d : Design) (c : ChipView) (events : List Actor) → StandsAndReports d c events
    → AreLawful d events
is_lawful d c events h = lawful d events h.stands.is_design h.stands.actors

pub goes_on : (d : Design) (events more : List Actor)
    → IsFrontOf (journal d events) (journal d (events ++ more))
    × IsFrontOf (output_of d events) (output_of d (events ++ more))
goes_on d events more =
    let puts = output_more d events more in (
      record { rest = journal_from d (world d events) more; same = journal_more d events more },
      record { rest = puts.bytes; same = puts.more },
    )
