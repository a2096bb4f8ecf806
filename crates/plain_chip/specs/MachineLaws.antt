-- What a machine without portions owes as a machine, whatever its rules.
use Rattle.std.specs.Prelude.{◌≡◌, List, [], ◌++◌}
use Rattle.std.proofs.Common.{ap}
use Rattle.conda_base.specs.declared.actor.Actor.{Actor}
use Rattle.streams.specs.Fronts.{IsFrontOf}
use Rattle.chip_config.specs.Settings.{Settings}
use Rattle.chip_laws.specs.Design.{Design}
use Rattle.line_memory.specs.Tags.{Shape}
use Rattle.baseline_laws.specs.Worlds.{Rules, journal, journal_from, output_of, world}
use Rattle.baseline_laws.proofs.GrowthFacts.{journal_more, output_more}
use Rattle.plain_chip.specs.Views.{PlainView}
use Rattle.plain_chip.specs.Shows.{StandsPlain}

-- it has its configuration's harts and cores
pub has_counts : (d : Design) (shape : Shape) (r : Rules) (c : PlainView) (events : List Actor)
    → StandsPlain d shape r c events
    → (c.config.harts ≡ d.config.harts) × (c.config.cores ≡ d.config.cores)
has_counts d shape r c events s = (
  ap (λ (x : Settings). x.harts) s.shows.config,
  ap (λ (x : Settings). x.cores) s.shows.config,
)

-- order and output of more events begin with those of the events before
pub goes_on : (r : Rules) (events more : List Actor)
    → IsFrontOf (journal r events) (journal r (events ++ more))
    × IsFrontOf (output_of r events) (output_of r (events ++ more))
goes_on r events more =
    let puts = output_more r events more in (
      record { rest = journal_from r (world r events) more; same = journal_more r events more },
      record { rest = puts.bytes; same = puts.more },
    )
