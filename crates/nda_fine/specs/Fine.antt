-- A fine-grained machine stands for a list of events.
use Rattle.std.specs.Prelude.{ℕ, ◌≡◌, ◌+◌, List}
use Rattle.conda_base.specs.declared.actor.Actor.{Actor}
use Rattle.schedule_log.specs.declared.entry.Entry.{Entry}
use Rattle.coherent_mem.specs.Parts.{shown}
use Rattle.chip_laws.specs.Design.{Design}
use Rattle.baseline_laws.specs.Worlds.{World, journal, output_of, world}
use Rattle.baseline_laws.specs.Rules.{fine_rules, fine_shape}
use Rattle.plain_chip.specs.Views.{PlainView}
use Rattle.plain_chip.specs.Shows.{PlainTurns, ReportsPlain, ShowsPlain, StandsPlain, report_of_events}

-- every core is a holder too
pub record IsFine (c : PlainView) : Type 0 where
  pub holders : (shown c.memory).holders ≡ c.config.harts + c.config.cores

abbrev pub FineShows : Design → PlainView → World → Type 0
FineShows d c w = ShowsPlain d (fine_shape d) c w

abbrev pub FineTurns : Design → World → Actor → PlainView → Entry → List ℕ → Type 0
FineTurns d w a new entry puts = PlainTurns d (fine_shape d) (fine_rules d) w a new entry puts

-- the machine stands for these events, under an accepted configuration and image
abbrev pub FineStands : Design → PlainView → List Actor → Type 0
FineStands d c events = StandsPlain d (fine_shape d) (fine_rules d) c events

-- and its report is theirs
abbrev pub FineReports : Design → PlainView → List Actor → Type 0
FineReports d c events = ReportsPlain d (fine_shape d) (fine_rules d) c events

abbrev pub fine_journal : Design → List Actor → List Entry
fine_journal d events = journal (fine_rules d) events

abbrev pub fine_output : Design → List Actor → List ℕ
fine_output d events = output_of (fine_rules d) events

abbrev pub fine_report : Design → List Actor → List ℕ
fine_report d events = report_of_events d (fine_rules d) events

-- the entry of one event more
abbrev pub fine_entry : Design → List Actor → Actor → Entry
fine_entry d events a = (fine_rules d).next (world (fine_rules d) events) a
