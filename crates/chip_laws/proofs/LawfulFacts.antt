-- Every run's events are lawful.
use Rattle.chip_laws.specs.Lawful.{AlwaysLawful}
use Rattle.chip_laws.proofs.EntryLaws.{flat_is_run}
use Rattle.chip_laws.proofs.FlushFacts.{bounded}
use Rattle.chip_laws.proofs.SoundFacts.{owners}
use Rattle.chip_laws.proofs.PrintedFacts.{balanced}
use Rattle.chip_laws.proofs.UntouchedFacts.{untouched}

pub lawful : AlwaysLawful
lawful d events is actors = record {
  flat = flat_is_run d events;
  untouched = untouched d events is;
  bounded = bounded d events is actors;
  owners = owners d events;
  balance = balanced d events is actors;
}
