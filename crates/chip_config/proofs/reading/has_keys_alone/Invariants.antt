use Rattle.std.proofs.Common.{◌≡◌}
use Rattle.serde_json.specs.View.{members_view}
use Rattle.chip_config.specs.Settings.{are_keys}
use Rattle.chip_config.proofs.ReadingLemmas.{are_names}
use Rattle.chip_config.proofs.reading.has_keys_alone.Given as goal

abbrev pub invariant-loop-name : goal.invariant-loop-name
invariant-loop-name l = are_names l.name-iterator ≡ are_keys (members_view l.members.entries)
