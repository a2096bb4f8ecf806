use Rattle.std.proofs.Common.{◌≡◌, ◌+◌, ◌++◌, drop, length, map, take}
use Rattle.serde_json.specs.View.{view}
use Rattle.chip_config.specs.Keys.{keys, keys_from}
use Rattle.chip_config.specs.Settings.{first_without, number_at_key, numbers_of}
use Rattle.chip_config.proofs.reading.read_numbers.Given as goal

abbrev pub invariant-loop-index : goal.invariant-loop-index
invariant-loop-index l = record {
  sixteen : length l.numbers ≡ 16;
  first : first_without (view l.value) (keys_from (l.index + 1) (drop l.index l.table)) ≡ first_without (view l.value) keys;
  written : take l.index l.numbers ++ map (number_at_key (view l.value)) (keys_from (l.index + 1) (drop l.index l.table)) ≡ numbers_of (view l.value);
}
