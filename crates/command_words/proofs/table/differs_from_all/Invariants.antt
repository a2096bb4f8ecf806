use Rattle.std.proofs.Common.{◌≡◌, length, map, string_bytes}
use Rattle.std.specs.List.{list_all}
use Rattle.command_words.specs.Options.{differs, file_values, known, options_of}
use Rattle.command_words.proofs.table.differs_from_all.Given as goal

abbrev pub invariant-options : goal.invariant-options
invariant-options l =
    list_all (differs l.fn.name) (file_values (map known l.fn.table) (options_of (map string_bytes l.fn.words)))
    ≡ list_all (differs l.fn.name) (file_values (map known l.fn.table) (options_of (map string_bytes l.rest)))

abbrev pub decreases-options : goal.decreases-options
decreases-options l = length l.rest
