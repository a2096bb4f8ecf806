use Rattle.std.proofs.Common.{◌≡◌, length, map, string_bytes}
use Rattle.command_words.specs.Options.{are_different, file_values, known, options_of}
use Rattle.command_words.proofs.table.name_different_files.Given as goal

abbrev pub invariant-options : goal.invariant-options
invariant-options l =
    are_different (file_values (map known l.fn.table) (options_of (map string_bytes l.fn.words)))
    ≡ are_different (file_values (map known l.fn.table) (options_of (map string_bytes l.rest)))

abbrev pub decreases-options : goal.decreases-options
decreases-options l = length l.rest
