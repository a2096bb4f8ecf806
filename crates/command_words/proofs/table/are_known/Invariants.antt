use Rattle.std.proofs.Common.{◌≡◌, length, map, string_bytes}
use Rattle.std.specs.List.{list_all}
use Rattle.command_words.specs.Options.{is_option, known, options_of}
use Rattle.command_words.proofs.table.are_known.Given as goal

abbrev pub invariant-options : goal.invariant-options
invariant-options l =
    list_all (is_option (map known l.fn.table)) (options_of (map string_bytes l.fn.words))
    ≡ list_all (is_option (map known l.fn.table)) (options_of (map string_bytes l.rest))

abbrev pub decreases-options : goal.decreases-options
decreases-options l = length l.rest
