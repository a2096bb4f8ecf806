use Rattle.std.proofs.Common.{◌≡◌, ◌++◌, length, map, string_bytes, option_map}
use Rattle.std.specs.Option.{option_to_list}
use Rattle.command_words.specs.Options.{options_of, values_of}
use Rattle.command_words.proofs.options.value_of.Given as goal

abbrev pub invariant-options : goal.invariant-options
invariant-options l =
    values_of l.fn.name (options_of (map string_bytes l.fn.words)) ≡ option_to_list (option_map (λ s. s.now) l.found) ++ values_of l.name (options_of (map string_bytes l.rest))

abbrev pub decreases-options : goal.decreases-options
decreases-options l = length l.rest
