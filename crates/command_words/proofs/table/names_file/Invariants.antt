use Rattle.std.proofs.Common.{◌≡◌, drop, map}
use Rattle.std.specs.List.{list_any}
use Rattle.command_words.specs.Options.{known, names_file}
use Rattle.command_words.proofs.table.names_file.Given as goal

abbrev pub invariant-loop-known : goal.invariant-loop-known
invariant-loop-known l =
    list_any (names_file l.fn.name) (map known l.fn.table)
    ≡ list_any (names_file l.fn.name) (map known (drop l.known-index l.fn.table))
