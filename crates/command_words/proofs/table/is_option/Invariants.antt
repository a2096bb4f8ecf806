use Rattle.std.proofs.Common.{◌≡◌, drop, map}
use Rattle.command_words.specs.Options.{given, is_option, known}
use Rattle.command_words.proofs.table.is_option.Given as goal

abbrev pub invariant-loop-known : goal.invariant-loop-known
invariant-loop-known l =
    is_option (map known l.fn.table) (given l.fn.option)
    ≡ is_option (map known (drop l.known-index l.fn.table)) (given l.fn.option)
