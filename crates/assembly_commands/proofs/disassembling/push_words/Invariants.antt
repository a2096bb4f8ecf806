use Rattle.std.proofs.Common.{◌≡◌, ◌++◌, length}
use Rattle.std.specs.List.{flat_map}
use Rattle.assembly_commands.specs.Disassembling.{line_of_word, words_in}
use Rattle.assembly_commands.proofs.disassembling.push_words.Given as goal

abbrev pub invariant-words : goal.invariant-words
invariant-words l =
    l.text.items ++ flat_map line_of_word (words_in l.rest)
    ≡ l.initial.text.items ++ flat_map line_of_word (words_in l.fn.bytes)

abbrev pub decreases-words : goal.decreases-words
decreases-words l = length l.rest
