use Rattle.std.proofs.Common.{◌≡◌, ◌++◌, drop}
use Rattle.std.specs.List.{flat_map}
use Rattle.elf_loader.specs.Plain.{word}
use Rattle.rv32_asm.proofs.image.push_words.Given as goal

abbrev pub invariant-loop-word : goal.invariant-loop-word
invariant-loop-word l =
    l.image.items ++ flat_map word (drop l.word-index l.words) ≡ l.fn.image.items ++ flat_map word l.fn.words
