use Rattle.std.proofs.Common.{◌≡◌, ◌++◌, drop}
use Rattle.std.specs.List.{flat_map}
use Rattle.elf_loader.specs.Plain.{half}
use Rattle.rv32_asm.proofs.image.push_halves.Given as goal

abbrev pub invariant-loop-half : goal.invariant-loop-half
invariant-loop-half l =
    l.image.items ++ flat_map half (drop l.half-index l.halves) ≡ l.fn.image.items ++ flat_map half l.fn.halves
