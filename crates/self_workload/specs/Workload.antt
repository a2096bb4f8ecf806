-- The workload of a seed: its configuration, its image and its events.
use Rattle.std.specs.Prelude.{ℕ, ◌-◌, ◌^◌, List, [], ◌∷◌, ◌++◌, map, replicate}
use Rattle.conda_base.specs.declared.actor.Actor.{Actor}
use Rattle.rv32_decode.specs.declared.instr.Instr.{Instr}
use Rattle.rv32_decode.specs.declared.instr.Instr.TheVariants.{Lui, Jal, Imm, Ecall}
use Rattle.rv32_decode.specs.declared.instr.ImmOp.TheVariants.{Addi}
use Rattle.rv32_decode.specs.Encoding.{encoded}
use Rattle.chip_config.specs.Settings.{Settings, plain_settings}
use Rattle.elf_loader.specs.Plain.{plain}
use Rattle.self_workload.specs.Draws.{draws_after}
use Rattle.self_workload.specs.Drawn.{drawn_actor, drawn_instr}

-- two harts and two near-data cores, and all else as where no key is set
abbrev pub workload_settings : Settings
workload_settings = record plain_settings { harts = 2; cores = 2 }

-- what a hart runs before its drawn instructions: x5 becomes the address of what it works on
abbrev pub hart_begin : List Instr
hart_begin = Lui 5 131072 ∷ Imm Addi 8 10 0 ∷ []

-- and after them: it launches the core of its number at 65792, waits for it, puts a byte, and begins
-- again
abbrev pub hart_end : List Instr
hart_end =
    Imm Addi 10 8 0 ∷ Lui 11 65536 ∷ Imm Addi 11 11 256 ∷ Imm Addi 12 5 0
    ∷ Imm Addi 17 0 1000 ∷ Ecall
    ∷ Imm Addi 10 8 0 ∷ Imm Addi 17 0 1001 ∷ Ecall
    ∷ Imm Addi 17 0 1003 ∷ Ecall
    ∷ Jal 0 (2 ^ 32 - 172) ∷ []

-- what a near-data core runs before and after its drawn instructions
abbrev pub core_begin : List Instr
core_begin = Lui 5 131072 ∷ []

abbrev pub core_end : List Instr
core_end = Imm Addi 17 0 1004 ∷ Ecall ∷ []

-- the words of instructions, of which some are drawn
abbrev pub code_words : List Instr → List ℕ → List Instr → List ℕ
code_words begin draws end = map encoded (begin ++ map drawn_instr draws ++ end)

-- the harts' words and the cores', each with 32 draws; the cores' begin at the offset 256
unfoldable pub words_of_seed : ℕ → List ℕ
words_of_seed seed =
    code_words hart_begin (draws_after seed 0 32) hart_end ++ replicate 18 0
    ++ code_words core_begin (draws_after seed 32 32) core_end

-- where the image lies in memory
abbrev pub image_address : ℕ
image_address = 65536

abbrev pub image_of_seed : ℕ → List ℕ
image_of_seed seed = plain image_address (words_of_seed seed)

-- the first events of a seed, one of each draw after the image's
abbrev pub events_of_seed : ℕ → ℕ → List Actor
events_of_seed seed count = map drawn_actor (draws_after seed 64 count)
