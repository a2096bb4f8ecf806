-- What a draw stands for: an instruction of the program, or who takes an event.
use Rattle.std.specs.Prelude.{ℕ, ◌+◌, ◌-◌, ◌*◌, ◌/◌, ◌%◌, ◌^◌, ◌==◌, if◌then◌else◌}
use Rattle.conda_base.specs.declared.actor.Actor.{Actor}
use Rattle.conda_base.specs.declared.actor.Actor.TheVariants.{Hart, Core}
use Rattle.rv32_decode.specs.declared.instr.Instr.{Instr}
use Rattle.rv32_decode.specs.declared.instr.Instr.TheVariants.{Load, Store, Imm, Reg}
use Rattle.rv32_decode.specs.declared.instr.LoadOp.TheVariants.{Lw}
use Rattle.rv32_decode.specs.declared.instr.StoreOp.TheVariants.{Sw}
use Rattle.rv32_decode.specs.declared.instr.ImmOp.TheVariants.{Addi}
use Rattle.rv32_decode.specs.declared.instr.RegOp.TheVariants.{Xor}

-- the register that holds the address of what harts and cores work on
abbrev pub base_register : ℕ
base_register = 5

-- an offset of a word in 1 KiB
abbrev pub word_offset : ℕ → ℕ
word_offset m = 4 * (m % 256)

-- a number from -1024 to 1023, as a word
abbrev pub signed_amount : ℕ → ℕ
signed_amount m = (m % 2048 + (2 ^ 32 - 1024)) % 2 ^ 32

-- a load, a store, an XOR or an addition, of the register t
abbrev pub instr_by : ℕ → ℕ → ℕ → Instr
instr_by kind t m =
    if kind == 0 then Load Lw t base_register (word_offset m)
    else if kind == 1 then Store Sw base_register t (word_offset m)
    else if kind == 2 then Reg Xor t 6 7
    else Imm Addi t t (signed_amount m)

-- the instruction of a draw
abbrev pub drawn_instr : ℕ → Instr
drawn_instr d = instr_by (d % 4) (6 + d / 4 % 2) (d / 8)

-- the hart or near-data core of a draw
abbrev pub actor_by : ℕ → Actor
actor_by kind =
    if kind == 0 then Hart 0
    else if kind == 1 then Hart 1
    else if kind == 2 then Core 0
    else Core 1

abbrev pub drawn_actor : ℕ → Actor
drawn_actor d = actor_by (d % 4)
