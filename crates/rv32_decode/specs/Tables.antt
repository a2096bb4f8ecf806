-- The rows of instructions that share an opcode: the field that tells them apart, and the operation.
use Rattle.std.specs.Prelude.{ℕ, ◌==◌, List, [], ◌∷◌, Option, Some, None, if◌then◌else◌}
use Rattle.rv32_decode.specs.declared.instr.BranchOp.{BranchOp}
use Rattle.rv32_decode.specs.declared.instr.BranchOp.TheVariants.{Beq, Bne, Blt, Bge, Bltu, Bgeu}
use Rattle.rv32_decode.specs.declared.instr.LoadOp.{LoadOp}
use Rattle.rv32_decode.specs.declared.instr.LoadOp.TheVariants.{Lb, Lh, Lw, Lbu, Lhu}
use Rattle.rv32_decode.specs.declared.instr.StoreOp.{StoreOp}
use Rattle.rv32_decode.specs.declared.instr.StoreOp.TheVariants.{Sb, Sh, Sw}
use Rattle.rv32_decode.specs.declared.instr.ImmOp.{ImmOp}
use Rattle.rv32_decode.specs.declared.instr.ImmOp.TheVariants.{Addi, Slti, Sltiu, Xori, Ori, Andi, Slli, Srli, Srai}
use Rattle.rv32_decode.specs.declared.instr.RegOp.{RegOp}
use Rattle.rv32_decode.specs.declared.instr.RegOp.TheVariants.{Add, Sub, Sll, Slt, Sltu, Xor, Srl, Sra, Or, And, Mul, Mulh, Mulhsu, Mulhu, Div, Divu, Rem, Remu}
use Rattle.rv32_decode.specs.declared.instr.AmoOp.{AmoOp}
use Rattle.rv32_decode.specs.declared.instr.AmoOp.TheVariants.{Amoadd, Amoswap, Amoxor, Amoor, Amoand, Amomin, Amomax, Amominu, Amomaxu}

-- what stands beside a key in a table
abbrev pub look_up : {A : Type 0} → List (ℕ × A) → ℕ → Option A
look_up [] key = None
look_up (row ∷ rows) key = if key == row.0 then Some row.1 else look_up rows key

-- by funct3
abbrev pub branch_rows : List (ℕ × BranchOp)
branch_rows = (0b000, Beq) ∷ (0b001, Bne) ∷ (0b100, Blt) ∷ (0b101, Bge) ∷ (0b110, Bltu) ∷ (0b111, Bgeu) ∷ []

-- by funct3
abbrev pub load_rows : List (ℕ × LoadOp)
load_rows = (0b000, Lb) ∷ (0b001, Lh) ∷ (0b010, Lw) ∷ (0b100, Lbu) ∷ (0b101, Lhu) ∷ []

-- by funct3
abbrev pub store_rows : List (ℕ × StoreOp)
store_rows = (0b000, Sb) ∷ (0b001, Sh) ∷ (0b010, Sw) ∷ []

-- by funct3, for any funct7
abbrev pub imm_rows : List (ℕ × ImmOp)
imm_rows = (0b000, Addi) ∷ (0b010, Slti) ∷ (0b011, Sltiu) ∷ (0b100, Xori) ∷ (0b110, Ori) ∷ (0b111, Andi) ∷ []

-- by funct7 and then funct3, as one number of ten bits
abbrev pub shift_rows : List (ℕ × ImmOp)
shift_rows = (0b0000000_001, Slli) ∷ (0b0000000_101, Srli) ∷ (0b0100000_101, Srai) ∷ []

-- by funct7 and then funct3, as one number of ten bits
abbrev pub reg_rows : List (ℕ × RegOp)
reg_rows =
    (0b0000000_000, Add) ∷ (0b0100000_000, Sub) ∷ (0b0000000_001, Sll) ∷ (0b0000000_010, Slt) ∷
    (0b0000000_011, Sltu) ∷ (0b0000000_100, Xor) ∷ (0b0000000_101, Srl) ∷ (0b0100000_101, Sra) ∷
    (0b0000000_110, Or) ∷ (0b0000000_111, And) ∷
    (0b0000001_000, Mul) ∷ (0b0000001_001, Mulh) ∷ (0b0000001_010, Mulhsu) ∷ (0b0000001_011, Mulhu) ∷
    (0b0000001_100, Div) ∷ (0b0000001_101, Divu) ∷ (0b0000001_110, Rem) ∷ (0b0000001_111, Remu) ∷ []

-- by bits 31 to 27
abbrev pub amo_rows : List (ℕ × AmoOp)
amo_rows =
    (0b00000, Amoadd) ∷ (0b00001, Amoswap) ∷ (0b00100, Amoxor) ∷ (0b01000, Amoor) ∷ (0b01100, Amoand) ∷
    (0b10000, Amomin) ∷ (0b10100, Amomax) ∷ (0b11000, Amominu) ∷ (0b11100, Amomaxu) ∷ []
