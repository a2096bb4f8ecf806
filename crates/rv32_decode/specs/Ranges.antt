-- The ranges of an instruction's fields.
use Rattle.std.specs.Prelude.{ℕ, ◌≡◌, ◌+◌, ◌*◌, ◌%◌, ◌^◌, ◌<◌}
use Rattle.rv32_decode.specs.declared.instr.Instr.{Instr}
use Rattle.rv32_decode.specs.declared.instr.Instr.TheVariants.{Lui, Auipc, Jal, Jalr, Branch, Load, Store, Imm, Reg, Amo, Fence, Ecall, Ebreak}
use Rattle.rv32_decode.specs.declared.instr.ImmOp.{ImmOp}
use Rattle.rv32_decode.specs.declared.instr.ImmOp.TheVariants.{Addi, Slti, Sltiu, Xori, Ori, Andi, Slli, Srli, Srai}

-- a 32-bit word that, read as two's complement, is from -sign to sign - 1
pub record IsSigned (sign imm : ℕ) : Type 0 where
  pub word : imm < 2 ^ 32
  pub range : (imm + sign) % 2 ^ 32 < 2 * sign

-- the same, and even
pub record IsOffset (sign imm : ℕ) : Type 0 where
  pub signed : IsSigned sign imm
  pub even : imm % 2 ≡ 0

-- a 32-bit word whose low twelve bits are 0
pub record IsUpper (imm : ℕ) : Type 0 where
  pub word : imm < 2 ^ 32
  pub whole : imm % 4096 ≡ 0

-- the range of an immediate, or of a shift's distance
abbrev pub ImmFits : ImmOp → ℕ → Type 0
ImmFits Addi imm = IsSigned 2048 imm
ImmFits Slti imm = IsSigned 2048 imm
ImmFits Sltiu imm = IsSigned 2048 imm
ImmFits Xori imm = IsSigned 2048 imm
ImmFits Ori imm = IsSigned 2048 imm
ImmFits Andi imm = IsSigned 2048 imm
ImmFits Slli imm = imm < 32
ImmFits Srli imm = imm < 32
ImmFits Srai imm = imm < 32

-- register numbers are below 32, and immediates in the range of their format
abbrev pub FieldsFit : Instr → Type 0
FieldsFit (Lui rd imm) = (rd < 32) × IsUpper imm
FieldsFit (Auipc rd imm) = (rd < 32) × IsUpper imm
FieldsFit (Jal rd imm) = (rd < 32) × IsOffset 1048576 imm
FieldsFit (Jalr rd rs1 imm) = (rd < 32) × (rs1 < 32) × IsSigned 2048 imm
FieldsFit (Branch op rs1 rs2 imm) = (rs1 < 32) × (rs2 < 32) × IsOffset 4096 imm
FieldsFit (Load op rd rs1 imm) = (rd < 32) × (rs1 < 32) × IsSigned 2048 imm
FieldsFit (Store op rs1 rs2 imm) = (rs1 < 32) × (rs2 < 32) × IsSigned 2048 imm
FieldsFit (Imm op rd rs1 imm) = (rd < 32) × (rs1 < 32) × ImmFits op imm
FieldsFit (Reg op rd rs1 rs2) = (rd < 32) × (rs1 < 32) × (rs2 < 32)
FieldsFit (Amo op aq rl rd rs1 rs2) = (rd < 32) × (rs1 < 32) × (rs2 < 32)
FieldsFit Fence = Unit {0}
FieldsFit Ecall = Unit {0}
FieldsFit Ebreak = Unit {0}
