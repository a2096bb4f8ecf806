-- The word of an instruction: its fields, each at its place.
use Rattle.std.specs.Prelude.{ℕ, ◌+◌, ◌*◌, ◌/◌, ◌%◌, ◌^◌, Bool, true, false, if◌then◌else◌}
use Rattle.rv32_decode.specs.declared.instr.Instr.{Instr}
use Rattle.rv32_decode.specs.declared.instr.Instr.TheVariants.{Lui, Auipc, Jal, Jalr, Branch, Load, Store, Imm, Reg, Amo, Fence, Ecall, Ebreak}
use Rattle.rv32_decode.specs.declared.instr.BranchOp.{BranchOp}
use Rattle.rv32_decode.specs.declared.instr.BranchOp.TheVariants.{Beq, Bne, Blt, Bge, Bltu, Bgeu}
use Rattle.rv32_decode.specs.declared.instr.LoadOp.{LoadOp}
use Rattle.rv32_decode.specs.declared.instr.LoadOp.TheVariants.{Lb, Lh, Lw, Lbu, Lhu}
use Rattle.rv32_decode.specs.declared.instr.StoreOp.{StoreOp}
use Rattle.rv32_decode.specs.declared.instr.StoreOp.TheVariants.{Sb, Sh, Sw}
use Rattle.rv32_decode.specs.declared.instr.ImmOp.{ImmOp}
use Rattle.rv32_decode.specs.declared.instr.ImmOp.TheVariants.{Addi, Slti, Sltiu, Xori, Ori, Andi, Slli, Srli, Srai}
use Rattle.rv32_decode.specs.declared.instr.RegOp.{RegOp}
use Rattle.rv32_decode.specs.declared.instr.RegOp.TheVariants.{Add, Sub, Sll, Slt, Sltu, Xor, Srl, Sra, Or, And, Mul, Mulh, Mulhsu, Mulhu, Div, Divu, Rem, Remu}
use Rattle.rv32_decode.specs.declared.instr.AmoOp.{AmoOp}
use Rattle.rv32_decode.specs.declared.instr.AmoOp.TheVariants.{Amoadd, Amoswap, Amoxor, Amoor, Amoand, Amomin, Amomax, Amominu, Amomaxu}

-- two numbers as one, of which the second has this many bits
abbrev pub joined_bits : ℕ → ℕ → ℕ → ℕ
joined_bits high bits low = high * 2 ^ bits + low

-- the word of six fields: funct7, rs2, rs1, funct3, rd, opcode
unfoldable pub word_of : ℕ → ℕ → ℕ → ℕ → ℕ → ℕ → ℕ
word_of funct7 rs2 rs1 funct3 rd opcode =
    joined_bits (joined_bits (joined_bits (joined_bits (joined_bits funct7 5 rs2) 5 rs1) 3 funct3) 5 rd) 7 opcode

-- an immediate in bits 31 to 20
abbrev pub word_i : ℕ → ℕ → ℕ → ℕ → ℕ → ℕ
word_i imm rs1 funct3 rd opcode = word_of (imm / 32 % 128) (imm % 32) rs1 funct3 rd opcode

-- an immediate in bits 31 to 25 and 11 to 7
abbrev pub word_s : ℕ → ℕ → ℕ → ℕ → ℕ → ℕ
word_s imm rs2 rs1 funct3 opcode = word_of (imm / 32 % 128) rs2 rs1 funct3 (imm % 32) opcode

-- an immediate's bit 12 in bit 31, bit 11 in bit 7, bits 10 to 5 in bits 30 to 25, bits 4 to 1 in bits 11 to 8
abbrev pub word_b : ℕ → ℕ → ℕ → ℕ → ℕ → ℕ
word_b imm rs2 rs1 funct3 opcode =
    word_of (imm / 4096 % 2 * 64 + imm / 32 % 64) rs2 rs1 funct3 (imm / 2 % 16 * 2 + imm / 2048 % 2) opcode

-- an immediate's bits 31 to 12 in their places
abbrev pub word_u : ℕ → ℕ → ℕ → ℕ
word_u imm rd opcode =
    word_of (imm / 33554432 % 128) (imm / 1048576 % 32) (imm / 32768 % 32) (imm / 4096 % 8) rd opcode

-- an immediate's bit 20 in bit 31, bits 19 to 12 in their places, bit 11 in bit 20, bits 10 to 1 in bits 30 to 21
abbrev pub word_j : ℕ → ℕ → ℕ → ℕ
word_j imm rd opcode =
    word_of (imm / 1048576 % 2 * 64 + imm / 32 % 64) (imm / 2 % 16 * 2 + imm / 2048 % 2)
    (imm / 32768 % 32) (imm / 4096 % 8) rd opcode

abbrev pub branch_code : BranchOp → ℕ
branch_code Beq = 0b000
branch_code Bne = 0b001
branch_code Blt = 0b100
branch_code Bge = 0b101
branch_code Bltu = 0b110
branch_code Bgeu = 0b111

abbrev pub load_code : LoadOp → ℕ
load_code Lb = 0b000
load_code Lh = 0b001
load_code Lw = 0b010
load_code Lbu = 0b100
load_code Lhu = 0b101

abbrev pub store_code : StoreOp → ℕ
store_code Sb = 0b000
store_code Sh = 0b001
store_code Sw = 0b010

abbrev pub imm_code : ImmOp → ℕ
imm_code Addi = 0b000
imm_code Slti = 0b010
imm_code Sltiu = 0b011
imm_code Xori = 0b100
imm_code Ori = 0b110
imm_code Andi = 0b111
imm_code Slli = 0b0000000_001
imm_code Srli = 0b0000000_101
imm_code Srai = 0b0100000_101

abbrev pub is_shift : ImmOp → Bool
is_shift Addi = false
is_shift Slti = false
is_shift Sltiu = false
is_shift Xori = false
is_shift Ori = false
is_shift Andi = false
is_shift Slli = true
is_shift Srli = true
is_shift Srai = true

-- funct7 and then funct3, as one number of ten bits
abbrev pub reg_code : RegOp → ℕ
reg_code Add = 0b0000000_000
reg_code Sub = 0b0100000_000
reg_code Sll = 0b0000000_001
reg_code Slt = 0b0000000_010
reg_code Sltu = 0b0000000_011
reg_code Xor = 0b0000000_100
reg_code Srl = 0b0000000_101
reg_code Sra = 0b0100000_101
reg_code Or = 0b0000000_110
reg_code And = 0b0000000_111
reg_code Mul = 0b0000001_000
reg_code Mulh = 0b0000001_001
reg_code Mulhsu = 0b0000001_010
reg_code Mulhu = 0b0000001_011
reg_code Div = 0b0000001_100
reg_code Divu = 0b0000001_101
reg_code Rem = 0b0000001_110
reg_code Remu = 0b0000001_111

abbrev pub amo_code : AmoOp → ℕ
amo_code Amoadd = 0b00000
amo_code Amoswap = 0b00001
amo_code Amoxor = 0b00100
amo_code Amoor = 0b01000
amo_code Amoand = 0b01100
amo_code Amomin = 0b10000
amo_code Amomax = 0b10100
amo_code Amominu = 0b11000
amo_code Amomaxu = 0b11100

abbrev pub bit_of : Bool → ℕ
bit_of b = if b then 1 else 0

-- the word of an instruction; a FENCE has that of the fence of all accesses
unfoldable pub encoded : Instr → ℕ
encoded (Lui rd imm) = word_u imm rd 0b0110111
encoded (Auipc rd imm) = word_u imm rd 0b0010111
encoded (Jal rd imm) = word_j imm rd 0b1101111
encoded (Jalr rd rs1 imm) = word_i imm rs1 0b000 rd 0b1100111
encoded (Branch op rs1 rs2 imm) = word_b imm rs2 rs1 (branch_code op) 0b1100011
encoded (Load op rd rs1 imm) = word_i imm rs1 (load_code op) rd 0b0000011
encoded (Store op rs1 rs2 imm) = word_s imm rs2 rs1 (store_code op) 0b0100011
encoded (Imm op rd rs1 imm) =
    if is_shift op
    then word_of (imm_code op / 8) imm rs1 (imm_code op % 8) rd 0b0010011
    else word_i imm rs1 (imm_code op) rd 0b0010011
encoded (Reg op rd rs1 rs2) = word_of (reg_code op / 8) rs2 rs1 (reg_code op % 8) rd 0b0110011
encoded (Amo op aq rl rd rs1 rs2) =
    word_of (amo_code op * 4 + bit_of aq * 2 + bit_of rl) rs2 rs1 0b010 rd 0b0101111
encoded Fence = 0x0ff0000f
encoded Ecall = 0x00000073
encoded Ebreak = 0x00100073
