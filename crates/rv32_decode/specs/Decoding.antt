-- The instruction that a word holds.
use Rattle.std.specs.Prelude.{ℕ, ◌+◌, ◌*◌, ◌==◌, ◌||◌, List, [], ◌∷◌, Option, Some, None, if◌then◌else◌}
use Rattle.std.specs.Option.{option_map, option_flatten}
use Rattle.rv32_decode.specs.declared.instr.Instr.{Instr}
use Rattle.rv32_decode.specs.declared.instr.Instr.TheVariants.{Lui, Auipc, Jal, Jalr, Branch, Load, Store, Imm, Reg, Amo, Fence, Ecall, Ebreak}
use Rattle.rv32_decode.specs.Fields.{field, bit, opcode, rd, funct3, rs1, rs2, funct7, imm_i, imm_s, imm_b, imm_u, imm_j}
use Rattle.rv32_decode.specs.Tables.{look_up, branch_rows, load_rows, store_rows, imm_rows, shift_rows, reg_rows, amo_rows}

-- an instruction where the field funct3 is this number
abbrev pub where_funct3 : ℕ → ℕ → Option Instr → Option Instr
where_funct3 w number instr = if funct3 w == number then instr else None

-- funct7 and then funct3, as one number of ten bits
abbrev pub funct10 : ℕ → ℕ
funct10 w = funct7 w * 8 + funct3 w

abbrev pub branch_of : ℕ → Option Instr
branch_of w = option_map (λ op. Branch op (rs1 w) (rs2 w) (imm_b w)) (look_up branch_rows (funct3 w))

abbrev pub load_of : ℕ → Option Instr
load_of w = option_map (λ op. Load op (rd w) (rs1 w) (imm_i w)) (look_up load_rows (funct3 w))

abbrev pub store_of : ℕ → Option Instr
store_of w = option_map (λ op. Store op (rs1 w) (rs2 w) (imm_s w)) (look_up store_rows (funct3 w))

-- a shift has its distance in the field rs2
abbrev pub shift_of : ℕ → Option Instr
shift_of w = option_map (λ op. Imm op (rd w) (rs1 w) (rs2 w)) (look_up shift_rows (funct10 w))

-- funct3 tells the shifts from the other operations on an immediate
abbrev pub imm_of : ℕ → Option Instr
imm_of w =
    if funct3 w == 0b001 || funct3 w == 0b101
    then shift_of w
    else option_map (λ op. Imm op (rd w) (rs1 w) (imm_i w)) (look_up imm_rows (funct3 w))

abbrev pub reg_of : ℕ → Option Instr
reg_of w = option_map (λ op. Reg op (rd w) (rs1 w) (rs2 w)) (look_up reg_rows (funct10 w))

-- bit 26 is aq and bit 25 is rl
abbrev pub amo_of : ℕ → Option Instr
amo_of w =
    where_funct3 w 0b010
    (option_map (λ op. Amo op (bit 26 w == 1) (bit 25 w == 1) (rd w) (rs1 w) (rs2 w)) (look_up amo_rows (field 27 5 w)))

abbrev pub system_of : ℕ → Option Instr
system_of w = look_up ((0x00000073, Ecall) ∷ (0x00100073, Ebreak) ∷ []) w

-- what each opcode makes of a word
abbrev pub groups : ℕ → List (ℕ × Option Instr)
groups w =
    (0b0110111, Some (Lui (rd w) (imm_u w))) ∷
    (0b0010111, Some (Auipc (rd w) (imm_u w))) ∷
    (0b1101111, Some (Jal (rd w) (imm_j w))) ∷
    (0b1100111, where_funct3 w 0b000 (Some (Jalr (rd w) (rs1 w) (imm_i w)))) ∷
    (0b1100011, branch_of w) ∷
    (0b0000011, load_of w) ∷
    (0b0100011, store_of w) ∷
    (0b0010011, imm_of w) ∷
    (0b0110011, reg_of w) ∷
    (0b0001111, where_funct3 w 0b000 (Some Fence)) ∷
    (0b0101111, amo_of w) ∷
    (0b1110011, system_of w) ∷ []

-- the instruction of the row that a word matches, if one does
unfoldable pub decoded : ℕ → Option Instr
decoded w = option_flatten (look_up (groups w) (opcode w))
