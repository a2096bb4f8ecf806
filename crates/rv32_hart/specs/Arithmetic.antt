-- What each operation makes of 32-bit words (RISC-V Unprivileged ISA 20191213, RV32I, M and the word atomics of A).
use Rattle.std.specs.Prelude.{ℕ, ℤ, pos, ◌+◌, ◌-◌, ◌*◌, ◌*ℤ◌, ◌/◌, ◌%◌, ◌^◌, ◌==◌, Bool, true, false, not, nat_lt, nat_le, int_lt, int_le, int_div, int_rem, bit_and, bit_or, bit_xor, if◌then◌else◌}
use Rattle.std.specs.Int.{w8, w16, w32, w64, cast_signed, cast_unsigned, int_shr}
use Rattle.rv32_decode.specs.declared.instr.BranchOp.{BranchOp}
use Rattle.rv32_decode.specs.declared.instr.BranchOp.TheVariants.{Beq, Bne, Blt, Bge, Bltu, Bgeu}
use Rattle.rv32_decode.specs.declared.instr.LoadOp.{LoadOp}
use Rattle.rv32_decode.specs.declared.instr.LoadOp.TheVariants.{Lb, Lh, Lw, Lbu, Lhu}
use Rattle.rv32_decode.specs.declared.instr.StoreOp.{StoreOp}
use Rattle.rv32_decode.specs.declared.instr.StoreOp.TheVariants.{Sb, Sh, Sw}
use Rattle.rv32_decode.specs.declared.instr.ImmOp.{ImmOp}
use Rattle.rv32_decode.specs.declared.instr.ImmOp.TheVariants.{Addi, Slti, Sltiu, Xori, Ori, Andi, Slli, Srli, Srai}
use Rattle.rv32_decode.specs.declared.instr.RegOp.{RegOp}
use Rattle.rv32_decode.specs.declared.instr.RegOp.TheVariants.{Add, Sub, Sll, Slt, Sltu, Xor, Srl, Sra, Or, And, Mul, Mulh, Mulhsu, Mulhu, Div, Divu, Rem, Remu}
use Rattle.rv32_decode.specs.declared.instr.AmoOp.{AmoOp}
use Rattle.rv32_decode.specs.declared.instr.AmoOp.TheVariants.{Amoadd, Amoswap, Amoxor, Amoor, Amoand, Amomin, Amomax, Amominu, Amomaxu}

-- a word read as two's complement, and the word of such a number
abbrev pub signed : ℕ → ℤ
signed w = cast_signed w32 w

abbrev pub word_of_signed : ℤ → ℕ
word_of_signed z = cast_unsigned w32 z

abbrev pub less_signed : ℕ → ℕ → Bool
less_signed a b = int_lt (signed a) (signed b)

-- 1 where the test holds, else 0
abbrev pub flag : Bool → ℕ
flag b = if b then 1 else 0

-- the sum of two words
abbrev pub sum_of : ℕ → ℕ → ℕ
sum_of a b = (a + b) % 2 ^ 32

abbrev pub shifted_left : ℕ → ℕ → ℕ
shifted_left a by = a * 2 ^ by % 2 ^ 32

-- zeros come in
abbrev pub shifted_right : ℕ → ℕ → ℕ
shifted_right a by = a / 2 ^ by

-- the sign comes in
abbrev pub shifted_right_signed : ℕ → ℕ → ℕ
shifted_right_signed a by = word_of_signed (int_shr (signed a) by)

-- the high word of a product of 64 bits
abbrev pub high_word : ℤ → ℕ
high_word z = cast_unsigned w64 z / 2 ^ 32

-- quotients are rounded towards zero; a quotient by zero is all ones and a remainder by zero is the dividend
abbrev pub quotient_signed : ℕ → ℕ → ℕ
quotient_signed a b = if b == 0 then 2 ^ 32 - 1 else word_of_signed (int_div (signed a) (signed b))

abbrev pub quotient : ℕ → ℕ → ℕ
quotient a b = if b == 0 then 2 ^ 32 - 1 else a / b

abbrev pub remainder_signed : ℕ → ℕ → ℕ
remainder_signed a b = if b == 0 then a else word_of_signed (int_rem (signed a) (signed b))

abbrev pub remainder : ℕ → ℕ → ℕ
remainder a b = if b == 0 then a else a % b

-- whether a branch on registers of these values is taken
abbrev pub is_taken : BranchOp → ℕ → ℕ → Bool
is_taken Beq a b = a == b
is_taken Bne a b = not (a == b)
is_taken Blt a b = less_signed a b
is_taken Bge a b = int_le (signed b) (signed a)
is_taken Bltu a b = nat_lt a b
is_taken Bgeu a b = nat_le b a

-- the result of an operation on a register's value and an immediate
abbrev pub imm_result : ImmOp → ℕ → ℕ → ℕ
imm_result Addi a imm = sum_of a imm
imm_result Slti a imm = flag (less_signed a imm)
imm_result Sltiu a imm = flag (nat_lt a imm)
imm_result Xori a imm = bit_xor a imm
imm_result Ori a imm = bit_or a imm
imm_result Andi a imm = bit_and a imm
imm_result Slli a imm = shifted_left a imm
imm_result Srli a imm = shifted_right a imm
imm_result Srai a imm = shifted_right_signed a imm

-- the result of an operation on the values of two registers
abbrev pub reg_result : RegOp → ℕ → ℕ → ℕ
reg_result Add a b = sum_of a b
reg_result Sub a b = (a + (2 ^ 32 - b)) % 2 ^ 32
reg_result Sll a b = shifted_left a (b % 32)
reg_result Slt a b = flag (less_signed a b)
reg_result Sltu a b = flag (nat_lt a b)
reg_result Xor a b = bit_xor a b
reg_result Srl a b = shifted_right a (b % 32)
reg_result Sra a b = shifted_right_signed a (b % 32)
reg_result Or a b = bit_or a b
reg_result And a b = bit_and a b
reg_result Mul a b = a * b % 2 ^ 32
reg_result Mulh a b = high_word (signed a *ℤ signed b)
reg_result Mulhsu a b = high_word (signed a *ℤ pos b)
reg_result Mulhu a b = a * b / 2 ^ 32
reg_result Div a b = quotient_signed a b
reg_result Divu a b = quotient a b
reg_result Rem a b = remainder_signed a b
reg_result Remu a b = remainder a b

-- the word that memory takes, `old` being the word there and `value` the register's
abbrev pub amo_result : AmoOp → ℕ → ℕ → ℕ
amo_result Amoadd old value = sum_of old value
amo_result Amoswap old value = value
amo_result Amoxor old value = bit_xor old value
amo_result Amoor old value = bit_or old value
amo_result Amoand old value = bit_and old value
amo_result Amomin old value = if less_signed value old then value else old
amo_result Amomax old value = if less_signed old value then value else old
amo_result Amominu old value = if nat_lt value old then value else old
amo_result Amomaxu old value = if nat_lt old value then value else old

-- the register's value for a loaded one: its low byte or half, with its sign or zeros above, or the word
abbrev pub extended : LoadOp → ℕ → ℕ
extended Lb loaded = word_of_signed (cast_signed w8 (loaded % 2 ^ 8))
extended Lh loaded = word_of_signed (cast_signed w16 (loaded % 2 ^ 16))
extended Lw loaded = loaded
extended Lbu loaded = loaded % 2 ^ 8
extended Lhu loaded = loaded % 2 ^ 16

-- the bytes that a load or a store accesses, and whether a load has a sign
abbrev pub load_size : LoadOp → ℕ
load_size Lb = 1
load_size Lh = 2
load_size Lw = 4
load_size Lbu = 1
load_size Lhu = 2

abbrev pub is_signed : LoadOp → Bool
is_signed Lb = true
is_signed Lh = true
is_signed Lw = false
is_signed Lbu = false
is_signed Lhu = false

abbrev pub store_size : StoreOp → ℕ
store_size Sb = 1
store_size Sh = 2
store_size Sw = 4
