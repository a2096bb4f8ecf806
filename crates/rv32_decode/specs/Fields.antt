-- The fields of a word, and the immediate of each format.
use Rattle.std.specs.Prelude.{ℕ, ◌+◌, ◌-◌, ◌*◌, ◌/◌, ◌%◌, ◌^◌, nat_lt, if◌then◌else◌}

-- `bits` bits of a word, from the bit `low` up
abbrev pub field : ℕ → ℕ → ℕ → ℕ
field low bits word = word / 2 ^ low % 2 ^ bits

abbrev pub bit : ℕ → ℕ → ℕ
bit place word = field place 1 word

abbrev pub opcode : ℕ → ℕ
opcode w = w % 2 ^ 7

abbrev pub rd : ℕ → ℕ
rd w = field 7 5 w

abbrev pub funct3 : ℕ → ℕ
funct3 w = field 12 3 w

abbrev pub rs1 : ℕ → ℕ
rs1 w = field 15 5 w

abbrev pub rs2 : ℕ → ℕ
rs2 w = field 20 5 w

abbrev pub funct7 : ℕ → ℕ
funct7 w = field 25 7 w

-- the word of a number below 2 * sign whose bit of weight `sign` is its sign
abbrev pub sign_extended : ℕ → ℕ → ℕ
sign_extended sign value = if nat_lt value sign then value else value + (2 ^ 32 - 2 * sign)

-- bits 31 to 20
abbrev pub imm_i : ℕ → ℕ
imm_i w = sign_extended 2048 (field 20 12 w)

-- bits 31 to 25, then 11 to 7
abbrev pub imm_s : ℕ → ℕ
imm_s w = sign_extended 2048 (field 25 7 w * 32 + field 7 5 w)

-- bit 31, bit 7, bits 30 to 25, bits 11 to 8, then a 0
abbrev pub imm_b : ℕ → ℕ
imm_b w = sign_extended 4096 (bit 31 w * 4096 + bit 7 w * 2048 + field 25 6 w * 32 + field 8 4 w * 2)

-- bits 31 to 12, then twelve 0
abbrev pub imm_u : ℕ → ℕ
imm_u w = field 12 20 w * 4096

-- bit 31, bits 19 to 12, bit 20, bits 30 to 21, then a 0
abbrev pub imm_j : ℕ → ℕ
imm_j w = sign_extended 1048576 (bit 31 w * 1048576 + field 12 8 w * 4096 + bit 20 w * 2048 + field 21 10 w * 2)
