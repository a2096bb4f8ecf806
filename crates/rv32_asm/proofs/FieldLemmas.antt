-- An instruction with a number in range has its fields in range.
use Rattle.std.proofs.Common.{◌≡◌, ℕ, ◌*◌, ◌%◌, ◌^◌, ◌<◌, ◌≤◌, ◌&&◌, true, arith}
use Rattle.std.specs.Prelude.{ℤ, pos, negsuc}
use Rattle.std.proofs.lemmas.Bool.{eqb-true}
use Rattle.std.proofs.lemmas.Bool.Decides.{nat_tests}
use Rattle.rv32_decode.specs.declared.instr.Instr.{Instr}
use Rattle.rv32_decode.specs.declared.instr.Instr.TheVariants.{Lui, Auipc, Jal, Jalr, Branch, Load, Store, Imm, Reg, Amo, Fence, Ecall, Ebreak}
use Rattle.rv32_decode.specs.declared.instr.ImmOp.{ImmOp}
use Rattle.rv32_decode.specs.declared.instr.ImmOp.TheVariants.{Addi, Slti, Sltiu, Xori, Ori, Andi, Slli, Srli, Srai}
use Rattle.rv32_decode.specs.Ranges.{IsSigned, IsOffset, IsUpper, ImmFits, FieldsFit}
use Rattle.rv32_asm.specs.Grammar.{with_imm}
use Rattle.rv32_asm.specs.Assembled.{in_signed, in_unsigned, is_even, is_in_range, imm_by, complement}
use Rattle.rv32_asm.proofs.RegisterLemmas.{and_true}

signed_fits : (sign : ℕ) (z : ℤ) → sign ≤ 2 ^ 30 → in_signed sign z ≡ true → IsSigned sign (complement z)
signed_fits sign (pos n) small h =
    let low : n < sign = grind (arith, nat_tests) in
    record { word = omega arith; range = omega arith }
signed_fits sign (negsuc n) small h =
    let low : n < sign = grind (arith, nat_tests) in
    record { word = omega arith; range = omega arith }

even_fits : (sign : ℕ) (z : ℤ) → sign ≤ 2 ^ 30 → in_signed sign z ≡ true → is_even z ≡ true → complement z % 2 ≡ 0
even_fits sign (pos n) small h even = eqb-true (n % 2) 0 even
even_fits sign (negsuc n) small h even =
    let odd : n % 2 ≡ 1 = eqb-true (n % 2) 1 even in
    let low : n < sign = grind (arith, nat_tests) in
    omega arith

offset_fits : (sign : ℕ) (z : ℤ) → sign ≤ 2 ^ 30 → (in_signed sign z && is_even z) ≡ true → IsOffset sign (complement z)
offset_fits sign z small h =
    let both = and_true (in_signed sign z) (is_even z) h in
    record { signed = signed_fits sign z small both.0; even = even_fits sign z small both.0 both.1 }

upper_fits : (z : ℤ) → in_unsigned 1048576 z ≡ true → IsUpper (complement z * 4096)
upper_fits (pos n) h =
    let low : n < 1048576 = grind (arith, nat_tests) in
    record { word = omega arith; whole = omega arith }
upper_fits (negsuc n) h = absurd (cc)

shift_fits : (z : ℤ) → in_unsigned 32 z ≡ true → complement z < 32
shift_fits (pos n) h = grind (arith, nat_tests)
shift_fits (negsuc n) h = absurd (cc)

imm_fits : (op : ImmOp) (rd rs1 imm : ℕ) (z : ℤ) → is_in_range (Imm op rd rs1 imm) z ≡ true → ImmFits op (complement z)
imm_fits Addi rd rs1 imm z h = signed_fits 2048 z (omega arith) h
imm_fits Slti rd rs1 imm z h = signed_fits 2048 z (omega arith) h
imm_fits Sltiu rd rs1 imm z h = signed_fits 2048 z (omega arith) h
imm_fits Xori rd rs1 imm z h = signed_fits 2048 z (omega arith) h
imm_fits Ori rd rs1 imm z h = signed_fits 2048 z (omega arith) h
imm_fits Andi rd rs1 imm z h = signed_fits 2048 z (omega arith) h
imm_fits Slli rd rs1 imm z h = shift_fits z h
imm_fits Srli rd rs1 imm z h = shift_fits z h
imm_fits Srai rd rs1 imm z h = shift_fits z h

pub fields_fit : (i : Instr) (z : ℤ) → FieldsFit i → is_in_range i z ≡ true → FieldsFit (with_imm i (imm_by i z))
fields_fit (Lui rd imm) z fits h = (fits.0, upper_fits z h)
fields_fit (Auipc rd imm) z fits h = (fits.0, upper_fits z h)
fields_fit (Jal rd imm) z fits h = (fits.0, offset_fits 1048576 z (omega arith) h)
fields_fit (Jalr rd rs1 imm) z fits h = (fits.0, fits.1, signed_fits 2048 z (omega arith) h)
fields_fit (Branch op rs1 rs2 imm) z fits h = (fits.0, fits.1, offset_fits 4096 z (omega arith) h)
fields_fit (Load op rd rs1 imm) z fits h = (fits.0, fits.1, signed_fits 2048 z (omega arith) h)
fields_fit (Store op rs1 rs2 imm) z fits h = (fits.0, fits.1, signed_fits 2048 z (omega arith) h)
fields_fit (Imm op rd rs1 imm) z fits h = (fits.0, fits.1, imm_fits op rd rs1 imm z h)
fields_fit (Reg op rd rs1 rs2) z fits h = fits
fields_fit (Amo op aq rl rd rs1 rs2) z fits h = fits
fields_fit Fence z fits h = tt
fields_fit Ecall z fits h = tt
fields_fit Ebreak z fits h = tt
