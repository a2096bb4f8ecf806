-- The immediates of a word, by its six fields, and the fields by an immediate.
use Rattle.std.proofs.Common.{◌≡◌, ◌+◌, ◌*◌, ◌/◌, ◌%◌, ◌<◌, ℕ, ap, ◌∙◌, arith}
use Rattle.rv32_decode.specs.Fields.{field, bit, rd, funct3, rs1, rs2, funct7, sign_extended, imm_i, imm_s, imm_b, imm_u, imm_j}
use Rattle.rv32_decode.specs.Ranges.{IsSigned, IsOffset, IsUpper}
use Rattle.rv32_decode.proofs.FieldLemmas.{field_20_12, bit_31, field_25_6, bit_7, field_8_4, field_12_8, bit_20, field_21_10, field_12_20}
use Rattle.rv32_decode.proofs.RangeLemmas.{low-sign_extended_12, low-sign_extended_13, low-sign_extended_21, sign_extended-low_12, sign_extended-low_13, sign_extended-low_21, split_12, split_13, split_21, split_32}

-- ---- the number whose sign is extended, by the six fields

pub value_b : (w : ℕ) → bit 31 w * 4096 + bit 7 w * 2048 + field 25 6 w * 32 + field 8 4 w * 2
    ≡ funct7 w / 64 * 4096 + rd w % 2 * 2048 + funct7 w % 64 * 32 + rd w / 2 * 2
value_b w = let a = bit_31 w in let b = bit_7 w in let c = field_25_6 w in let d = field_8_4 w in cc

pub value_j : (w : ℕ) → bit 31 w * 1048576 + field 12 8 w * 4096 + bit 20 w * 2048 + field 21 10 w * 2
    ≡ funct7 w / 64 * 1048576 + (rs1 w * 8 + funct3 w) * 4096 + rs2 w % 2 * 2048 + (funct7 w % 64 * 16 + rs2 w / 2) * 2
value_j w = let a = bit_31 w in let b = field_12_8 w in let c = bit_20 w in let d = field_21_10 w in cc

-- ---- a word whose fields hold an immediate gives it back

pub imm_i-of : (w imm : ℕ) → IsSigned 2048 imm → funct7 w ≡ imm / 32 % 128 → rs2 w ≡ imm % 32 → imm_i w ≡ imm
imm_i-of w imm h high low =
    let value : field 20 12 w ≡ imm % 4096 = field_20_12 w ∙ (ap (λ n. n * 32 + rs2 w) high ∙ (ap (λ n. imm / 32 % 128 * 32 + n) low ∙ split_12 imm)) in
    ap (sign_extended 2048) value ∙ sign_extended-low_12 imm h

pub imm_s-of : (w imm : ℕ) → IsSigned 2048 imm → funct7 w ≡ imm / 32 % 128 → rd w ≡ imm % 32 → imm_s w ≡ imm
imm_s-of w imm h high low =
    let value : funct7 w * 32 + rd w ≡ imm % 4096 = ap (λ n. n * 32 + rd w) high ∙ (ap (λ n. imm / 32 % 128 * 32 + n) low ∙ split_12 imm) in
    ap (sign_extended 2048) value ∙ sign_extended-low_12 imm h

-- two numbers of which the second is below 64, 2, 16 as one, and apart
parts_b : (a b c d f l : ℕ) → b < 64 → d < 2 → f ≡ a * 64 + b → l ≡ c * 2 + d
    → f / 64 * 4096 + l % 2 * 2048 + f % 64 * 32 + l / 2 * 2 ≡ a * 4096 + d * 2048 + b * 32 + c * 2
parts_b a b c d f l hb hd high low = omega arith

pub imm_b-of : (w imm : ℕ) → IsOffset 4096 imm → funct7 w ≡ imm / 4096 % 2 * 64 + imm / 32 % 64 → rd w ≡ imm / 2 % 16 * 2 + imm / 2048 % 2 → imm_b w ≡ imm
imm_b-of w imm h high low =
    let parts : funct7 w / 64 * 4096 + rd w % 2 * 2048 + funct7 w % 64 * 32 + rd w / 2 * 2 ≡ imm / 4096 % 2 * 4096 + imm / 2048 % 2 * 2048 + imm / 32 % 64 * 32 + imm / 2 % 16 * 2
    = parts_b (imm / 4096 % 2) (imm / 32 % 64) (imm / 2 % 16) (imm / 2048 % 2) (funct7 w) (rd w) (omega arith) (omega arith) high low in
    ap (sign_extended 4096) (value_b w ∙ (parts ∙ split_13 imm h.even)) ∙ sign_extended-low_13 imm h.signed

parts_j : (a b c d e f l : ℕ) → b < 64 → d < 2 → f ≡ a * 64 + b → l ≡ c * 2 + d
    → f / 64 * 1048576 + e * 4096 + l % 2 * 2048 + (f % 64 * 16 + l / 2) * 2 ≡ a * 1048576 + e * 4096 + d * 2048 + (b * 16 + c) * 2
parts_j a b c d e f l hb hd high low = omega arith

pub imm_j-of : (w imm : ℕ) → IsOffset 1048576 imm → funct7 w ≡ imm / 1048576 % 2 * 64 + imm / 32 % 64 → rs2 w ≡ imm / 2 % 16 * 2 + imm / 2048 % 2
    → rs1 w ≡ imm / 32768 % 32 → funct3 w ≡ imm / 4096 % 8 → imm_j w ≡ imm
imm_j-of w imm h high second first code =
    let parts : funct7 w / 64 * 1048576 + (rs1 w * 8 + funct3 w) * 4096 + rs2 w % 2 * 2048 + (funct7 w % 64 * 16 + rs2 w / 2) * 2
    ≡ imm / 1048576 % 2 * 1048576 + (rs1 w * 8 + funct3 w) * 4096 + imm / 2048 % 2 * 2048 + (imm / 32 % 64 * 16 + imm / 2 % 16) * 2
    = parts_j (imm / 1048576 % 2) (imm / 32 % 64) (imm / 2 % 16) (imm / 2048 % 2) (rs1 w * 8 + funct3 w) (funct7 w) (rs2 w) (omega arith) (omega arith) high second in
    let middle : rs1 w * 8 + funct3 w ≡ imm / 32768 % 32 * 8 + imm / 4096 % 8 = ap (λ n. n * 8 + funct3 w) first ∙ ap (λ n. imm / 32768 % 32 * 8 + n) code in
    let whole : imm / 1048576 % 2 * 1048576 + (rs1 w * 8 + funct3 w) * 4096 + imm / 2048 % 2 * 2048 + (imm / 32 % 64 * 16 + imm / 2 % 16) * 2 ≡ imm % 2097152
    = rw middle (split_21 imm h.even) in
    ap (sign_extended 1048576) (value_j w ∙ (parts ∙ whole)) ∙ sign_extended-low_21 imm h.signed

pub imm_u-of : (w imm : ℕ) → IsUpper imm → funct7 w ≡ imm / 33554432 % 128 → rs2 w ≡ imm / 1048576 % 32 → rs1 w ≡ imm / 32768 % 32 → funct3 w ≡ imm / 4096 % 8 → imm_u w ≡ imm
imm_u-of w imm h high second first code =
    let value : field 12 20 w ≡ (imm / 33554432 % 128 * 32 + imm / 1048576 % 32) * 256 + imm / 32768 % 32 * 8 + imm / 4096 % 8
    = field_12_20 w ∙ cc in
    ap (λ n. n * 4096) value ∙ split_32 imm h

-- ---- the fields that hold a word's immediate are the word's

holds_12 : (imm high low : ℕ) → high < 128 → low < 32 → imm % 4096 ≡ high * 32 + low → imm / 32 % 128 ≡ high
holds_12 imm high low hh hl e = omega arith

holds_12' : (imm high low : ℕ) → low < 32 → imm % 4096 ≡ high * 32 + low → imm % 32 ≡ low
holds_12' imm high low hl e = omega arith

pub imm_i-high : (w : ℕ) → imm_i w / 32 % 128 ≡ funct7 w
imm_i-high w =
    let e : imm_i w % 4096 ≡ funct7 w * 32 + rs2 w = low-sign_extended_12 (field 20 12 w) (omega arith) ∙ field_20_12 w in
    holds_12 (imm_i w) (funct7 w) (rs2 w) (omega arith) (omega arith) e

pub imm_i-low : (w : ℕ) → imm_i w % 32 ≡ rs2 w
imm_i-low w =
    let e : imm_i w % 4096 ≡ funct7 w * 32 + rs2 w = low-sign_extended_12 (field 20 12 w) (omega arith) ∙ field_20_12 w in
    holds_12' (imm_i w) (funct7 w) (rs2 w) (omega arith) e

pub imm_s-high : (w : ℕ) → imm_s w / 32 % 128 ≡ funct7 w
imm_s-high w =
    let e : imm_s w % 4096 ≡ funct7 w * 32 + rd w = low-sign_extended_12 (funct7 w * 32 + rd w) (omega arith) in
    holds_12 (imm_s w) (funct7 w) (rd w) (omega arith) (omega arith) e

pub imm_s-low : (w : ℕ) → imm_s w % 32 ≡ rd w
imm_s-low w =
    let e : imm_s w % 4096 ≡ funct7 w * 32 + rd w = low-sign_extended_12 (funct7 w * 32 + rd w) (omega arith) in
    holds_12' (imm_s w) (funct7 w) (rd w) (omega arith) e

holds_13 : (imm high low : ℕ) → high < 128 → low < 32 → imm % 8192 ≡ high / 64 * 4096 + low % 2 * 2048 + high % 64 * 32 + low / 2 * 2
    → imm / 4096 % 2 * 64 + imm / 32 % 64 ≡ high
holds_13 imm high low hh hl e = omega arith

holds_13' : (imm high low : ℕ) → high < 128 → low < 32 → imm % 8192 ≡ high / 64 * 4096 + low % 2 * 2048 + high % 64 * 32 + low / 2 * 2
    → imm / 2 % 16 * 2 + imm / 2048 % 2 ≡ low
holds_13' imm high low hh hl e = omega arith

low_b : (w : ℕ) → imm_b w % 8192 ≡ funct7 w / 64 * 4096 + rd w % 2 * 2048 + funct7 w % 64 * 32 + rd w / 2 * 2
low_b w = low-sign_extended_13 (bit 31 w * 4096 + bit 7 w * 2048 + field 25 6 w * 32 + field 8 4 w * 2) (omega arith) ∙ value_b w

pub imm_b-high : (w : ℕ) → imm_b w / 4096 % 2 * 64 + imm_b w / 32 % 64 ≡ funct7 w
imm_b-high w = holds_13 (imm_b w) (funct7 w) (rd w) (omega arith) (omega arith) (low_b w)

pub imm_b-low : (w : ℕ) → imm_b w / 2 % 16 * 2 + imm_b w / 2048 % 2 ≡ rd w
imm_b-low w = holds_13' (imm_b w) (funct7 w) (rd w) (omega arith) (omega arith) (low_b w)

low_j : (w : ℕ) → imm_j w % 2097152 ≡ funct7 w / 64 * 1048576 + (rs1 w * 8 + funct3 w) * 4096 + rs2 w % 2 * 2048 + (funct7 w % 64 * 16 + rs2 w / 2) * 2
low_j w = low-sign_extended_21 (bit 31 w * 1048576 + field 12 8 w * 4096 + bit 20 w * 2048 + field 21 10 w * 2) (omega arith) ∙ value_j w

holds_21-high : (imm high second middle : ℕ) → high < 128 → second < 32 → middle < 256
    → imm % 2097152 ≡ high / 64 * 1048576 + middle * 4096 + second % 2 * 2048 + (high % 64 * 16 + second / 2) * 2
    → imm / 1048576 % 2 * 64 + imm / 32 % 64 ≡ high
holds_21-high imm high second middle hh hs hm e = omega arith

holds_21-second : (imm high second middle : ℕ) → high < 128 → second < 32 → middle < 256
    → imm % 2097152 ≡ high / 64 * 1048576 + middle * 4096 + second % 2 * 2048 + (high % 64 * 16 + second / 2) * 2
    → imm / 2 % 16 * 2 + imm / 2048 % 2 ≡ second
holds_21-second imm high second middle hh hs hm e = omega arith

holds_21-middle : (imm high second middle : ℕ) → high < 128 → second < 32 → middle < 256
    → imm % 2097152 ≡ high / 64 * 1048576 + middle * 4096 + second % 2 * 2048 + (high % 64 * 16 + second / 2) * 2
    → imm / 4096 % 256 ≡ middle
holds_21-middle imm high second middle hh hs hm e = omega arith

pub imm_j-high : (w : ℕ) → imm_j w / 1048576 % 2 * 64 + imm_j w / 32 % 64 ≡ funct7 w
imm_j-high w = holds_21-high (imm_j w) (funct7 w) (rs2 w) (rs1 w * 8 + funct3 w) (omega arith) (omega arith) (omega arith) (low_j w)

pub imm_j-second : (w : ℕ) → imm_j w / 2 % 16 * 2 + imm_j w / 2048 % 2 ≡ rs2 w
imm_j-second w = holds_21-second (imm_j w) (funct7 w) (rs2 w) (rs1 w * 8 + funct3 w) (omega arith) (omega arith) (omega arith) (low_j w)

middle_j : (w : ℕ) → imm_j w / 4096 % 256 ≡ rs1 w * 8 + funct3 w
middle_j w = holds_21-middle (imm_j w) (funct7 w) (rs2 w) (rs1 w * 8 + funct3 w) (omega arith) (omega arith) (omega arith) (low_j w)

middle-first : (imm first code : ℕ) → code < 8 → imm / 4096 % 256 ≡ first * 8 + code → imm / 32768 % 32 ≡ first
middle-first imm first code hc e = omega arith

middle-code : (imm first code : ℕ) → code < 8 → imm / 4096 % 256 ≡ first * 8 + code → imm / 4096 % 8 ≡ code
middle-code imm first code hc e = omega arith

pub imm_j-first : (w : ℕ) → imm_j w / 32768 % 32 ≡ rs1 w
imm_j-first w = middle-first (imm_j w) (rs1 w) (funct3 w) (omega arith) (middle_j w)

pub imm_j-code : (w : ℕ) → imm_j w / 4096 % 8 ≡ funct3 w
imm_j-code w = middle-code (imm_j w) (rs1 w) (funct3 w) (omega arith) (middle_j w)

pub imm_u-high : (w : ℕ) → imm_u w / 33554432 % 128 ≡ funct7 w
imm_u-high w = omega arith

pub imm_u-second : (w : ℕ) → imm_u w / 1048576 % 32 ≡ rs2 w
imm_u-second w = omega arith

pub imm_u-first : (w : ℕ) → imm_u w / 32768 % 32 ≡ rs1 w
imm_u-first w = omega arith

pub imm_u-code : (w : ℕ) → imm_u w / 4096 % 8 ≡ funct3 w
imm_u-code w = omega arith
