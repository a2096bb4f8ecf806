-- Immediates and the fields that hold them.
use Rattle.std.proofs.Common.{◌≡◌, ◌+◌, ◌-◌, ◌*◌, ◌/◌, ◌%◌, ◌^◌, ◌<◌, ◌≤◌, ℕ, ltb, arith}
use Rattle.std.proofs.lemmas.Bool.{cond_both, ltb-true, ltb-false}
use Rattle.rv32_decode.specs.Fields.{sign_extended}
use Rattle.rv32_decode.specs.Ranges.{IsSigned, IsUpper}

-- a fact of a sign-extended value, from the value and its range
by_sign : (sign value : ℕ) (P : ℕ → Type 0) → (value < sign → P value) → (sign ≤ value → P (value + (2 ^ 32 - 2 * sign))) → P (sign_extended sign value)
by_sign sign value P low high =
    cond_both (ltb value sign) value (value + (2 ^ 32 - 2 * sign)) P
    (λ e. low (ltb-true value sign e)) (λ e. high (ltb-false value sign e))

pub signed-sign_extended : (sign value : ℕ) → sign ≤ 1048576 → value < 2 * sign → IsSigned sign (sign_extended sign value)
signed-sign_extended sign value most inside =
    by_sign sign value (IsSigned sign)
    (λ below. record { word = omega arith; range = omega arith })
    (λ above. record { word = omega arith; range = omega arith })

-- the value's own bits
pub low-sign_extended_12 : (value : ℕ) → value < 4096 → sign_extended 2048 value % 4096 ≡ value
low-sign_extended_12 value inside = by_sign 2048 value (λ n. n % 4096 ≡ value) (λ below. omega arith) (λ above. omega arith)

pub low-sign_extended_13 : (value : ℕ) → value < 8192 → sign_extended 4096 value % 8192 ≡ value
low-sign_extended_13 value inside = by_sign 4096 value (λ n. n % 8192 ≡ value) (λ below. omega arith) (λ above. omega arith)

pub low-sign_extended_21 : (value : ℕ) → value < 2097152 → sign_extended 1048576 value % 2097152 ≡ value
low-sign_extended_21 value inside = by_sign 1048576 value (λ n. n % 2097152 ≡ value) (λ below. omega arith) (λ above. omega arith)

-- a signed word by its low bits
pub sign_extended-low_12 : (imm : ℕ) → IsSigned 2048 imm → sign_extended 2048 (imm % 4096) ≡ imm
sign_extended-low_12 imm h = by_sign 2048 (imm % 4096) (λ n. n ≡ imm) (λ below. omega arith) (λ above. omega arith)

pub sign_extended-low_13 : (imm : ℕ) → IsSigned 4096 imm → sign_extended 4096 (imm % 8192) ≡ imm
sign_extended-low_13 imm h = by_sign 4096 (imm % 8192) (λ n. n ≡ imm) (λ below. omega arith) (λ above. omega arith)

pub sign_extended-low_21 : (imm : ℕ) → IsSigned 1048576 imm → sign_extended 1048576 (imm % 2097152) ≡ imm
sign_extended-low_21 imm h = by_sign 1048576 (imm % 2097152) (λ n. n ≡ imm) (λ below. omega arith) (λ above. omega arith)

-- ---- an immediate's bits, apart and together

-- 12 bits as 7 and 5
pub split_12 : (imm : ℕ) → imm / 32 % 128 * 32 + imm % 32 ≡ imm % 4096
split_12 imm = omega arith

-- bit 12, bit 11, bits 10 to 5, bits 4 to 1 of an even number
pub split_13 : (imm : ℕ) → imm % 2 ≡ 0
    → imm / 4096 % 2 * 4096 + imm / 2048 % 2 * 2048 + imm / 32 % 64 * 32 + imm / 2 % 16 * 2 ≡ imm % 8192
split_13 imm even = omega arith

-- bit 20, bits 19 to 15, bits 14 to 12, bit 11, bits 10 to 5, bits 4 to 1 of an even number
pub split_21 : (imm : ℕ) → imm % 2 ≡ 0
    → imm / 1048576 % 2 * 1048576 + (imm / 32768 % 32 * 8 + imm / 4096 % 8) * 4096 + imm / 2048 % 2 * 2048
    + (imm / 32 % 64 * 16 + imm / 2 % 16) * 2 ≡ imm % 2097152
split_21 imm even = omega arith

-- bits 31 to 25, 24 to 20, 19 to 15 and 14 to 12 of an upper immediate
pub split_32 : (imm : ℕ) → IsUpper imm
    → ((imm / 33554432 % 128 * 32 + imm / 1048576 % 32) * 256 + imm / 32768 % 32 * 8 + imm / 4096 % 8) * 4096 ≡ imm
split_32 imm h = omega arith
