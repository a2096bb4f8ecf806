-- A word is its six fields, and each wider field is made of them.
use Rattle.std.proofs.Common.{◌≡◌, ◌+◌, ◌*◌, ◌/◌, ◌%◌, ◌^◌, ◌<◌, ℕ, sym, ap, ◌∙◌, arith}
use Rattle.std.proofs.Math.Nat.{div-div-eq-div-mul}
use Rattle.std.proofs.lemmas.Nat.{shr_high, mod_low, shr_split}
use Rattle.rv32_decode.specs.Fields.{field, bit, opcode, rd, funct3, rs1, rs2, funct7}
use Rattle.rv32_decode.specs.Encoding.{joined_bits, word_of}

-- ---- the fields of a word that is made of six

-- these are a word's six fields
pub record HasFields (w high second first code dest low : ℕ) : Type 0 where
  pub opcode : opcode w ≡ low
  pub rd : rd w ≡ dest
  pub funct3 : funct3 w ≡ code
  pub rs1 : rs1 w ≡ first
  pub rs2 : rs2 w ≡ second
  pub funct7 : funct7 w ≡ high

-- what is above `j + k` bits is above k bits of what is above j bits
above : (w j k high low : ℕ) → low < 2 ^ k → w / 2 ^ j ≡ high * 2 ^ k + low → w / (2 ^ j * 2 ^ k) ≡ high
above w j k high low small e =
    sym (div-div-eq-div-mul w (2 ^ j) (2 ^ k)) ∙ ap (λ n. n / 2 ^ k) e ∙ shr_high high k low small

pub fields-word_of : (high second first code dest low : ℕ) → high < 128 → second < 32 → first < 32 → code < 8 → dest < 32 → low < 128
    → HasFields (word_of high second first code dest low) high second first code dest low
unfolding word_of
fields-word_of high second first code dest low hh hs hf hc hd hl =
    let n4 : ℕ = joined_bits high 5 second in
    let n3 : ℕ = joined_bits n4 5 first in
    let n2 : ℕ = joined_bits n3 3 code in
    let n1 : ℕ = joined_bits n2 5 dest in
    let w : ℕ = joined_bits n1 7 low in
    let e7 : w / 2 ^ 7 ≡ n1 = shr_high n1 7 low hl in
    let e12 : w / 2 ^ 12 ≡ n2 = above w 7 5 n2 dest hd e7 in
    let e15 : w / 2 ^ 15 ≡ n3 = above w 12 3 n3 code hc e12 in
    let e20 : w / 2 ^ 20 ≡ n4 = above w 15 5 n4 first hf e15 in
    let e25 : w / 2 ^ 25 ≡ high = above w 20 5 high second hs e20 in
    record {
      opcode = mod_low n1 7 low hl;
      rd = ap (λ n. n % 32) e7 ∙ mod_low n2 5 dest hd;
      funct3 = ap (λ n. n % 8) e12 ∙ mod_low n3 3 code hc;
      rs1 = ap (λ n. n % 32) e15 ∙ mod_low n4 5 first hf;
      rs2 = ap (λ n. n % 32) e20 ∙ mod_low high 5 second hs;
      funct7 = ap (λ n. n % 128) e25 ∙ (omega arith);
    }

-- ---- a word of 32 bits is made of its six fields

split_at : (w j k : ℕ) → joined_bits (w / (2 ^ j * 2 ^ k)) k (w / 2 ^ j % 2 ^ k) ≡ w / 2 ^ j
split_at w j k = rw (sym (div-div-eq-div-mul w (2 ^ j) (2 ^ k))) (shr_split (w / 2 ^ j) k)

pub word_of-fields : (w : ℕ) → w < 2 ^ 32 → word_of (funct7 w) (rs2 w) (rs1 w) (funct3 w) (rd w) (opcode w) ≡ w
unfolding word_of
word_of-fields w small =
    let top : w / 2 ^ 25 % 2 ^ 7 ≡ w / 2 ^ 25 = omega arith in
    let e20 : joined_bits (w / 2 ^ 25 % 2 ^ 7) 5 (rs2 w) ≡ w / 2 ^ 20 = ap (λ n. joined_bits n 5 (rs2 w)) top ∙ split_at w 20 5 in
    let e15 : joined_bits (joined_bits (w / 2 ^ 25 % 2 ^ 7) 5 (rs2 w)) 5 (rs1 w) ≡ w / 2 ^ 15 = ap (λ n. joined_bits n 5 (rs1 w)) e20 ∙ split_at w 15 5 in
    let e12 : joined_bits (joined_bits (joined_bits (w / 2 ^ 25 % 2 ^ 7) 5 (rs2 w)) 5 (rs1 w)) 3 (funct3 w) ≡ w / 2 ^ 12 = ap (λ n. joined_bits n 3 (funct3 w)) e15 ∙ split_at w 12 3 in
    let e7 : joined_bits (joined_bits (joined_bits (joined_bits (w / 2 ^ 25 % 2 ^ 7) 5 (rs2 w)) 5 (rs1 w)) 3 (funct3 w)) 5 (rd w) ≡ w / 2 ^ 7 = ap (λ n. joined_bits n 5 (rd w)) e12 ∙ split_at w 7 5 in
    ap (λ n. joined_bits n 7 (opcode w)) e7 ∙ shr_split w 7

-- ---- wider fields

pub field_20_12 : (w : ℕ) → field 20 12 w ≡ funct7 w * 32 + rs2 w
field_20_12 w = omega arith

pub bit_31 : (w : ℕ) → bit 31 w ≡ funct7 w / 64
bit_31 w = omega arith

pub field_25_6 : (w : ℕ) → field 25 6 w ≡ funct7 w % 64
field_25_6 w = omega arith

pub bit_7 : (w : ℕ) → bit 7 w ≡ rd w % 2
bit_7 w = omega arith

pub field_8_4 : (w : ℕ) → field 8 4 w ≡ rd w / 2
field_8_4 w = omega arith

pub field_12_8 : (w : ℕ) → field 12 8 w ≡ rs1 w * 8 + funct3 w
field_12_8 w = omega arith

pub bit_20 : (w : ℕ) → bit 20 w ≡ rs2 w % 2
bit_20 w = omega arith

pub field_21_10 : (w : ℕ) → field 21 10 w ≡ funct7 w % 64 * 16 + rs2 w / 2
field_21_10 w = omega arith

pub field_12_20 : (w : ℕ) → field 12 20 w ≡ (funct7 w * 32 + rs2 w) * 256 + rs1 w * 8 + funct3 w
field_12_20 w = omega arith

pub field_27_5 : (w : ℕ) → field 27 5 w ≡ funct7 w / 4
field_27_5 w = omega arith

pub bit_26 : (w : ℕ) → bit 26 w ≡ funct7 w / 2 % 2
bit_26 w = omega arith

pub bit_25 : (w : ℕ) → bit 25 w ≡ funct7 w % 2
bit_25 w = omega arith
