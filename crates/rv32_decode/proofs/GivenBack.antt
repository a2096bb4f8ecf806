-- What holds of each row's instruction holds of the instruction of a word: its fields are in their
-- ranges, and but for a FENCE it gives the word back.
use Rattle.std.proofs.Common.{◌≡◌, ◌≢◌, ◌+◌, ◌-◌, ◌*◌, ◌/◌, ◌%◌, ◌^◌, ◌<◌, ◌≤◌, ℕ, true, false, [], ◌∷◌, Option, Some, None, refl, sym, ap, ◌∙◌, arith, cond, eqb, ltb, ◌||◌}
use Rattle.std.specs.Prelude.{IfSome}
use Rattle.std.specs.List.{AllByRecursion}
use Rattle.std.specs.Option.{option_map, option_flatten}
use Rattle.std.proofs.lemmas.Bool.{cond_both, eqb-true, eqb-false}
use Rattle.rv32_decode.specs.declared.instr.Instr.{Instr}
use Rattle.rv32_decode.specs.declared.instr.Instr.TheVariants.{Lui, Auipc, Jal, Jalr, Branch, Load, Store, Imm, Reg, Amo, Fence, Ecall, Ebreak}
use Rattle.rv32_decode.specs.declared.instr.BranchOp.{BranchOp}
use Rattle.rv32_decode.specs.declared.instr.LoadOp.{LoadOp}
use Rattle.rv32_decode.specs.declared.instr.StoreOp.{StoreOp}
use Rattle.rv32_decode.specs.declared.instr.ImmOp.{ImmOp}
use Rattle.rv32_decode.specs.declared.instr.ImmOp.TheVariants.{Addi, Slti, Sltiu, Xori, Ori, Andi, Slli, Srli, Srai}
use Rattle.rv32_decode.specs.declared.instr.RegOp.{RegOp}
use Rattle.rv32_decode.specs.declared.instr.AmoOp.{AmoOp}
use Rattle.rv32_decode.specs.Fields.{field, bit, opcode, rd, funct3, rs1, rs2, funct7, imm_i, imm_s, imm_b, imm_u, imm_j}
use Rattle.rv32_decode.specs.Tables.{look_up, branch_rows, load_rows, store_rows, imm_rows, shift_rows, reg_rows, amo_rows}
use Rattle.rv32_decode.specs.Decoding.{groups, decoded, where_funct3, funct10, branch_of, load_of, store_of, shift_of, imm_of, reg_of, amo_of, system_of}
use Rattle.rv32_decode.specs.Ranges.{FieldsFit, ImmFits, IsSigned, IsOffset, IsUpper}
use Rattle.rv32_decode.specs.Encoding.{encoded, word_of, word_i, word_s, word_b, word_u, word_j, branch_code, load_code, store_code, imm_code, reg_code, amo_code, is_shift, bit_of}
use Rattle.rv32_decode.proofs.FieldLemmas.{word_of-fields, field_27_5, bit_25, bit_26}
use Rattle.rv32_decode.proofs.RangeLemmas.{signed-sign_extended}
use Rattle.rv32_decode.proofs.TableLemmas.{look_up-all, option_map-all, branch-code_of, load-code_of, store-code_of, reg-code_of, amo-code_of, imm-code_of, shift-code_of, HasCode}
use Rattle.rv32_decode.proofs.ImmediateLemmas.{imm_i-high, imm_i-low, imm_s-high, imm_s-low, imm_b-high, imm_b-low, imm_j-high, imm_j-second, imm_j-first, imm_j-code, imm_u-high, imm_u-second, imm_u-first, imm_u-code}

-- six fields that are a word's make the word
made : (w high second first code dest low : ℕ) → w < 2 ^ 32
    → high ≡ funct7 w → second ≡ rs2 w → first ≡ rs1 w → code ≡ funct3 w → dest ≡ rd w → low ≡ opcode w
    → word_of high second first code dest low ≡ w
made w high second first code dest low small a b c d e f =
    let same : word_of high second first code dest low ≡ word_of (funct7 w) (rs2 w) (rs1 w) (funct3 w) (rd w) (opcode w) = cc in
    same ∙ word_of-fields w small

-- ---- each format

made_i : (w code low : ℕ) → w < 2 ^ 32 → code ≡ funct3 w → low ≡ opcode w → word_i (imm_i w) (rs1 w) code (rd w) low ≡ w
made_i w code low small e f =
    made w (imm_i w / 32 % 128) (imm_i w % 32) (rs1 w) code (rd w) low small (imm_i-high w) (imm_i-low w) refl e refl f

made_s : (w code low : ℕ) → w < 2 ^ 32 → code ≡ funct3 w → low ≡ opcode w → word_s (imm_s w) (rs2 w) (rs1 w) code low ≡ w
made_s w code low small e f =
    made w (imm_s w / 32 % 128) (rs2 w) (rs1 w) code (imm_s w % 32) low small (imm_s-high w) refl refl e (imm_s-low w) f

made_b : (w code low : ℕ) → w < 2 ^ 32 → code ≡ funct3 w → low ≡ opcode w → word_b (imm_b w) (rs2 w) (rs1 w) code low ≡ w
made_b w code low small e f =
    made w (imm_b w / 4096 % 2 * 64 + imm_b w / 32 % 64) (rs2 w) (rs1 w) code (imm_b w / 2 % 16 * 2 + imm_b w / 2048 % 2) low small
    (imm_b-high w) refl refl e (imm_b-low w) f

made_u : (w low : ℕ) → w < 2 ^ 32 → low ≡ opcode w → word_u (imm_u w) (rd w) low ≡ w
made_u w low small f =
    made w (imm_u w / 33554432 % 128) (imm_u w / 1048576 % 32) (imm_u w / 32768 % 32) (imm_u w / 4096 % 8) (rd w) low small
    (imm_u-high w) (imm_u-second w) (imm_u-first w) (imm_u-code w) refl f

made_j : (w low : ℕ) → w < 2 ^ 32 → low ≡ opcode w → word_j (imm_j w) (rd w) low ≡ w
made_j w low small f =
    made w (imm_j w / 1048576 % 2 * 64 + imm_j w / 32 % 64) (imm_j w / 2 % 16 * 2 + imm_j w / 2048 % 2) (imm_j w / 32768 % 32)
    (imm_j w / 4096 % 8) (rd w) low small
    (imm_j-high w) (imm_j-second w) (imm_j-first w) (imm_j-code w) refl f

-- funct7 and funct3 as one number, apart
apart_high : (high code : ℕ) → code < 8 → (high * 8 + code) / 8 ≡ high
apart_high high code h = omega arith

apart_low : (high code : ℕ) → code < 8 → (high * 8 + code) % 8 ≡ code
apart_low high code h = omega arith

made_r : (w code low : ℕ) → w < 2 ^ 32 → code ≡ funct10 w → low ≡ opcode w → word_of (code / 8) (rs2 w) (rs1 w) (code % 8) (rd w) low ≡ w
made_r w code low small e f =
    made w (code / 8) (rs2 w) (rs1 w) (code % 8) (rd w) low small
    (ap (λ n. n / 8) e ∙ apart_high (funct7 w) (funct3 w) (omega arith)) refl refl
    (ap (λ n. n % 8) e ∙ apart_low (funct7 w) (funct3 w) (omega arith)) refl f

bit_of-is_one : (b : ℕ) → b < 2 → bit_of (eqb b 1) ≡ b
bit_of-is_one b h =
    cond_both (eqb b 1) 1 0 (λ n. n ≡ b) (λ e. sym (eqb-true b 1 e)) (λ e. let other : b ≢ 1 = eqb-false b 1 e in omega arith)

amo_high : (high code aq rl : ℕ) → high < 128 → code ≡ high / 4 → aq ≡ high / 2 % 2 → rl ≡ high % 2 → code * 4 + aq * 2 + rl ≡ high
amo_high high code aq rl h a b c = omega arith

made_amo : (w code : ℕ) → w < 2 ^ 32 → code ≡ field 27 5 w → 0b010 ≡ funct3 w → 0b0101111 ≡ opcode w
    → word_of (code * 4 + bit_of (eqb (bit 26 w) 1) * 2 + bit_of (eqb (bit 25 w) 1)) (rs2 w) (rs1 w) 0b010 (rd w) 0b0101111 ≡ w
made_amo w code small e f g =
    made w (code * 4 + bit_of (eqb (bit 26 w) 1) * 2 + bit_of (eqb (bit 25 w) 1)) (rs2 w) (rs1 w) 0b010 (rd w) 0b0101111 small
    (amo_high (funct7 w) code (bit_of (eqb (bit 26 w) 1)) (bit_of (eqb (bit 25 w) 1)) (omega arith) (e ∙ field_27_5 w)
    (bit_of-is_one (bit 26 w) (omega arith) ∙ bit_26 w) (bit_of-is_one (bit 25 w) (omega arith) ∙ bit_25 w))
    refl refl f refl g

-- ---- what a word's instruction is

-- an instruction that a word holds
pub record IsOf (w : ℕ) (i : Instr) : Type 0 where
  pub fields : FieldsFit i
  pub back : i ≢ Fence → encoded i ≡ w

-- immediates are in their ranges

signed_i : (w : ℕ) → IsSigned 2048 (imm_i w)
signed_i w = signed-sign_extended 2048 (field 20 12 w) (omega arith) (omega arith)

signed_s : (w : ℕ) → IsSigned 2048 (imm_s w)
signed_s w = signed-sign_extended 2048 (field 25 7 w * 32 + field 7 5 w) (omega arith) (omega arith)

even_extended : (sign value : ℕ) → sign % 2 ≡ 0 → sign ≤ 1048576 → value < 2 * sign → value % 2 ≡ 0 → IsOffset sign (cond (ltb value sign) value (value + (2 ^ 32 - 2 * sign)))
even_extended sign value whole most inside even =
    record {
      signed = signed-sign_extended sign value most inside;
      even = cond_both (ltb value sign) value (value + (2 ^ 32 - 2 * sign)) (λ n. n % 2 ≡ 0) (λ _. even) (λ _. omega arith);
    }

offset_b : (w : ℕ) → IsOffset 4096 (imm_b w)
offset_b w = even_extended 4096 (bit 31 w * 4096 + bit 7 w * 2048 + field 25 6 w * 32 + field 8 4 w * 2) refl (omega arith) (omega arith) (omega arith)

offset_j : (w : ℕ) → IsOffset 1048576 (imm_j w)
offset_j w =
    even_extended 1048576 (bit 31 w * 1048576 + field 12 8 w * 4096 + bit 20 w * 2048 + field 21 10 w * 2) refl (omega arith) (omega arith) (omega arith)

upper : (w : ℕ) → IsUpper (imm_u w)
upper w = record { word = omega arith; whole = omega arith }

-- register numbers are below 32
rd-lt : (w : ℕ) → rd w < 32
rd-lt w = omega arith

rs1-lt : (w : ℕ) → rs1 w < 32
rs1-lt w = omega arith

rs2-lt : (w : ℕ) → rs2 w < 32
rs2-lt w = omega arith

-- the range of an immediate, by the kind of the operation
plain_fits : (op : ImmOp) (imm : ℕ) → is_shift op ≡ false → IsSigned 2048 imm → ImmFits op imm
plain_fits Addi imm e h = h
plain_fits Slti imm e h = h
plain_fits Sltiu imm e h = h
plain_fits Xori imm e h = h
plain_fits Ori imm e h = h
plain_fits Andi imm e h = h
plain_fits Slli imm e h = cc
plain_fits Srli imm e h = cc
plain_fits Srai imm e h = cc

shift_fits : (op : ImmOp) (imm : ℕ) → is_shift op ≡ true → imm < 32 → ImmFits op imm
shift_fits Addi imm e h = absurd cc
shift_fits Slti imm e h = absurd cc
shift_fits Sltiu imm e h = absurd cc
shift_fits Xori imm e h = absurd cc
shift_fits Ori imm e h = absurd cc
shift_fits Andi imm e h = absurd cc
shift_fits Slli imm e h = h
shift_fits Srli imm e h = h
shift_fits Srai imm e h = h

-- ---- the instruction of each row

lui-is : (w : ℕ) → w < 2 ^ 32 → opcode w ≡ 0b0110111 → IsOf w (Lui (rd w) (imm_u w))
unfolding encoded
lui-is w small e = record { fields = (rd-lt w, upper w); back = λ _. made_u w 0b0110111 small (sym e) }

auipc-is : (w : ℕ) → w < 2 ^ 32 → opcode w ≡ 0b0010111 → IsOf w (Auipc (rd w) (imm_u w))
unfolding encoded
auipc-is w small e = record { fields = (rd-lt w, upper w); back = λ _. made_u w 0b0010111 small (sym e) }

jal-is : (w : ℕ) → w < 2 ^ 32 → opcode w ≡ 0b1101111 → IsOf w (Jal (rd w) (imm_j w))
unfolding encoded
jal-is w small e = record { fields = (rd-lt w, offset_j w); back = λ _. made_j w 0b1101111 small (sym e) }

jalr-is : (w : ℕ) → w < 2 ^ 32 → opcode w ≡ 0b1100111 → funct3 w ≡ 0b000 → IsOf w (Jalr (rd w) (rs1 w) (imm_i w))
unfolding encoded
jalr-is w small e f = record { fields = (rd-lt w, rs1-lt w, signed_i w); back = λ _. made_i w 0b000 0b1100111 small (sym f) (sym e) }

branch-is : (w : ℕ) → w < 2 ^ 32 → opcode w ≡ 0b1100011 → (op : BranchOp) → branch_code op ≡ funct3 w → IsOf w (Branch op (rs1 w) (rs2 w) (imm_b w))
unfolding encoded
branch-is w small e op f = record { fields = (rs1-lt w, rs2-lt w, offset_b w); back = λ _. made_b w (branch_code op) 0b1100011 small f (sym e) }

load-is : (w : ℕ) → w < 2 ^ 32 → opcode w ≡ 0b0000011 → (op : LoadOp) → load_code op ≡ funct3 w → IsOf w (Load op (rd w) (rs1 w) (imm_i w))
unfolding encoded
load-is w small e op f = record { fields = (rd-lt w, rs1-lt w, signed_i w); back = λ _. made_i w (load_code op) 0b0000011 small f (sym e) }

store-is : (w : ℕ) → w < 2 ^ 32 → opcode w ≡ 0b0100011 → (op : StoreOp) → store_code op ≡ funct3 w → IsOf w (Store op (rs1 w) (rs2 w) (imm_s w))
unfolding encoded
store-is w small e op f = record { fields = (rs1-lt w, rs2-lt w, signed_s w); back = λ _. made_s w (store_code op) 0b0100011 small f (sym e) }

imm-is : (w : ℕ) → w < 2 ^ 32 → opcode w ≡ 0b0010011 → (op : ImmOp) → HasCode false (funct3 w) op → IsOf w (Imm op (rd w) (rs1 w) (imm_i w))
unfolding encoded
imm-is w small e op f =
    record {
      fields = (rd-lt w, rs1-lt w, plain_fits op (imm_i w) f.kind (signed_i w));
      back = λ _. rw f.kind (made_i w (imm_code op) 0b0010011 small f.code (sym e));
    }

shift-is : (w : ℕ) → w < 2 ^ 32 → opcode w ≡ 0b0010011 → (op : ImmOp) → HasCode true (funct10 w) op → IsOf w (Imm op (rd w) (rs1 w) (rs2 w))
unfolding encoded
shift-is w small e op f =
    record {
      fields = (rd-lt w, rs1-lt w, shift_fits op (rs2 w) f.kind (rs2-lt w));
      back = λ _. rw f.kind (made_r w (imm_code op) 0b0010011 small f.code (sym e));
    }

reg-is : (w : ℕ) → w < 2 ^ 32 → opcode w ≡ 0b0110011 → (op : RegOp) → reg_code op ≡ funct10 w → IsOf w (Reg op (rd w) (rs1 w) (rs2 w))
unfolding encoded
reg-is w small e op f = record { fields = (rd-lt w, rs1-lt w, rs2-lt w); back = λ _. made_r w (reg_code op) 0b0110011 small f (sym e) }

amo-is : (w : ℕ) → w < 2 ^ 32 → opcode w ≡ 0b0101111 → funct3 w ≡ 0b010 → (op : AmoOp) → amo_code op ≡ field 27 5 w
    → IsOf w (Amo op (eqb (bit 26 w) 1) (eqb (bit 25 w) 1) (rd w) (rs1 w) (rs2 w))
unfolding encoded
amo-is w small e f op g = record { fields = (rd-lt w, rs1-lt w, rs2-lt w); back = λ _. made_amo w (amo_code op) small g (sym f) (sym e) }

fence-is : (w : ℕ) → IsOf w Fence
fence-is w = record { fields = tt; back = λ other. absurd (other refl) }

system-is : (w : ℕ) → IfSome (system_of w) (IsOf w)
unfolding encoded
system-is w =
    look_up-all (IsOf w) ((0x00000073, Ecall) ∷ (0x00100073, Ebreak) ∷ []) w
    (λ e. record { fields = tt; back = λ _. sym e }, (λ e. record { fields = tt; back = λ _. sym e }, tt))

-- ---- the instruction of each opcode

where_funct3-all : (P : Instr → Type 0) (w number : ℕ) (o : Option Instr) → (funct3 w ≡ number → IfSome o P) → IfSome (where_funct3 w number o) P
where_funct3-all P w number o h =
    cond_both (eqb (funct3 w) number) o None (λ (x : Option Instr). IfSome x P) (λ e. h (eqb-true (funct3 w) number e)) (λ _. tt)

branch_of-is : (w : ℕ) → w < 2 ^ 32 → opcode w ≡ 0b1100011 → IfSome (branch_of w) (IsOf w)
branch_of-is w small e =
    option_map-all (λ op. Branch op (rs1 w) (rs2 w) (imm_b w)) (λ op. branch_code op ≡ funct3 w) (IsOf w) (look_up branch_rows (funct3 w))
    (branch-code_of (funct3 w)) (λ op f. branch-is w small e op f)

load_of-is : (w : ℕ) → w < 2 ^ 32 → opcode w ≡ 0b0000011 → IfSome (load_of w) (IsOf w)
load_of-is w small e =
    option_map-all (λ op. Load op (rd w) (rs1 w) (imm_i w)) (λ op. load_code op ≡ funct3 w) (IsOf w) (look_up load_rows (funct3 w))
    (load-code_of (funct3 w)) (λ op f. load-is w small e op f)

store_of-is : (w : ℕ) → w < 2 ^ 32 → opcode w ≡ 0b0100011 → IfSome (store_of w) (IsOf w)
store_of-is w small e =
    option_map-all (λ op. Store op (rs1 w) (rs2 w) (imm_s w)) (λ op. store_code op ≡ funct3 w) (IsOf w) (look_up store_rows (funct3 w))
    (store-code_of (funct3 w)) (λ op f. store-is w small e op f)

imm_of-is : (w : ℕ) → w < 2 ^ 32 → opcode w ≡ 0b0010011 → IfSome (imm_of w) (IsOf w)
imm_of-is w small e =
    cond_both (eqb (funct3 w) 0b001 || eqb (funct3 w) 0b101) (shift_of w)
    (option_map (λ op. Imm op (rd w) (rs1 w) (imm_i w)) (look_up imm_rows (funct3 w))) (λ (o : Option Instr). IfSome o (IsOf w))
    (λ _. option_map-all (λ op. Imm op (rd w) (rs1 w) (rs2 w)) (HasCode true (funct10 w)) (IsOf w) (look_up shift_rows (funct10 w))
    (shift-code_of (funct10 w)) (λ op f. shift-is w small e op f))
    (λ _. option_map-all (λ op. Imm op (rd w) (rs1 w) (imm_i w)) (HasCode false (funct3 w)) (IsOf w) (look_up imm_rows (funct3 w))
    (imm-code_of (funct3 w)) (λ op f. imm-is w small e op f))

reg_of-is : (w : ℕ) → w < 2 ^ 32 → opcode w ≡ 0b0110011 → IfSome (reg_of w) (IsOf w)
reg_of-is w small e =
    option_map-all (λ op. Reg op (rd w) (rs1 w) (rs2 w)) (λ op. reg_code op ≡ funct10 w) (IsOf w) (look_up reg_rows (funct10 w))
    (reg-code_of (funct10 w)) (λ op f. reg-is w small e op f)

amo_of-is : (w : ℕ) → w < 2 ^ 32 → opcode w ≡ 0b0101111 → IfSome (amo_of w) (IsOf w)
amo_of-is w small e =
    where_funct3-all (IsOf w) w 0b010
    (option_map (λ op. Amo op (eqb (bit 26 w) 1) (eqb (bit 25 w) 1) (rd w) (rs1 w) (rs2 w)) (look_up amo_rows (field 27 5 w)))
    (λ f. option_map-all (λ op. Amo op (eqb (bit 26 w) 1) (eqb (bit 25 w) 1) (rd w) (rs1 w) (rs2 w)) (λ op. amo_code op ≡ field 27 5 w) (IsOf w)
    (look_up amo_rows (field 27 5 w)) (amo-code_of (field 27 5 w)) (λ op g. amo-is w small e f op g))

groups-are : (w : ℕ) → w < 2 ^ 32 → AllByRecursion (λ (row : ℕ × Option Instr). opcode w ≡ row.0 → IfSome row.1 (IsOf w)) (groups w)
groups-are w small = (
  lui-is w small,
  (
    auipc-is w small,
    (
      jal-is w small,
      (
        λ e. where_funct3-all (IsOf w) w 0b000 (Some (Jalr (rd w) (rs1 w) (imm_i w))) (jalr-is w small e),
        (
          branch_of-is w small,
          (
            load_of-is w small,
            (
              store_of-is w small,
              (
                imm_of-is w small,
                (
                  reg_of-is w small,
                  (
                    λ _. where_funct3-all (IsOf w) w 0b000 (Some Fence) (λ _. fence-is w),
                    (amo_of-is w small, (λ _. system-is w, tt)),
                  ),
                ),
              ),
            ),
          ),
        ),
      ),
    ),
  ),
)

flatten-all : (P : Instr → Type 0) (o : Option (Option Instr)) → IfSome o (λ x. IfSome x P) → IfSome (option_flatten o) P
flatten-all P None h = tt
flatten-all P (Some o) h = h

-- the instruction that a word holds has its fields in their ranges and, but for a FENCE, gives the word back
pub decoded-is : (w : ℕ) → w < 2 ^ 32 → IfSome (decoded w) (IsOf w)
unfolding decoded
decoded-is w small =
    flatten-all (IsOf w) (look_up (groups w) (opcode w))
    (look_up-all (λ (o : Option Instr). IfSome o (IsOf w)) (groups w) (opcode w) (groups-are w small))

is_of-fields : (w : ℕ) (o : Option Instr) → IfSome o (IsOf w) → IfSome o FieldsFit
is_of-fields w None h = tt
is_of-fields w (Some i) h = h.fields

is_of-back : (w : ℕ) (o : Option Instr) → IfSome o (IsOf w) → IfSome o (λ i. i ≢ Fence → encoded i ≡ w)
is_of-back w None h = tt
is_of-back w (Some i) h = h.back

pub decoded-fields : (w : ℕ) → w < 2 ^ 32 → IfSome (decoded w) FieldsFit
decoded-fields w small = is_of-fields w (decoded w) (decoded-is w small)

pub decoded-back : (w : ℕ) → w < 2 ^ 32 → IfSome (decoded w) (λ i. i ≢ Fence → encoded i ≡ w)
decoded-back w small = is_of-back w (decoded w) (decoded-is w small)
