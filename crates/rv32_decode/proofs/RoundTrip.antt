-- The word of an instruction whose fields are in their ranges holds that instruction.
use Rattle.std.proofs.Common.{◌≡◌, ◌+◌, ◌*◌, ◌/◌, ◌%◌, ◌<◌, ℕ, Bool, true, false, Option, Some, None, refl, ap, ◌∙◌, arith, cond, eqb, lit<, ◌||◌}
use Rattle.std.specs.Option.{option_map, option_flatten}
use Rattle.rv32_decode.specs.declared.instr.Instr.{Instr}
use Rattle.rv32_decode.specs.declared.instr.Instr.TheVariants.{Lui, Auipc, Jal, Jalr, Branch, Load, Store, Imm, Reg, Amo, Fence, Ecall, Ebreak}
use Rattle.rv32_decode.specs.declared.instr.BranchOp.{BranchOp}
use Rattle.rv32_decode.specs.declared.instr.LoadOp.{LoadOp}
use Rattle.rv32_decode.specs.declared.instr.StoreOp.{StoreOp}
use Rattle.rv32_decode.specs.declared.instr.ImmOp.{ImmOp}
use Rattle.rv32_decode.specs.declared.instr.ImmOp.TheVariants.{Addi, Slti, Sltiu, Xori, Ori, Andi, Slli, Srli, Srai}
use Rattle.rv32_decode.specs.declared.instr.RegOp.{RegOp}
use Rattle.rv32_decode.specs.declared.instr.AmoOp.{AmoOp}
use Rattle.rv32_decode.specs.Fields.{field, bit, opcode, rd, funct3, rs1, rs2, imm_i, imm_s, imm_b, imm_u, imm_j}
use Rattle.rv32_decode.specs.Tables.{look_up, branch_rows, load_rows, store_rows, imm_rows, shift_rows, reg_rows, amo_rows}
use Rattle.rv32_decode.specs.Decoding.{groups, decoded, funct10, shift_of, imm_of}
use Rattle.rv32_decode.specs.Ranges.{FieldsFit, IsSigned}
use Rattle.rv32_decode.specs.Encoding.{encoded, word_of, word_i, word_s, word_b, word_u, word_j, branch_code, load_code, store_code, imm_code, reg_code, amo_code, is_shift, bit_of}
use Rattle.rv32_decode.proofs.FieldLemmas.{HasFields, fields-word_of, field_27_5, bit_25, bit_26}
use Rattle.rv32_decode.proofs.TableLemmas.{branch-found, load-found, store-found, reg-found, amo-found, branch_code-lt, load_code-lt, store_code-lt, reg_code-lt, amo_code-lt}
use Rattle.rv32_decode.proofs.ImmediateLemmas.{imm_i-of, imm_s-of, imm_b-of, imm_j-of, imm_u-of}

-- ---- a word of each opcode

lui-at : (w : ℕ) → opcode w ≡ 0b0110111 → decoded w ≡ Some (Lui (rd w) (imm_u w))
unfolding decoded
lui-at w e = ap (λ key. option_flatten (look_up (groups w) key)) e

auipc-at : (w : ℕ) → opcode w ≡ 0b0010111 → decoded w ≡ Some (Auipc (rd w) (imm_u w))
unfolding decoded
auipc-at w e = ap (λ key. option_flatten (look_up (groups w) key)) e

jal-at : (w : ℕ) → opcode w ≡ 0b1101111 → decoded w ≡ Some (Jal (rd w) (imm_j w))
unfolding decoded
jal-at w e = ap (λ key. option_flatten (look_up (groups w) key)) e

jalr-at : (w : ℕ) → opcode w ≡ 0b1100111 → funct3 w ≡ 0b000 → decoded w ≡ Some (Jalr (rd w) (rs1 w) (imm_i w))
unfolding decoded
jalr-at w e f =
    ap (λ key. option_flatten (look_up (groups w) key)) e
    ∙ ap (λ code. cond (eqb code 0b000) (Some (Jalr (rd w) (rs1 w) (imm_i w))) None) f

branch-at : (w : ℕ) (op : BranchOp) → opcode w ≡ 0b1100011 → funct3 w ≡ branch_code op → decoded w ≡ Some (Branch op (rs1 w) (rs2 w) (imm_b w))
unfolding decoded
branch-at w op e f =
    ap (λ key. option_flatten (look_up (groups w) key)) e
    ∙ ap (option_map (λ op. Branch op (rs1 w) (rs2 w) (imm_b w))) (ap (look_up branch_rows) f ∙ branch-found op)

load-at : (w : ℕ) (op : LoadOp) → opcode w ≡ 0b0000011 → funct3 w ≡ load_code op → decoded w ≡ Some (Load op (rd w) (rs1 w) (imm_i w))
unfolding decoded
load-at w op e f =
    ap (λ key. option_flatten (look_up (groups w) key)) e
    ∙ ap (option_map (λ op. Load op (rd w) (rs1 w) (imm_i w))) (ap (look_up load_rows) f ∙ load-found op)

store-at : (w : ℕ) (op : StoreOp) → opcode w ≡ 0b0100011 → funct3 w ≡ store_code op → decoded w ≡ Some (Store op (rs1 w) (rs2 w) (imm_s w))
unfolding decoded
store-at w op e f =
    ap (λ key. option_flatten (look_up (groups w) key)) e
    ∙ ap (option_map (λ op. Store op (rs1 w) (rs2 w) (imm_s w))) (ap (look_up store_rows) f ∙ store-found op)

reg-at : (w : ℕ) (op : RegOp) → opcode w ≡ 0b0110011 → funct10 w ≡ reg_code op → decoded w ≡ Some (Reg op (rd w) (rs1 w) (rs2 w))
unfolding decoded
reg-at w op e f =
    ap (λ key. option_flatten (look_up (groups w) key)) e
    ∙ ap (option_map (λ op. Reg op (rd w) (rs1 w) (rs2 w))) (ap (look_up reg_rows) f ∙ reg-found op)

amo-at : (w : ℕ) (op : AmoOp) → opcode w ≡ 0b0101111 → funct3 w ≡ 0b010 → field 27 5 w ≡ amo_code op
    → decoded w ≡ Some (Amo op (eqb (bit 26 w) 1) (eqb (bit 25 w) 1) (rd w) (rs1 w) (rs2 w))
unfolding decoded
amo-at w op e f g =
    ap (λ key. option_flatten (look_up (groups w) key)) e
    ∙ (ap (λ code. cond (eqb code 0b010) (option_map (λ op. Amo op (eqb (bit 26 w) 1) (eqb (bit 25 w) 1) (rd w) (rs1 w) (rs2 w)) (look_up amo_rows (field 27 5 w))) None) f
    ∙ ap (option_map (λ op. Amo op (eqb (bit 26 w) 1) (eqb (bit 25 w) 1) (rd w) (rs1 w) (rs2 w))) (ap (look_up amo_rows) g ∙ amo-found op))

-- the operations on an immediate by funct3, and for the shifts funct7 too
imm_at : (w : ℕ) → opcode w ≡ 0b0010011 → decoded w ≡ imm_of w
unfolding decoded
imm_at w e = ap (λ key. option_flatten (look_up (groups w) key)) e

plain_of : ℕ → ℕ → Option Instr
plain_of w code =
    cond (eqb code 0b001 || eqb code 0b101) (shift_of w) (option_map (λ op. Imm op (rd w) (rs1 w) (imm_i w)) (look_up imm_rows code))

plain-at : (w : ℕ) (op : ImmOp) → is_shift op ≡ false → opcode w ≡ 0b0010011 → funct3 w ≡ imm_code op → decoded w ≡ Some (Imm op (rd w) (rs1 w) (imm_i w))
unfolding plain_of
plain-at w Addi p e f = imm_at w e ∙ ap (plain_of w) f
plain-at w Slti p e f = imm_at w e ∙ ap (plain_of w) f
plain-at w Sltiu p e f = imm_at w e ∙ ap (plain_of w) f
plain-at w Xori p e f = imm_at w e ∙ ap (plain_of w) f
plain-at w Ori p e f = imm_at w e ∙ ap (plain_of w) f
plain-at w Andi p e f = imm_at w e ∙ ap (plain_of w) f
plain-at w Slli p e f = absurd cc
plain-at w Srli p e f = absurd cc
plain-at w Srai p e f = absurd cc

-- a shift's funct3 is 1 or 5
shift_is_of : (w code : ℕ) → funct3 w ≡ code → (eqb code 0b001 || eqb code 0b101) ≡ true → imm_of w ≡ shift_of w
shift_is_of w code e h =
    ap (λ n. cond (eqb n 0b001 || eqb n 0b101) (shift_of w) (option_map (λ op. Imm op (rd w) (rs1 w) (imm_i w)) (look_up imm_rows (funct3 w)))) e
    ∙ ap (λ b. cond b (shift_of w) (option_map (λ op. Imm op (rd w) (rs1 w) (imm_i w)) (look_up imm_rows (funct3 w)))) h

shift-at : (w : ℕ) (op : ImmOp) → is_shift op ≡ true → opcode w ≡ 0b0010011 → funct3 w ≡ imm_code op % 8 → funct10 w ≡ imm_code op
    → decoded w ≡ Some (Imm op (rd w) (rs1 w) (rs2 w))
shift-at w Addi p e f g = absurd cc
shift-at w Slti p e f g = absurd cc
shift-at w Sltiu p e f g = absurd cc
shift-at w Xori p e f g = absurd cc
shift-at w Ori p e f g = absurd cc
shift-at w Andi p e f g = absurd cc
shift-at w Slli p e f g =
    imm_at w e ∙ (shift_is_of w 0b001 f refl ∙ ap (λ n. option_map (λ op. Imm op (rd w) (rs1 w) (rs2 w)) (look_up shift_rows n)) g)
shift-at w Srli p e f g =
    imm_at w e ∙ (shift_is_of w 0b101 f refl ∙ ap (λ n. option_map (λ op. Imm op (rd w) (rs1 w) (rs2 w)) (look_up shift_rows n)) g)
shift-at w Srai p e f g =
    imm_at w e ∙ (shift_is_of w 0b101 f refl ∙ ap (λ n. option_map (λ op. Imm op (rd w) (rs1 w) (rs2 w)) (look_up shift_rows n)) g)

-- ---- the word of each instruction

apart : (n : ℕ) → n / 8 * 8 + n % 8 ≡ n
apart n = omega arith

round-lui : (rd imm : ℕ) → FieldsFit (Lui rd imm) → decoded (encoded (Lui rd imm)) ≡ Some (Lui rd imm)
unfolding encoded
round-lui dest imm h =
    let w : ℕ = word_u imm dest 0b0110111 in
    let f : HasFields w (imm / 33554432 % 128) (imm / 1048576 % 32) (imm / 32768 % 32) (imm / 4096 % 8) dest 0b0110111 =
    fields-word_of (imm / 33554432 % 128) (imm / 1048576 % 32) (imm / 32768 % 32) (imm / 4096 % 8) dest 0b0110111
    (omega arith) (omega arith) (omega arith) (omega arith) h.0 (lit< tt) in
    let value : imm_u w ≡ imm = imm_u-of w imm h.1 f.funct7 f.rs2 f.rs1 f.funct3 in
    let at : decoded w ≡ Some (Lui (rd w) (imm_u w)) = lui-at w f.opcode in
    at ∙ (ap (λ n. Some (Lui n (imm_u w))) f.rd ∙ ap (λ n. Some (Lui dest n)) value)

round-auipc : (rd imm : ℕ) → FieldsFit (Auipc rd imm) → decoded (encoded (Auipc rd imm)) ≡ Some (Auipc rd imm)
unfolding encoded
round-auipc dest imm h =
    let w : ℕ = word_u imm dest 0b0010111 in
    let f : HasFields w (imm / 33554432 % 128) (imm / 1048576 % 32) (imm / 32768 % 32) (imm / 4096 % 8) dest 0b0010111 =
    fields-word_of (imm / 33554432 % 128) (imm / 1048576 % 32) (imm / 32768 % 32) (imm / 4096 % 8) dest 0b0010111
    (omega arith) (omega arith) (omega arith) (omega arith) h.0 (lit< tt) in
    let value : imm_u w ≡ imm = imm_u-of w imm h.1 f.funct7 f.rs2 f.rs1 f.funct3 in
    let at : decoded w ≡ Some (Auipc (rd w) (imm_u w)) = auipc-at w f.opcode in
    at ∙ (ap (λ n. Some (Auipc n (imm_u w))) f.rd ∙ ap (λ n. Some (Auipc dest n)) value)

-- two numbers below 2 and 64 as one of seven bits, and two below 16 and 2 as one of five
high-lt : (a b : ℕ) → a < 2 → b < 64 → a * 64 + b < 128
high-lt a b h k = omega arith

low-lt : (a b : ℕ) → a < 16 → b < 2 → a * 2 + b < 32
low-lt a b h k = omega arith

round-jal : (rd imm : ℕ) → FieldsFit (Jal rd imm) → decoded (encoded (Jal rd imm)) ≡ Some (Jal rd imm)
unfolding encoded
round-jal dest imm h =
    let w : ℕ = word_j imm dest 0b1101111 in
    let high : ℕ = imm / 1048576 % 2 * 64 + imm / 32 % 64 in
    let second : ℕ = imm / 2 % 16 * 2 + imm / 2048 % 2 in
    let f : HasFields w high second (imm / 32768 % 32) (imm / 4096 % 8) dest 0b1101111 =
    fields-word_of high second (imm / 32768 % 32) (imm / 4096 % 8) dest 0b1101111
    (high-lt (imm / 1048576 % 2) (imm / 32 % 64) (omega arith) (omega arith))
    (low-lt (imm / 2 % 16) (imm / 2048 % 2) (omega arith) (omega arith)) (omega arith) (omega arith) h.0 (lit< tt) in
    let value : imm_j w ≡ imm = imm_j-of w imm h.1 f.funct7 f.rs2 f.rs1 f.funct3 in
    let at : decoded w ≡ Some (Jal (rd w) (imm_j w)) = jal-at w f.opcode in
    at ∙ (ap (λ n. Some (Jal n (imm_j w))) f.rd ∙ ap (λ n. Some (Jal dest n)) value)

fields_i : (imm first code dest low : ℕ) → first < 32 → code < 8 → dest < 32 → low < 128
    → HasFields (word_i imm first code dest low) (imm / 32 % 128) (imm % 32) first code dest low
fields_i imm first code dest low hf hc hd hl =
    fields-word_of (imm / 32 % 128) (imm % 32) first code dest low (omega arith) (omega arith) hf hc hd hl

round-jalr : (rd rs1 imm : ℕ) → FieldsFit (Jalr rd rs1 imm) → decoded (encoded (Jalr rd rs1 imm)) ≡ Some (Jalr rd rs1 imm)
unfolding encoded
round-jalr dest first imm h =
    let w : ℕ = word_i imm first 0b000 dest 0b1100111 in
    let f : HasFields w (imm / 32 % 128) (imm % 32) first 0b000 dest 0b1100111 = fields_i imm first 0b000 dest 0b1100111 h.1 (lit< tt) h.0 (lit< tt) in
    let value : imm_i w ≡ imm = imm_i-of w imm h.2 f.funct7 f.rs2 in
    let at : decoded w ≡ Some (Jalr (rd w) (rs1 w) (imm_i w)) = jalr-at w f.opcode f.funct3 in
    at ∙ (ap (λ n. Some (Jalr n (rs1 w) (imm_i w))) f.rd ∙ (ap (λ n. Some (Jalr dest n (imm_i w))) f.rs1 ∙ ap (λ n. Some (Jalr dest first n)) value))

round-branch : (op : BranchOp) (rs1 rs2 imm : ℕ) → FieldsFit (Branch op rs1 rs2 imm) → decoded (encoded (Branch op rs1 rs2 imm)) ≡ Some (Branch op rs1 rs2 imm)
unfolding encoded
round-branch op first second imm h =
    let w : ℕ = word_b imm second first (branch_code op) 0b1100011 in
    let high : ℕ = imm / 4096 % 2 * 64 + imm / 32 % 64 in
    let dest : ℕ = imm / 2 % 16 * 2 + imm / 2048 % 2 in
    let f : HasFields w high second first (branch_code op) dest 0b1100011 =
    fields-word_of high second first (branch_code op) dest 0b1100011
    (high-lt (imm / 4096 % 2) (imm / 32 % 64) (omega arith) (omega arith)) h.1 h.0 (branch_code-lt op)
    (low-lt (imm / 2 % 16) (imm / 2048 % 2) (omega arith) (omega arith)) (lit< tt) in
    let value : imm_b w ≡ imm = imm_b-of w imm h.2 f.funct7 f.rd in
    let at : decoded w ≡ Some (Branch op (rs1 w) (rs2 w) (imm_b w)) = branch-at w op f.opcode f.funct3 in
    at ∙ (ap (λ n. Some (Branch op n (rs2 w) (imm_b w))) f.rs1 ∙ (ap (λ n. Some (Branch op first n (imm_b w))) f.rs2 ∙ ap (λ n. Some (Branch op first second n)) value))

round-load : (op : LoadOp) (rd rs1 imm : ℕ) → FieldsFit (Load op rd rs1 imm) → decoded (encoded (Load op rd rs1 imm)) ≡ Some (Load op rd rs1 imm)
unfolding encoded
round-load op dest first imm h =
    let w : ℕ = word_i imm first (load_code op) dest 0b0000011 in
    let f : HasFields w (imm / 32 % 128) (imm % 32) first (load_code op) dest 0b0000011 = fields_i imm first (load_code op) dest 0b0000011 h.1 (load_code-lt op) h.0 (lit< tt) in
    let value : imm_i w ≡ imm = imm_i-of w imm h.2 f.funct7 f.rs2 in
    let at : decoded w ≡ Some (Load op (rd w) (rs1 w) (imm_i w)) = load-at w op f.opcode f.funct3 in
    at ∙ (ap (λ n. Some (Load op n (rs1 w) (imm_i w))) f.rd ∙ (ap (λ n. Some (Load op dest n (imm_i w))) f.rs1 ∙ ap (λ n. Some (Load op dest first n)) value))

round-store : (op : StoreOp) (rs1 rs2 imm : ℕ) → FieldsFit (Store op rs1 rs2 imm) → decoded (encoded (Store op rs1 rs2 imm)) ≡ Some (Store op rs1 rs2 imm)
unfolding encoded
round-store op first second imm h =
    let w : ℕ = word_s imm second first (store_code op) 0b0100011 in
    let f : HasFields w (imm / 32 % 128) second first (store_code op) (imm % 32) 0b0100011 =
    fields-word_of (imm / 32 % 128) second first (store_code op) (imm % 32) 0b0100011 (omega arith) h.1 h.0 (store_code-lt op) (omega arith) (lit< tt) in
    let value : imm_s w ≡ imm = imm_s-of w imm h.2 f.funct7 f.rd in
    let at : decoded w ≡ Some (Store op (rs1 w) (rs2 w) (imm_s w)) = store-at w op f.opcode f.funct3 in
    at ∙ (ap (λ n. Some (Store op n (rs2 w) (imm_s w))) f.rs1 ∙ (ap (λ n. Some (Store op first n (imm_s w))) f.rs2 ∙ ap (λ n. Some (Store op first second n)) value))

round-reg : (op : RegOp) (rd rs1 rs2 : ℕ) → FieldsFit (Reg op rd rs1 rs2) → decoded (encoded (Reg op rd rs1 rs2)) ≡ Some (Reg op rd rs1 rs2)
unfolding encoded
round-reg op dest first second h =
    let w : ℕ = word_of (reg_code op / 8) second first (reg_code op % 8) dest 0b0110011 in
    let small : reg_code op < 1024 = reg_code-lt op in
    let f : HasFields w (reg_code op / 8) second first (reg_code op % 8) dest 0b0110011 =
    fields-word_of (reg_code op / 8) second first (reg_code op % 8) dest 0b0110011 (omega arith) h.2 h.1 (omega arith) h.0 (lit< tt) in
    let code : funct10 w ≡ reg_code op = ap (λ n. n * 8 + funct3 w) f.funct7 ∙ (ap (λ n. reg_code op / 8 * 8 + n) f.funct3 ∙ apart (reg_code op)) in
    let at : decoded w ≡ Some (Reg op (rd w) (rs1 w) (rs2 w)) = reg-at w op f.opcode code in
    at ∙ (ap (λ n. Some (Reg op n (rs1 w) (rs2 w))) f.rd ∙ (ap (λ n. Some (Reg op dest n (rs2 w))) f.rs1 ∙ ap (λ n. Some (Reg op dest first n)) f.rs2))

round-plain : (op : ImmOp) (dest first imm : ℕ) → is_shift op ≡ false → imm_code op < 8 → dest < 32 → first < 32 → IsSigned 2048 imm
    → decoded (word_i imm first (imm_code op) dest 0b0010011) ≡ Some (Imm op dest first imm)
round-plain op dest first imm plain small hd hf h =
    let w : ℕ = word_i imm first (imm_code op) dest 0b0010011 in
    let f : HasFields w (imm / 32 % 128) (imm % 32) first (imm_code op) dest 0b0010011 = fields_i imm first (imm_code op) dest 0b0010011 hf small hd (lit< tt) in
    let value : imm_i w ≡ imm = imm_i-of w imm h f.funct7 f.rs2 in
    let at : decoded w ≡ Some (Imm op (rd w) (rs1 w) (imm_i w)) = plain-at w op plain f.opcode f.funct3 in
    at ∙ (ap (λ n. Some (Imm op n (rs1 w) (imm_i w))) f.rd ∙ (ap (λ n. Some (Imm op dest n (imm_i w))) f.rs1 ∙ ap (λ n. Some (Imm op dest first n)) value))

round-shift : (op : ImmOp) (dest first imm : ℕ) → is_shift op ≡ true → imm_code op < 1024 → dest < 32 → first < 32 → imm < 32
    → decoded (word_of (imm_code op / 8) imm first (imm_code op % 8) dest 0b0010011) ≡ Some (Imm op dest first imm)
round-shift op dest first imm shifts small hd hf h =
    let w : ℕ = word_of (imm_code op / 8) imm first (imm_code op % 8) dest 0b0010011 in
    let f : HasFields w (imm_code op / 8) imm first (imm_code op % 8) dest 0b0010011 =
    fields-word_of (imm_code op / 8) imm first (imm_code op % 8) dest 0b0010011 (omega arith) h hf (omega arith) hd (lit< tt) in
    let code : funct10 w ≡ imm_code op = ap (λ n. n * 8 + funct3 w) f.funct7 ∙ (ap (λ n. imm_code op / 8 * 8 + n) f.funct3 ∙ apart (imm_code op)) in
    let at : decoded w ≡ Some (Imm op (rd w) (rs1 w) (rs2 w)) = shift-at w op shifts f.opcode f.funct3 code in
    at ∙ (ap (λ n. Some (Imm op n (rs1 w) (rs2 w))) f.rd ∙ (ap (λ n. Some (Imm op dest n (rs2 w))) f.rs1 ∙ ap (λ n. Some (Imm op dest first n)) f.rs2))

round-imm : (op : ImmOp) (rd rs1 imm : ℕ) → FieldsFit (Imm op rd rs1 imm) → decoded (encoded (Imm op rd rs1 imm)) ≡ Some (Imm op rd rs1 imm)
unfolding encoded
round-imm Addi dest first imm h = round-plain Addi dest first imm refl (lit< tt) h.0 h.1 h.2
round-imm Slti dest first imm h = round-plain Slti dest first imm refl (lit< tt) h.0 h.1 h.2
round-imm Sltiu dest first imm h = round-plain Sltiu dest first imm refl (lit< tt) h.0 h.1 h.2
round-imm Xori dest first imm h = round-plain Xori dest first imm refl (lit< tt) h.0 h.1 h.2
round-imm Ori dest first imm h = round-plain Ori dest first imm refl (lit< tt) h.0 h.1 h.2
round-imm Andi dest first imm h = round-plain Andi dest first imm refl (lit< tt) h.0 h.1 h.2
round-imm Slli dest first imm h = round-shift Slli dest first imm refl (lit< tt) h.0 h.1 h.2
round-imm Srli dest first imm h = round-shift Srli dest first imm refl (lit< tt) h.0 h.1 h.2
round-imm Srai dest first imm h = round-shift Srai dest first imm refl (lit< tt) h.0 h.1 h.2

bit_of-lt : (b : Bool) → bit_of b < 2
bit_of-lt true = lit< tt
bit_of-lt false = lit< tt

is_one-bit_of : (b : Bool) → eqb (bit_of b) 1 ≡ b
is_one-bit_of true = refl
is_one-bit_of false = refl

amo_parts-lt : (code aq rl : ℕ) → code < 32 → aq < 2 → rl < 2 → code * 4 + aq * 2 + rl < 128
amo_parts-lt code aq rl a b c = omega arith

amo-code : (code aq rl : ℕ) → aq < 2 → rl < 2 → (code * 4 + aq * 2 + rl) / 4 ≡ code
amo-code code aq rl b c = omega arith

amo-aq : (code aq rl : ℕ) → aq < 2 → rl < 2 → (code * 4 + aq * 2 + rl) / 2 % 2 ≡ aq
amo-aq code aq rl b c = omega arith

amo-rl : (code aq rl : ℕ) → aq < 2 → rl < 2 → (code * 4 + aq * 2 + rl) % 2 ≡ rl
amo-rl code aq rl b c = omega arith

round-amo : (op : AmoOp) (aq rl : Bool) (rd rs1 rs2 : ℕ) → FieldsFit (Amo op aq rl rd rs1 rs2) → decoded (encoded (Amo op aq rl rd rs1 rs2)) ≡ Some (Amo op aq rl rd rs1 rs2)
unfolding encoded
round-amo op aq rl dest first second h =
    let high : ℕ = amo_code op * 4 + bit_of aq * 2 + bit_of rl in
    let w : ℕ = word_of high second first 0b010 dest 0b0101111 in
    let f : HasFields w high second first 0b010 dest 0b0101111 =
    fields-word_of high second first 0b010 dest 0b0101111
    (amo_parts-lt (amo_code op) (bit_of aq) (bit_of rl) (amo_code-lt op) (bit_of-lt aq) (bit_of-lt rl)) h.2 h.1 (lit< tt) h.0 (lit< tt) in
    let code : field 27 5 w ≡ amo_code op =
    field_27_5 w ∙ (ap (λ n. n / 4) f.funct7 ∙ amo-code (amo_code op) (bit_of aq) (bit_of rl) (bit_of-lt aq) (bit_of-lt rl)) in
    let aq_is : eqb (bit 26 w) 1 ≡ aq =
    ap (λ n. eqb n 1) (bit_26 w ∙ (ap (λ n. n / 2 % 2) f.funct7 ∙ amo-aq (amo_code op) (bit_of aq) (bit_of rl) (bit_of-lt aq) (bit_of-lt rl))) ∙ is_one-bit_of aq in
    let rl_is : eqb (bit 25 w) 1 ≡ rl =
    ap (λ n. eqb n 1) (bit_25 w ∙ (ap (λ n. n % 2) f.funct7 ∙ amo-rl (amo_code op) (bit_of aq) (bit_of rl) (bit_of-lt aq) (bit_of-lt rl))) ∙ is_one-bit_of rl in
    let at : decoded w ≡ Some (Amo op (eqb (bit 26 w) 1) (eqb (bit 25 w) 1) (rd w) (rs1 w) (rs2 w)) = amo-at w op f.opcode f.funct3 code in
    at ∙ (ap (λ b. Some (Amo op b (eqb (bit 25 w) 1) (rd w) (rs1 w) (rs2 w))) aq_is
    ∙ (ap (λ b. Some (Amo op aq b (rd w) (rs1 w) (rs2 w))) rl_is
    ∙ (ap (λ n. Some (Amo op aq rl n (rs1 w) (rs2 w))) f.rd
    ∙ (ap (λ n. Some (Amo op aq rl dest n (rs2 w))) f.rs1 ∙ ap (λ n. Some (Amo op aq rl dest first n)) f.rs2))))

-- an instruction whose fields are in their ranges is what its word holds
pub decoded-encoded : (i : Instr) → FieldsFit i → decoded (encoded i) ≡ Some i
unfolding decoded encoded
decoded-encoded (Lui dest imm) h = round-lui dest imm h
decoded-encoded (Auipc dest imm) h = round-auipc dest imm h
decoded-encoded (Jal dest imm) h = round-jal dest imm h
decoded-encoded (Jalr dest first imm) h = round-jalr dest first imm h
decoded-encoded (Branch op first second imm) h = round-branch op first second imm h
decoded-encoded (Load op dest first imm) h = round-load op dest first imm h
decoded-encoded (Store op first second imm) h = round-store op first second imm h
decoded-encoded (Imm op dest first imm) h = round-imm op dest first imm h
decoded-encoded (Reg op dest first second) h = round-reg op dest first second h
decoded-encoded (Amo op aq rl dest first second) h = round-amo op aq rl dest first second h
decoded-encoded Fence h = refl
decoded-encoded Ecall h = refl
decoded-encoded Ebreak h = refl

pub encoded-fence : encoded Fence ≡ 0x0ff0000f
unfolding encoded
encoded-fence = refl
