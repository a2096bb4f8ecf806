-- Operands are read back as they are written.
use Rattle.std.proofs.Common.{◌≡◌, ℕ, ◌^◌, ◌<◌, ◌==◌, true, List, [], ◌∷◌, length, refl, sym, ◌∙◌, ap, subst, arith}
use Rattle.std.specs.Prelude.{Option, Some, None, IsTrue}
use Rattle.std.specs.Option.{option_map}
use Rattle.std.proofs.lemmas.Bool.{eqb-true}
use Rattle.rv32_decode.specs.declared.instr.Instr.{Instr}
use Rattle.rv32_decode.specs.declared.instr.Instr.TheVariants.{Lui, Auipc, Jal, Jalr, Branch, Load, Store, Imm, Reg, Amo, Fence, Ecall, Ebreak}
use Rattle.rv32_decode.specs.declared.instr.ImmOp.{ImmOp}
use Rattle.rv32_decode.specs.declared.instr.ImmOp.TheVariants.{Addi, Slti, Sltiu, Xori, Ori, Andi, Slli, Srli, Srai}
use Rattle.rv32_decode.specs.Ranges.{IsSigned, IsOffset, IsUpper, ImmFits, FieldsFit}
use Rattle.rv32_dis.specs.declared.mnemonic.Mnemonic.{Mnemonic}
use Rattle.rv32_dis.specs.declared.mnemonic.Mnemonic.TheVariants as Is
use Rattle.rv32_dis.specs.Mnemonics.{mnemonic_of}
use Rattle.rv32_dis.specs.Texts.{register, pair, triple, addressed, atomic, operands}
use Rattle.rv32_asm.specs.Grammar.{is_amount, with_imm}
use Rattle.rv32_asm.specs.Reading.{Pieces, when, take_piece, register_in, take_first, only_piece, base_in, pair_in, triple_in, addressed_in, atomic_in, registers_in, operands_in}
use Rattle.rv32_asm.proofs.RegisterLemmas.{bound, held, some_is, register_in_is, register_again, take_piece_is, only_piece_is, take_first_is, take_first_again, base_in_is, base_again}

pub record IsPair (ps : Pieces) (x : ℕ × List ℕ) : Type 0 where
  pub parts : ps ≡ pair x.0 x.1
  pub r : x.0 < 32

pub pair_in_is : (ps : Pieces) (x : ℕ × List ℕ) → pair_in ps ≡ Some x → IsPair ps x
unfolding pair_in
pair_in_is ps x h = bound _ (take_first ps) h (λ r read kept. bound _ (only_piece r.1) kept (λ n only last.
    let first = take_first_is ps r read in
    subst (IsPair ps) (some_is (r.0, n) x last)
    (record { parts = first.parts ∙ ap (λ q. register r.0 ∷ (44 ∷ []) ∷ q) (only_piece_is r.1 n only); r = first.below })))

pub pair_again : (r : ℕ) (n : List ℕ) → r < 32 → pair_in (pair r n) ≡ Some (r, n)
unfolding pair_in only_piece
pair_again r n h = rw (take_first_again r (n ∷ []) h) refl

pub record IsTriple (ps : Pieces) (x : ℕ × ℕ × List ℕ) : Type 0 where
  pub parts : ps ≡ triple x.0 x.1 x.2
  pub r : x.0 < 32
  pub s : x.1 < 32

pub triple_in_is : (ps : Pieces) (x : ℕ × ℕ × List ℕ) → triple_in ps ≡ Some x → IsTriple ps x
unfolding triple_in
triple_in_is ps x h = bound _ (take_first ps) h (λ r read kept. bound _ (take_first r.1) kept (λ s next more. bound _ (only_piece s.1) more (λ n only last.
    let first = take_first_is ps r read in
    let second = take_first_is r.1 s next in
    subst (IsTriple ps) (some_is (r.0, s.0, n) x last)
    (record {
      parts = first.parts ∙ ap (λ q. register r.0 ∷ (44 ∷ []) ∷ q) (second.parts ∙ ap (λ q. register s.0 ∷ (44 ∷ []) ∷ q) (only_piece_is s.1 n only));
      r = first.below;
      s = second.below;
    }))))

pub triple_again : (r s : ℕ) (n : List ℕ) → r < 32 → s < 32 → triple_in (triple r s n) ≡ Some (r, s, n)
unfolding triple_in only_piece
triple_again r s n hr hs = rw (take_first_again r (register s ∷ (44 ∷ []) ∷ n ∷ []) hr) (rw (take_first_again s (n ∷ []) hs) refl)

pub record IsAddressed (ps : Pieces) (x : ℕ × List ℕ × ℕ) : Type 0 where
  pub parts : ps ≡ addressed x.0 x.1 x.2
  pub r : x.0 < 32
  pub base : x.2 < 32

pub addressed_in_is : (ps : Pieces) (x : ℕ × List ℕ × ℕ) → addressed_in ps ≡ Some x → IsAddressed ps x
unfolding addressed_in
addressed_in_is ps x h = bound _ (take_first ps) h (λ r read kept. bound _ (take_piece r.1) kept (λ n taken more. bound _ (base_in n.1) more (λ b base last.
    let first = take_first_is ps r read in
    let end = base_in_is n.1 b base in
    subst (IsAddressed ps) (some_is (r.0, n.0, b) x last)
    (record {
      parts = first.parts ∙ ap (λ q. register r.0 ∷ (44 ∷ []) ∷ q) (take_piece_is r.1 n taken ∙ ap (λ q. n.0 ∷ q) end.parts);
      r = first.below;
      base = end.below;
    }))))

pub addressed_again : (r : ℕ) (n : List ℕ) (base : ℕ) → r < 32 → base < 32 → addressed_in (addressed r n base) ≡ Some (r, n, base)
unfolding addressed_in
addressed_again r n base hr hb =
    rw (take_first_again r (n ∷ (40 ∷ []) ∷ register base ∷ (41 ∷ []) ∷ []) hr) (rw (base_again base hb) refl)

pub record IsAtomic (ps : Pieces) (x : ℕ × ℕ × ℕ) : Type 0 where
  pub parts : ps ≡ atomic x.0 x.1 x.2
  pub r : x.0 < 32
  pub s : x.1 < 32
  pub base : x.2 < 32

pub atomic_in_is : (ps : Pieces) (x : ℕ × ℕ × ℕ) → atomic_in ps ≡ Some x → IsAtomic ps x
unfolding atomic_in
atomic_in_is ps x h = bound _ (take_first ps) h (λ r read kept. bound _ (take_first r.1) kept (λ s next more. bound _ (base_in s.1) more (λ b base last.
    let first = take_first_is ps r read in
    let second = take_first_is r.1 s next in
    let end = base_in_is s.1 b base in
    subst (IsAtomic ps) (some_is (r.0, s.0, b) x last)
    (record {
      parts = first.parts ∙ ap (λ q. register r.0 ∷ (44 ∷ []) ∷ q) (second.parts ∙ ap (λ q. register s.0 ∷ (44 ∷ []) ∷ q) end.parts);
      r = first.below;
      s = second.below;
      base = end.below;
    }))))

pub atomic_again : (r s base : ℕ) → r < 32 → s < 32 → base < 32 → atomic_in (atomic r s base) ≡ Some (r, s, base)
unfolding atomic_in
atomic_again r s base hr hs hb =
    rw (take_first_again r (register s ∷ (44 ∷ []) ∷ (40 ∷ []) ∷ register base ∷ (41 ∷ []) ∷ []) hr)
    (rw (take_first_again s ((40 ∷ []) ∷ register base ∷ (41 ∷ []) ∷ []) hs) (rw (base_again base hb) refl))

pub record AreRegisters (ps : Pieces) (x : ℕ × ℕ × ℕ) : Type 0 where
  pub parts : ps ≡ triple x.0 x.1 (register x.2)
  pub r : x.0 < 32
  pub s : x.1 < 32
  pub t : x.2 < 32

pub registers_in_is : (ps : Pieces) (x : ℕ × ℕ × ℕ) → registers_in ps ≡ Some x → AreRegisters ps x
unfolding registers_in
registers_in_is ps x h = bound _ (triple_in ps) h (λ y read kept. bound _ (register_in y.2) kept (λ t last_read last.
    let three = triple_in_is ps y read in
    let reg = register_in_is y.2 t last_read in
    subst (AreRegisters ps) (some_is (y.0, y.1, t) x last)
    (record { parts = three.parts ∙ ap (triple y.0 y.1) (sym reg.text_is); r = three.r; s = three.s; t = reg.below })))

pub registers_again : (r s t : ℕ) → r < 32 → s < 32 → t < 32 → registers_in (triple r s (register t)) ≡ Some (r, s, t)
unfolding registers_in
registers_again r s t hr hs ht = rw (triple_again r s (register t) hr hs) (rw (register_again t ht) refl)

-- an instruction with no immediate yet, and what is written for it
pub record IsOperands (m : Mnemonic) (ps : Pieces) (x : Instr × List ℕ) : Type 0 where
  pub name : mnemonic_of x.0 ≡ m
  pub parts : ps ≡ operands x.0 x.1
  pub fits : FieldsFit x.0
  pub blank : with_imm x.0 0 ≡ x.0

pub signed_0 : (sign : ℕ) → 0 < sign → sign < 2 ^ 32 → IsSigned sign 0
signed_0 sign some small = record { word = omega arith; range = omega arith }

pub offset_0 : (sign : ℕ) → 0 < sign → sign < 2 ^ 32 → IsOffset sign 0
offset_0 sign some small = record { signed = signed_0 sign some small; even = refl }

pub upper_0 : IsUpper 0
upper_0 = record { word = omega arith; whole = refl }

pub imm_0 : (op : ImmOp) → ImmFits op 0
imm_0 Addi = signed_0 2048 (omega arith) (omega arith)
imm_0 Slti = signed_0 2048 (omega arith) (omega arith)
imm_0 Sltiu = signed_0 2048 (omega arith) (omega arith)
imm_0 Xori = signed_0 2048 (omega arith) (omega arith)
imm_0 Ori = signed_0 2048 (omega arith) (omega arith)
imm_0 Andi = signed_0 2048 (omega arith) (omega arith)
imm_0 Slli = omega arith
imm_0 Srli = omega arith
imm_0 Srai = omega arith

pub mapped : {A B R : Type 0} (f : A → B) (o : Option A) {y : B} → option_map f o ≡ Some y → ((x : A) → o ≡ Some x → f x ≡ y → R) → R
mapped f None h k = absurd (cc)
mapped f (Some x) h k = k x refl (cc)

no_pieces : (ps : Pieces) → (length ps == 0) ≡ true → ps ≡ []
no_pieces [] h = refl
no_pieces (p ∷ ps) h = absurd (omega (arith, eqb-true (length (p ∷ ps)) 0 h))

alone : (i : Instr) (m : Mnemonic) (ps : Pieces) (x : Instr × List ℕ) → mnemonic_of i ≡ m → operands i [] ≡ [] → FieldsFit i → with_imm i 0 ≡ i
    → when (length ps == 0) (i, []) ≡ Some x → IsOperands m ps x
alone i m ps x name none fits blank h = held (length ps == 0) h (λ is same. subst (IsOperands m ps) same
    (record { name = name; parts = no_pieces ps is ∙ sym none; fits = fits; blank = blank }))

pub operands_in_is : (m : Mnemonic) (ps : Pieces) (x : Instr × List ℕ) → operands_in m ps ≡ Some x → IsOperands m ps x
unfolding operands_in
operands_in_is Is.Lui ps x h = mapped _ (pair_in ps) h (λ y read same. let p = pair_in_is ps y read in
    subst (IsOperands Is.Lui ps) same (record { name = refl; parts = p.parts; fits = (p.r, upper_0); blank = refl }))
operands_in_is Is.Auipc ps x h = mapped _ (pair_in ps) h (λ y read same. let p = pair_in_is ps y read in
    subst (IsOperands Is.Auipc ps) same (record { name = refl; parts = p.parts; fits = (p.r, upper_0); blank = refl }))
operands_in_is Is.Jal ps x h = mapped _ (pair_in ps) h (λ y read same. let p = pair_in_is ps y read in
    subst (IsOperands Is.Jal ps) same (record { name = refl; parts = p.parts; fits = (p.r, offset_0 1048576 (omega arith) (omega arith)); blank = refl }))
operands_in_is Is.Jalr ps x h = mapped _ (addressed_in ps) h (λ y read same. let p = addressed_in_is ps y read in
    subst (IsOperands Is.Jalr ps) same (record { name = refl; parts = p.parts; fits = (p.r, p.base, signed_0 2048 (omega arith) (omega arith)); blank = refl }))
operands_in_is (Is.Branch op) ps x h = mapped _ (triple_in ps) h (λ y read same. let p = triple_in_is ps y read in
    subst (IsOperands (Is.Branch op) ps) same (record { name = refl; parts = p.parts; fits = (p.r, p.s, offset_0 4096 (omega arith) (omega arith)); blank = refl }))
operands_in_is (Is.Load op) ps x h = mapped _ (addressed_in ps) h (λ y read same. let p = addressed_in_is ps y read in
    subst (IsOperands (Is.Load op) ps) same (record { name = refl; parts = p.parts; fits = (p.r, p.base, signed_0 2048 (omega arith) (omega arith)); blank = refl }))
operands_in_is (Is.Store op) ps x h = mapped _ (addressed_in ps) h (λ y read same. let p = addressed_in_is ps y read in
    subst (IsOperands (Is.Store op) ps) same (record { name = refl; parts = p.parts; fits = (p.base, p.r, signed_0 2048 (omega arith) (omega arith)); blank = refl }))
operands_in_is (Is.Imm op) ps x h = mapped _ (triple_in ps) h (λ y read same. let p = triple_in_is ps y read in
    subst (IsOperands (Is.Imm op) ps) same (record { name = refl; parts = p.parts; fits = (p.r, p.s, imm_0 op); blank = refl }))
operands_in_is (Is.Reg op) ps x h = mapped _ (registers_in ps) h (λ y read same. let p = registers_in_is ps y read in
    subst (IsOperands (Is.Reg op) ps) same (record { name = refl; parts = p.parts; fits = (p.r, p.s, p.t); blank = refl }))
operands_in_is (Is.Amo op aq rl) ps x h = mapped _ (atomic_in ps) h (λ y read same. let p = atomic_in_is ps y read in
    subst (IsOperands (Is.Amo op aq rl) ps) same (record { name = refl; parts = p.parts; fits = (p.r, p.base, p.s); blank = refl }))
operands_in_is Is.Fence ps x h = alone Fence Is.Fence ps x refl refl tt refl h
operands_in_is Is.Ecall ps x h = alone Ecall Is.Ecall ps x refl refl tt refl h
operands_in_is Is.Ebreak ps x h = alone Ebreak Is.Ebreak ps x refl refl tt refl h

nothing_is : (n : List ℕ) → IsTrue (length n == 0) → n ≡ []
nothing_is [] h = refl
nothing_is (b ∷ n) h = absurd (omega (arith, eqb-true (length (b ∷ n)) 0 h))

pub operands_again : (i : Instr) (n : List ℕ) → FieldsFit i → with_imm i 0 ≡ i → IsTrue (is_amount i n) → operands_in (mnemonic_of i) (operands i n) ≡ Some (i, n)
unfolding operands_in
operands_again (Lui rd imm) n fits blank amount = rw (pair_again rd n fits.0) (ap (λ i. Some (i, n)) blank)
operands_again (Auipc rd imm) n fits blank amount = rw (pair_again rd n fits.0) (ap (λ i. Some (i, n)) blank)
operands_again (Jal rd imm) n fits blank amount = rw (pair_again rd n fits.0) (ap (λ i. Some (i, n)) blank)
operands_again (Jalr rd rs1 imm) n fits blank amount = rw (addressed_again rd n rs1 fits.0 fits.1) (ap (λ i. Some (i, n)) blank)
operands_again (Branch op rs1 rs2 imm) n fits blank amount = rw (triple_again rs1 rs2 n fits.0 fits.1) (ap (λ i. Some (i, n)) blank)
operands_again (Load op rd rs1 imm) n fits blank amount = rw (addressed_again rd n rs1 fits.0 fits.1) (ap (λ i. Some (i, n)) blank)
operands_again (Store op rs1 rs2 imm) n fits blank amount = rw (addressed_again rs2 n rs1 fits.1 fits.0) (ap (λ i. Some (i, n)) blank)
operands_again (Imm op rd rs1 imm) n fits blank amount = rw (triple_again rd rs1 n fits.0 fits.1) (ap (λ i. Some (i, n)) blank)
operands_again (Reg op rd rs1 rs2) n fits blank amount = rw (registers_again rd rs1 rs2 fits.0 fits.1 fits.2) (ap (λ m. Some (Reg op rd rs1 rs2, m)) (sym (nothing_is n amount)))
operands_again (Amo op aq rl rd rs1 rs2) n fits blank amount = rw (atomic_again rd rs2 rs1 fits.0 fits.2 fits.1) (ap (λ m. Some (Amo op aq rl rd rs1 rs2, m)) (sym (nothing_is n amount)))
operands_again Fence n fits blank amount = ap (λ m. Some (Fence, m)) (sym (nothing_is n amount))
operands_again Ecall n fits blank amount = ap (λ m. Some (Ecall, m)) (sym (nothing_is n amount))
operands_again Ebreak n fits blank amount = ap (λ m. Some (Ebreak, m)) (sym (nothing_is n amount))
