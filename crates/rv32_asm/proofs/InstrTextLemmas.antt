-- An instruction's text is read back as the instruction.
use Rattle.std.proofs.Common.{◌≡◌, ℕ, ◌-◌, ◌*◌, ◌%◌, ◌/◌, ◌^◌, ◌<◌, ◌≤◌, ◌==◌, ◌&&◌, ◌||◌, Bool, true, false, List, [], ◌∷◌, ◌++◌, length, refl, sym, ◌∙◌, ap, arith, append_assoc}
use Rattle.std.specs.Prelude.{Some, None, nat_le, nat_lt, not, if◌then◌else◌, codes, pos, negsuc}
use Rattle.std.specs.List.{list_all, concat}
use Rattle.std.specs.Fmt.{decimal}
use Rattle.std.proofs.lemmas.Fmt.{decimal_nonempty}
use Rattle.std.proofs.lemmas.Bool.Decides.{nat_tests}
use Rattle.rv32_decode.specs.declared.instr.Instr.{Instr}
use Rattle.rv32_decode.specs.declared.instr.Instr.TheVariants.{Lui, Auipc, Jal, Jalr, Branch, Load, Store, Imm, Reg, Amo, Fence, Ecall, Ebreak}
use Rattle.rv32_decode.specs.declared.instr.ImmOp.{ImmOp}
use Rattle.rv32_decode.specs.declared.instr.ImmOp.TheVariants.{Addi, Slti, Sltiu, Xori, Ori, Andi, Slli, Srli, Srai}
use Rattle.rv32_decode.specs.Ranges.{IsSigned, IsOffset, IsUpper, ImmFits, FieldsFit}
use Rattle.rv32_dis.specs.declared.mnemonic.Mnemonic.{Mnemonic}
use Rattle.rv32_dis.specs.declared.mnemonic.Mnemonic.TheVariants as Is
use Rattle.rv32_dis.specs.Mnemonics.{name_of}
use Rattle.rv32_dis.specs.Texts.{register, signed_text, pair, triple, addressed, atomic, instr_pieces, immediate_text, spaced, instr_text}
use Rattle.rv32_asm.specs.Pieces.{pieces, without_comment, is_blank, is_mark}
use Rattle.rv32_asm.specs.Grammar.{with_imm, Said, Does, IsSaid, Spells}
use Rattle.rv32_asm.specs.Assembled.{written_number, is_in_range, in_signed, in_unsigned, is_even, imm_by, complement}
use Rattle.rv32_asm.proofs.RegisterLemmas.{and_true}
use Rattle.rv32_asm.proofs.OperandLemmas.{signed_0, offset_0, upper_0, imm_0}
use Rattle.rv32_asm.proofs.NumberLemmas.{decimal_digits, decimal_number, signed_number, complement_integer}
use Rattle.rv32_asm.proofs.TextLemmas.{is_plain, is_part, is_word, digits_parts, register_word, name_word, after_name, pair_pieces, triple_pieces, addressed_pieces, atomic_pieces}

pub decimal_word : (n : ℕ) → n < 2 ^ 64 → is_word (decimal n) ≡ true
decimal_word n h =
    let some : nat_le 1 (length (decimal n)) ≡ true = grind (arith, nat_tests, decimal_nonempty n h) in
    rw some (digits_parts (decimal n) (decimal_digits n h))

pub signed_word : (word : ℕ) → word < 2 ^ 32 → is_word (signed_text word) ≡ true
signed_word word h = go (nat_lt word (2 ^ 31)) refl
  where
    go : (b : Bool) → nat_lt word (2 ^ 31) ≡ b → is_word (if b then decimal word else codes "-" ++ decimal (2 ^ 32 - word)) ≡ true
    go true is = decimal_word word (omega arith)
    go false is =
        let some : nat_le 1 (length (codes "-" ++ decimal (2 ^ 32 - word))) ≡ true = grind (arith, nat_tests) in
        rw some (digits_parts (decimal (2 ^ 32 - word)) (decimal_digits (2 ^ 32 - word) (omega arith)))

-- a name, a space and operands
whole : (m : Mnemonic) (p : List ℕ) (ps : List (List ℕ)) → pieces (concat (p ∷ ps)) ≡ p ∷ ps → pieces (spaced (name_of m ∷ p ∷ ps)) ≡ name_of m ∷ p ∷ ps
whole m p ps h = ap pieces (append_assoc (name_of m) (codes " ") (concat (p ∷ ps))) ∙ after_name m (concat (p ∷ ps)) ∙ ap (λ q. name_of m ∷ q) h

pub imm_word : (op : ImmOp) (imm : ℕ) → ImmFits op imm → imm < 2 ^ 32
imm_word Addi imm h = h.word
imm_word Slti imm h = h.word
imm_word Sltiu imm h = h.word
imm_word Xori imm h = h.word
imm_word Ori imm h = h.word
imm_word Andi imm h = h.word
imm_word Slli imm h = omega arith
imm_word Srli imm h = omega arith
imm_word Srai imm h = omega arith

upper_small : (imm : ℕ) → IsUpper imm → imm / 4096 < 2 ^ 64
upper_small imm h = let w = h.word in omega arith

pub instr_text_pieces : (i : Instr) → FieldsFit i → pieces (instr_text i) ≡ instr_pieces i (immediate_text i)
unfolding instr_text
instr_text_pieces (Lui rd imm) fits = whole Is.Lui _ _ (pair_pieces rd (decimal (imm / 4096)) fits.0 (decimal_word (imm / 4096) (upper_small imm fits.1)))
instr_text_pieces (Auipc rd imm) fits = whole Is.Auipc _ _ (pair_pieces rd (decimal (imm / 4096)) fits.0 (decimal_word (imm / 4096) (upper_small imm fits.1)))
instr_text_pieces (Jal rd imm) fits = whole Is.Jal _ _ (pair_pieces rd (signed_text imm) fits.0 (signed_word imm fits.1.signed.word))
instr_text_pieces (Jalr rd rs1 imm) fits = whole Is.Jalr _ _ (addressed_pieces rd (signed_text imm) rs1 fits.0 (signed_word imm fits.2.word) fits.1)
instr_text_pieces (Branch op rs1 rs2 imm) fits = whole (Is.Branch op) _ _ (triple_pieces rs1 rs2 (signed_text imm) fits.0 fits.1 (signed_word imm fits.2.signed.word))
instr_text_pieces (Load op rd rs1 imm) fits = whole (Is.Load op) _ _ (addressed_pieces rd (signed_text imm) rs1 fits.0 (signed_word imm fits.2.word) fits.1)
instr_text_pieces (Store op rs1 rs2 imm) fits = whole (Is.Store op) _ _ (addressed_pieces rs2 (signed_text imm) rs1 fits.1 (signed_word imm fits.2.word) fits.0)
instr_text_pieces (Imm op rd rs1 imm) fits = whole (Is.Imm op) _ _ (triple_pieces rd rs1 (signed_text imm) fits.0 fits.1 (signed_word imm (imm_word op imm fits.2)))
instr_text_pieces (Reg op rd rs1 rs2) fits = whole (Is.Reg op) _ _ (triple_pieces rd rs1 (register rs2) fits.0 fits.1 (register_word rs2 fits.2))
instr_text_pieces (Amo op aq rl rd rs1 rs2) fits = whole (Is.Amo op aq rl) _ _ (atomic_pieces rd rs2 rs1 fits.0 fits.2 fits.1)
instr_text_pieces Fence fits = refl
instr_text_pieces Ecall fits = refl
instr_text_pieces Ebreak fits = refl

-- one line without a comment, in ASCII
abbrev pub IsPlainText : List ℕ → Type 0
IsPlainText text = list_all is_plain text ≡ true

pub plain_append : (a b : List ℕ) → IsPlainText a → IsPlainText b → IsPlainText (a ++ b)
plain_append [] b ha hb = hb
plain_append (x ∷ a) b ha hb = let both = and_true (is_plain x) (list_all is_plain a) ha in rw (both.0) (plain_append a b both.1 hb)

part_plain : (b : ℕ) → is_part b ≡ true → is_plain b ≡ true
part_plain b h =
    let a = and_true (is_plain b && not (is_blank b) && not (is_mark b)) (not (b == 58)) h in
    let d = and_true (is_plain b && not (is_blank b)) (not (is_mark b)) (a.0) in
    (and_true (is_plain b) (not (is_blank b)) (d.0)).0

pub word_plain : (w : List ℕ) → is_word w ≡ true → IsPlainText w
word_plain w h = parts w ((and_true (nat_le 1 (length w)) (list_all is_part w) h).1)
  where
    parts : (v : List ℕ) → list_all is_part v ≡ true → IsPlainText v
    parts [] all = refl
    parts (b ∷ v) all = let both = and_true (is_part b) (list_all is_part v) all in rw (part_plain b both.0) (parts v both.1)

whole_plain : (m : Mnemonic) (text : List ℕ) → IsPlainText text → IsPlainText (name_of m ++ codes " " ++ text)
whole_plain m text h = plain_append (name_of m ++ codes " ") text (plain_append (name_of m) (codes " ") (word_plain (name_of m) (name_word m)) refl) h

pair_plain : (r : ℕ) (n : List ℕ) → r < 32 → is_word n ≡ true → IsPlainText (concat (pair r n))
pair_plain r n h word = plain_append (register r) (44 ∷ n ++ []) (word_plain (register r) (register_word r h)) (plain_append n [] (word_plain n word) refl)

triple_plain : (r s : ℕ) (n : List ℕ) → r < 32 → s < 32 → is_word n ≡ true → IsPlainText (concat (triple r s n))
triple_plain r s n hr hs word = plain_append (register r) (44 ∷ concat (pair s n)) (word_plain (register r) (register_word r hr)) (pair_plain s n hs word)

base_plain : (b : ℕ) → b < 32 → IsPlainText (40 ∷ register b ++ 41 ∷ [])
base_plain b h = plain_append (register b) (41 ∷ []) (word_plain (register b) (register_word b h)) refl

addressed_plain : (r : ℕ) (n : List ℕ) (b : ℕ) → r < 32 → is_word n ≡ true → b < 32 → IsPlainText (concat (addressed r n b))
addressed_plain r n b hr word hb = plain_append (register r) (44 ∷ (n ++ (40 ∷ (register b ++ 41 ∷ [])))) (word_plain (register r) (register_word r hr))
    (plain_append n (40 ∷ (register b ++ 41 ∷ [])) (word_plain n word) (base_plain b hb))

atomic_plain : (r s b : ℕ) → r < 32 → s < 32 → b < 32 → IsPlainText (concat (atomic r s b))
atomic_plain r s b hr hs hb = plain_append (register r) (44 ∷ (register s ++ (44 ∷ 40 ∷ (register b ++ 41 ∷ [])))) (word_plain (register r) (register_word r hr))
    (plain_append (register s) (44 ∷ 40 ∷ (register b ++ 41 ∷ [])) (word_plain (register s) (register_word s hs)) (base_plain b hb))

pub instr_text_plain : (i : Instr) → FieldsFit i → IsPlainText (instr_text i)
unfolding instr_text
instr_text_plain (Lui rd imm) fits = whole_plain Is.Lui (concat (pair rd (decimal (imm / 4096)))) (pair_plain rd (decimal (imm / 4096)) fits.0 (decimal_word (imm / 4096) (upper_small imm fits.1)))
instr_text_plain (Auipc rd imm) fits = whole_plain Is.Auipc (concat (pair rd (decimal (imm / 4096)))) (pair_plain rd (decimal (imm / 4096)) fits.0 (decimal_word (imm / 4096) (upper_small imm fits.1)))
instr_text_plain (Jal rd imm) fits = whole_plain Is.Jal (concat (pair rd (signed_text imm))) (pair_plain rd (signed_text imm) fits.0 (signed_word imm fits.1.signed.word))
instr_text_plain (Jalr rd rs1 imm) fits = whole_plain Is.Jalr (concat (addressed rd (signed_text imm) rs1)) (addressed_plain rd (signed_text imm) rs1 fits.0 (signed_word imm fits.2.word) fits.1)
instr_text_plain (Branch op rs1 rs2 imm) fits = whole_plain (Is.Branch op) (concat (triple rs1 rs2 (signed_text imm))) (triple_plain rs1 rs2 (signed_text imm) fits.0 fits.1 (signed_word imm fits.2.signed.word))
instr_text_plain (Load op rd rs1 imm) fits = whole_plain (Is.Load op) (concat (addressed rd (signed_text imm) rs1)) (addressed_plain rd (signed_text imm) rs1 fits.0 (signed_word imm fits.2.word) fits.1)
instr_text_plain (Store op rs1 rs2 imm) fits = whole_plain (Is.Store op) (concat (addressed rs2 (signed_text imm) rs1)) (addressed_plain rs2 (signed_text imm) rs1 fits.1 (signed_word imm fits.2.word) fits.0)
instr_text_plain (Imm op rd rs1 imm) fits = whole_plain (Is.Imm op) (concat (triple rd rs1 (signed_text imm))) (triple_plain rd rs1 (signed_text imm) fits.0 fits.1 (signed_word imm (imm_word op imm fits.2)))
instr_text_plain (Reg op rd rs1 rs2) fits = whole_plain (Is.Reg op) (concat (triple rd rs1 (register rs2))) (triple_plain rd rs1 (register rs2) fits.0 fits.1 (register_word rs2 fits.2))
instr_text_plain (Amo op aq rl rd rs1 rs2) fits = whole_plain (Is.Amo op aq rl) (concat (atomic rd rs2 rs1)) (atomic_plain rd rs2 rs1 fits.0 fits.2 fits.1)
instr_text_plain Fence fits = refl
instr_text_plain Ecall fits = refl
instr_text_plain Ebreak fits = refl

not_true : (b : Bool) → not b ≡ true → b ≡ false
not_true true h = absurd (cc)
not_true false h = refl

pub record IsPlain (b : ℕ) : Type 0 where
  pub ascii : nat_lt b 128 ≡ true
  pub kept : (b == 35) ≡ false
  pub same_line : (b == 10) ≡ false

pub plain_is : (b : ℕ) → is_plain b ≡ true → IsPlain b
plain_is b h =
    let a = and_true (nat_lt b 128 && not (b == 35)) (not (b == 10)) h in
    let c = and_true (nat_lt b 128) (not (b == 35)) (a.0) in
    record { ascii = c.0; kept = not_true _ c.1; same_line = not_true _ a.1 }

pub plain_ascii : (t : List ℕ) → IsPlainText t → list_all (λ byte. nat_lt byte 128) t ≡ true
plain_ascii [] h = refl
plain_ascii (b ∷ t) h =
    let both = and_true (is_plain b) (list_all is_plain t) h in
    rw ((plain_is b both.0).ascii) (plain_ascii t both.1)

pub plain_kept : (t : List ℕ) → IsPlainText t → without_comment t ≡ t
plain_kept [] h = refl
plain_kept (b ∷ t) h =
    let both = and_true (is_plain b) (list_all is_plain t) h in
    rw ((plain_is b both.0).kept) (ap (λ q. b ∷ q) (plain_kept t both.1))

-- the statement that the text is
abbrev pub said_by_text : Instr → Said
said_by_text i = Does (with_imm i 0) (immediate_text i)

said_pieces_are : (i : Instr) → instr_pieces (with_imm i 0) (immediate_text i) ≡ instr_pieces i (immediate_text i)
said_pieces_are (Lui rd imm) = refl
said_pieces_are (Auipc rd imm) = refl
said_pieces_are (Jal rd imm) = refl
said_pieces_are (Jalr rd rs1 imm) = refl
said_pieces_are (Branch op rs1 rs2 imm) = refl
said_pieces_are (Load op rd rs1 imm) = refl
said_pieces_are (Store op rs1 rs2 imm) = refl
said_pieces_are (Imm op rd rs1 imm) = refl
said_pieces_are (Reg op rd rs1 rs2) = refl
said_pieces_are (Amo op aq rl rd rs1 rs2) = refl
said_pieces_are Fence = refl
said_pieces_are Ecall = refl
said_pieces_are Ebreak = refl

or_first : (a b : Bool) → a ≡ true → (a || b) ≡ true
or_first true b h = refl
or_first false b h = absurd (cc)

said_fits : (i : Instr) → FieldsFit i → IsSaid (said_by_text i)
said_fits (Lui rd imm) fits = ((fits.0, upper_0), refl, (decimal_number (imm / 4096) (upper_small imm fits.1)).0)
said_fits (Auipc rd imm) fits = ((fits.0, upper_0), refl, (decimal_number (imm / 4096) (upper_small imm fits.1)).0)
said_fits (Jal rd imm) fits = ((fits.0, offset_0 1048576 (omega arith) (omega arith)), refl, or_first _ _ ((signed_number imm fits.1.signed.word).0))
said_fits (Jalr rd rs1 imm) fits = ((fits.0, fits.1, signed_0 2048 (omega arith) (omega arith)), refl, (signed_number imm fits.2.word).0)
said_fits (Branch op rs1 rs2 imm) fits = ((fits.0, fits.1, offset_0 4096 (omega arith) (omega arith)), refl, or_first _ _ ((signed_number imm fits.2.signed.word).0))
said_fits (Load op rd rs1 imm) fits = ((fits.0, fits.1, signed_0 2048 (omega arith) (omega arith)), refl, (signed_number imm fits.2.word).0)
said_fits (Store op rs1 rs2 imm) fits = ((fits.0, fits.1, signed_0 2048 (omega arith) (omega arith)), refl, (signed_number imm fits.2.word).0)
said_fits (Imm op rd rs1 imm) fits = ((fits.0, fits.1, imm_0 op), refl, (signed_number imm (imm_word op imm fits.2)).0)
said_fits (Reg op rd rs1 rs2) fits = (fits, refl, refl)
said_fits (Amo op aq rl rd rs1 rs2) fits = (fits, refl, refl)
said_fits Fence fits = (tt, refl, refl)
said_fits Ecall fits = (tt, refl, refl)
said_fits Ebreak fits = (tt, refl, refl)

-- a text by its pieces
pub instr_text_spells : (i : Instr) → FieldsFit i → Spells (instr_text i) (record { label = None; statement = Some (said_by_text i) })
instr_text_spells i fits =
    let plain = instr_text_plain i fits in
    record {
      ascii = plain_ascii (instr_text i) plain;
      label = tt;
      statement = said_fits i fits;
      text = ap pieces (plain_kept (instr_text i) plain) ∙ instr_text_pieces i fits ∙ sym (said_pieces_are i);
    }

-- and its number is that of its immediate
pub record NumberBack (i : Instr) : Type 0 where
  pub in_range : is_in_range (with_imm i 0) (written_number (immediate_text i)) ≡ true
  pub back : with_imm (with_imm i 0) (imm_by (with_imm i 0) (written_number (immediate_text i))) ≡ i

signed_range : (sign imm : ℕ) → IsSigned sign imm → sign < 2 ^ 31 → in_signed sign (written_number (signed_text imm)) ≡ true
signed_range sign imm h small = rw ((signed_number imm h.word).1) (go (nat_lt imm (2 ^ 31)) refl)
  where
    go : (b : Bool) → nat_lt imm (2 ^ 31) ≡ b → in_signed sign (if b then pos imm else negsuc (2 ^ 32 - imm - 1)) ≡ true
    go true is =
        let w = h.word in let r = h.range in
        let low : imm < 2 ^ 31 = grind (arith, nat_tests, is) in
        let fits : imm < sign = omega arith in
        grind (arith, nat_tests)
    go false is =
        let w = h.word in let r = h.range in
        let high : 2 ^ 31 ≤ imm = grind (arith, nat_tests, is) in
        let fits : 2 ^ 32 - imm - 1 < sign = omega arith in
        grind (arith, nat_tests)

even_range : (imm : ℕ) → imm < 2 ^ 32 → imm % 2 ≡ 0 → is_even (written_number (signed_text imm)) ≡ true
even_range imm w even = rw ((signed_number imm w).1) (go (nat_lt imm (2 ^ 31)) refl)
  where
    go : (b : Bool) → nat_lt imm (2 ^ 31) ≡ b → is_even (if b then pos imm else negsuc (2 ^ 32 - imm - 1)) ≡ true
    go true is = rw even refl
    go false is =
        let odd : (2 ^ 32 - imm - 1) % 2 ≡ 1 = omega arith in
        rw odd refl

offset_range : (sign imm : ℕ) → IsOffset sign imm → sign < 2 ^ 31 → (in_signed sign (written_number (signed_text imm)) && is_even (written_number (signed_text imm))) ≡ true
offset_range sign imm h small = rw (signed_range sign imm h.signed small) (even_range imm h.signed.word h.even)

number_back : (imm : ℕ) → imm < 2 ^ 32 → complement (written_number (signed_text imm)) ≡ imm
number_back imm h = ap complement ((signed_number imm h).1) ∙ complement_integer imm h

upper_back : (imm : ℕ) → IsUpper imm → complement (written_number (decimal (imm / 4096))) * 4096 ≡ imm
upper_back imm h =
    let whole = h.whole in
    ap (λ z. complement z * 4096) ((decimal_number (imm / 4096) (upper_small imm h)).1) ∙ omega arith

upper_range : (imm : ℕ) → IsUpper imm → in_unsigned 1048576 (written_number (decimal (imm / 4096))) ≡ true
upper_range imm h =
    let w = h.word in
    let fits : imm / 4096 < 1048576 = omega arith in
    rw ((decimal_number (imm / 4096) (upper_small imm h)).1) (grind (arith, nat_tests))

shift_range : (imm : ℕ) → imm < 32 → in_unsigned 32 (written_number (signed_text imm)) ≡ true
shift_range imm h =
    let low : nat_lt imm (2 ^ 31) ≡ true = grind (arith, nat_tests) in
    rw ((signed_number imm (omega arith)).1) (rw low (grind (arith, nat_tests)))

imm_range : (op : ImmOp) (rd rs1 imm : ℕ) → ImmFits op imm → is_in_range (Imm op rd rs1 0) (written_number (signed_text imm)) ≡ true
imm_range Addi rd rs1 imm h = signed_range 2048 imm h (omega arith)
imm_range Slti rd rs1 imm h = signed_range 2048 imm h (omega arith)
imm_range Sltiu rd rs1 imm h = signed_range 2048 imm h (omega arith)
imm_range Xori rd rs1 imm h = signed_range 2048 imm h (omega arith)
imm_range Ori rd rs1 imm h = signed_range 2048 imm h (omega arith)
imm_range Andi rd rs1 imm h = signed_range 2048 imm h (omega arith)
imm_range Slli rd rs1 imm h = shift_range imm h
imm_range Srli rd rs1 imm h = shift_range imm h
imm_range Srai rd rs1 imm h = shift_range imm h

pub instr_number_back : (i : Instr) → FieldsFit i → NumberBack i
instr_number_back (Lui rd imm) fits = record { in_range = upper_range imm fits.1; back = ap (Lui rd) (upper_back imm fits.1) }
instr_number_back (Auipc rd imm) fits = record { in_range = upper_range imm fits.1; back = ap (Auipc rd) (upper_back imm fits.1) }
instr_number_back (Jal rd imm) fits = record { in_range = offset_range 1048576 imm fits.1 (omega arith); back = ap (Jal rd) (number_back imm fits.1.signed.word) }
instr_number_back (Jalr rd rs1 imm) fits = record { in_range = signed_range 2048 imm fits.2 (omega arith); back = ap (Jalr rd rs1) (number_back imm fits.2.word) }
instr_number_back (Branch op rs1 rs2 imm) fits = record { in_range = offset_range 4096 imm fits.2 (omega arith); back = ap (Branch op rs1 rs2) (number_back imm fits.2.signed.word) }
instr_number_back (Load op rd rs1 imm) fits = record { in_range = signed_range 2048 imm fits.2 (omega arith); back = ap (Load op rd rs1) (number_back imm fits.2.word) }
instr_number_back (Store op rs1 rs2 imm) fits = record { in_range = signed_range 2048 imm fits.2 (omega arith); back = ap (Store op rs1 rs2) (number_back imm fits.2.word) }
instr_number_back (Imm op rd rs1 imm) fits = record { in_range = imm_range op rd rs1 imm fits.2; back = ap (Imm op rd rs1) (number_back imm (imm_word op imm fits.2)) }
instr_number_back (Reg op rd rs1 rs2) fits = record { in_range = refl; back = refl }
instr_number_back (Amo op aq rl rd rs1 rs2) fits = record { in_range = refl; back = refl }
instr_number_back Fence fits = record { in_range = refl; back = refl }
instr_number_back Ecall fits = record { in_range = refl; back = refl }
instr_number_back Ebreak fits = record { in_range = refl; back = refl }
