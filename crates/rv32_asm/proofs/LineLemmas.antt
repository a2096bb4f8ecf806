-- Lines are read by their grammar.
use Rattle.std.proofs.Common.{◌≡◌, ℕ, ◌&&◌, Bool, true, false, List, [], ◌∷◌, ◌++◌, take, drop, refl, sym, ◌∙◌, ap, subst}
use Rattle.std.specs.Prelude.{Option, Some, not, codes, if◌then◌else◌}
use Rattle.std.specs.Str.{bytes_eq}
use Rattle.std.proofs.lemmas.Slice.Eq.{bytes_eq-Decides}
use Rattle.conda_base.specs.Digits.{is_numeral}
use Rattle.rv32_dis.specs.declared.mnemonic.Mnemonic.{Mnemonic}
use Rattle.rv32_dis.specs.declared.naming.TheConstants.{MNEMONICS}
use Rattle.rv32_dis.specs.Mnemonics.{mnemonic_of, name_of}
use Rattle.rv32_dis.specs.Naming.{mnemonic_in}
use Rattle.rv32_dis.specs.Texts.{operands}
use Rattle.rv32_dis.proofs.NamingLemmas.{named_in_has, mnemonic_in_name}
use Rattle.rv32_dis.proofs.EveryLemmas.{every_mnemonic}
use Rattle.rv32_asm.specs.Grammar.{is_amount, is_hex_word, Said, At, Word, Does, IsSaid, said_pieces}
use Rattle.rv32_asm.specs.Reading.{Pieces, only_piece, operands_in, instr_in, at_in, word_in, statement_by, is_label}
use Rattle.rv32_asm.proofs.RegisterLemmas.{bound, held, and_true, only_piece_is}
use Rattle.rv32_asm.proofs.OperandLemmas.{operands_in_is, operands_again}

-- a statement by its pieces
pub record IsStatement (ps : Pieces) (said : Said) : Type 0 where
  pub parts : ps ≡ said_pieces said
  pub fits : IsSaid said

mnemonic_in_is : (name : List ℕ) (m : Mnemonic) → mnemonic_in name ≡ Some m → name_of m ≡ name
unfolding mnemonic_in
mnemonic_in_is name m h = named_in_has MNEMONICS name m h

at_in_is : (ps : Pieces) (said : Said) → at_in ps ≡ Some said → IsStatement (codes ".at" ∷ ps) said
unfolding at_in
at_in_is ps said h = bound _ (only_piece ps) h (λ n only kept. held (is_numeral n) kept (λ is same.
    subst (IsStatement (codes ".at" ∷ ps)) same (record { parts = ap (λ q. codes ".at" ∷ q) (only_piece_is ps n only); fits = is })))

take_two : (text : List ℕ) → take 2 text ≡ codes "0x" → text ≡ codes "0x" ++ drop 2 text
take_two [] h = absurd (cc)
take_two (a ∷ []) h = absurd (cc)
take_two (a ∷ b ∷ text) h = ap (λ q. q ++ text) h

word_in_is : (ps : Pieces) (said : Said) → word_in ps ≡ Some said → IsStatement (codes ".word" ∷ ps) said
unfolding word_in
word_in_is ps said h = bound _ (only_piece ps) h (λ n only kept. held (bytes_eq (take 2 n) (codes "0x") && is_hex_word (drop 2 n)) kept (λ is same.
    let both = and_true (bytes_eq (take 2 n) (codes "0x")) (is_hex_word (drop 2 n)) is in
    let whole = take_two n ((bytes_eq-Decides (take 2 n) (codes "0x")).0 both.0) in
    subst (IsStatement (codes ".word" ∷ ps)) same
    (record { parts = ap (λ q. codes ".word" ∷ q) (only_piece_is ps n only ∙ ap (λ q. q ∷ []) whole); fits = both.1 })))

instr_in_is : (m : Mnemonic) (ps : Pieces) (said : Said) → instr_in m ps ≡ Some said → IsStatement (name_of m ∷ ps) said
unfolding instr_in
instr_in_is m ps said h = bound _ (operands_in m ps) h (λ x read kept. held (is_amount x.0 x.1) kept (λ is same.
    let o = operands_in_is m ps x read in
    subst (IsStatement (name_of m ∷ ps)) same
    (record { parts = ap (λ n. name_of n ∷ ps) (sym o.name) ∙ ap (λ q. name_of (mnemonic_of x.0) ∷ q) o.parts; fits = (o.fits, o.blank, is) })))

-- a choice that gave a value took one of its ways
pub pick : {X R : Type 0} (b : Bool) {x y : Option X} {v : X} → (if b then x else y) ≡ Some v → (b ≡ true → x ≡ Some v → R) → (b ≡ false → y ≡ Some v → R) → R
pick true h taken other = taken refl h
pick false h taken other = other refl h

pub said_by_is : (first : List ℕ) (rest : Pieces) (said : Said) → statement_by first rest ≡ Some said → IsStatement (first ∷ rest) said
unfolding statement_by
said_by_is first rest said h =
    let P : List ℕ → Type 0 = λ name. IsStatement (name ∷ rest) said in
    pick (bytes_eq first (codes ".at")) h
    (λ is x. subst P (sym ((bytes_eq-Decides first (codes ".at")).0 is)) (at_in_is rest said x))
    (λ _ y. pick (bytes_eq first (codes ".word")) y
    (λ is x. subst P (sym ((bytes_eq-Decides first (codes ".word")).0 is)) (word_in_is rest said x))
    (λ _ z. bound _ (mnemonic_in first) z (λ m named kept. subst P (mnemonic_in_is first m named) (instr_in_is m rest said kept))))

-- no instruction is named as a directive, or ends in a colon
no_at : (m : Mnemonic) → not (bytes_eq (name_of m) (codes ".at")) ≡ true
no_at m = every_mnemonic (λ n. not (bytes_eq (name_of n) (codes ".at"))) m refl

no_word : (m : Mnemonic) → not (bytes_eq (name_of m) (codes ".word")) ≡ true
no_word m = every_mnemonic (λ n. not (bytes_eq (name_of n) (codes ".word"))) m refl

no_label : (m : Mnemonic) → not (is_label (name_of m)) ≡ true
no_label m = every_mnemonic (λ n. not (is_label (name_of n))) m refl

not_false : (b : Bool) → not b ≡ true → b ≡ false
not_false true h = absurd (cc)
not_false false h = refl

-- the first word of a statement, and the rest
abbrev pub first_of : Said → List ℕ
first_of (At number) = codes ".at"
first_of (Word digits) = codes ".word"
first_of (Does i number) = name_of (mnemonic_of i)

abbrev pub rest_of : Said → Pieces
rest_of (At number) = number ∷ []
rest_of (Word digits) = (codes "0x" ++ digits) ∷ []
rest_of (Does i number) = operands i number

pub first_rest : (said : Said) → said_pieces said ≡ first_of said ∷ rest_of said
first_rest (At number) = refl
first_rest (Word digits) = refl
first_rest (Does i number) = refl

pub first_no_label : (said : Said) → is_label (first_of said) ≡ false
first_no_label (At number) = refl
first_no_label (Word digits) = refl
first_no_label (Does i number) = not_false (is_label (name_of (mnemonic_of i))) (no_label (mnemonic_of i))

pub said_by_again : (said : Said) → IsSaid said → statement_by (first_of said) (rest_of said) ≡ Some said
unfolding statement_by at_in word_in instr_in only_piece
said_by_again (At number) fits = rw fits refl
said_by_again (Word digits) fits = rw fits refl
said_by_again (Does i number) fits =
    let at : bytes_eq (name_of (mnemonic_of i)) (codes ".at") ≡ false = not_false _ (no_at (mnemonic_of i)) in
    let word : bytes_eq (name_of (mnemonic_of i)) (codes ".word") ≡ false = not_false _ (no_word (mnemonic_of i)) in
    let amount : is_amount i number ≡ true = fits.2 in
    rw at (rw word (rw (mnemonic_in_name (mnemonic_of i)) (rw (operands_again i number fits.0 fits.1 fits.2) (rw amount refl))))
