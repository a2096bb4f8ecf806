-- A text is cut into its words and marks.
use Rattle.std.proofs.Common.{◌≡◌, ℕ, ◌+◌, ◌<◌, ◌==◌, ◌||◌, Bool, true, false, List, [], ◌∷◌, length, take, drop, refl, sym, ◌∙◌, ap, subst, arith, add-one}
use Rattle.std.specs.Prelude.{Some, None, if◌then◌else◌}
use Rattle.rv32_asm.specs.Reading.{take_piece}
use Rattle.rv32_asm.specs.Pieces.{is_blank, is_mark, ends_word, pieces, onto_first}
use Rattle.rv32_asm.specs.Cutting.{after_blanks, word_len, piece_len}

pub or_false : (a b : Bool) → (a || b) ≡ false → (a ≡ false) × (b ≡ false)
or_false true b h = absurd (cc)
or_false false b h = (refl, h)

-- the text begins with a byte other than a blank
abbrev pub Begins : List ℕ → Type 0
Begins [] = Unit {0}
Begins (byte ∷ text) = is_blank byte ≡ false

pub after_blanks_begins : (text : List ℕ) → Begins (after_blanks text)
after_blanks_begins [] = tt
after_blanks_begins (byte ∷ text) = go (is_blank byte) refl (after_blanks_begins text)
  where
    go : (b : Bool) → is_blank byte ≡ b → Begins (after_blanks text) → Begins (if b then after_blanks text else byte ∷ text)
    go true is later = later
    go false is later = is

pub pieces_after_blanks : (text : List ℕ) → pieces (after_blanks text) ≡ pieces text
pieces_after_blanks [] = refl
pieces_after_blanks (byte ∷ text) = go (is_blank byte) refl (pieces_after_blanks text)
  where
    go : (b : Bool) → is_blank byte ≡ b → pieces (after_blanks text) ≡ pieces text → pieces (if b then after_blanks text else byte ∷ text) ≡ pieces (byte ∷ text)
    go true is later = rw is later
    go false is later = refl

-- a word goes on with a byte of a word
next_is_part : (byte next : ℕ) (text : List ℕ) → ends_word byte (next ∷ text) ≡ false → (is_blank next ≡ false) × (is_mark next ≡ false)
next_is_part byte next text h =
    let front = or_false (byte == 58 || is_blank next) (is_mark next) h in
    ((or_false (byte == 58) (is_blank next) (front.0)).1, front.1)

pub pieces_word : (byte : ℕ) (text : List ℕ) → is_blank byte ≡ false → is_mark byte ≡ false
    → pieces (byte ∷ text) ≡ take (word_len (byte ∷ text)) (byte ∷ text) ∷ pieces (drop (word_len (byte ∷ text)) (byte ∷ text))
pieces_word byte [] blank mark = rw blank (rw mark refl)
pieces_word byte (next ∷ text) blank mark = go (ends_word byte (next ∷ text)) refl (pieces_word next text)
  where
    go : (b : Bool) → ends_word byte (next ∷ text) ≡ b
        → (is_blank next ≡ false → is_mark next ≡ false → pieces (next ∷ text) ≡ take (word_len (next ∷ text)) (next ∷ text) ∷ pieces (drop (word_len (next ∷ text)) (next ∷ text)))
        → pieces (byte ∷ next ∷ text) ≡ take (if b then 1 else word_len (next ∷ text) + 1) (byte ∷ next ∷ text) ∷ pieces (drop (if b then 1 else word_len (next ∷ text) + 1) (byte ∷ next ∷ text))
    go true is later = rw blank (rw mark (rw is refl))
    go false is later =
        let part = next_is_part byte next text is in
        rw blank (rw mark (rw is (rw add-one (ap (onto_first byte) (later part.0 part.1)))))

pub pieces_piece : (byte : ℕ) (text : List ℕ) → is_blank byte ≡ false
    → pieces (byte ∷ text) ≡ take (piece_len (byte ∷ text)) (byte ∷ text) ∷ pieces (drop (piece_len (byte ∷ text)) (byte ∷ text))
pieces_piece byte text blank = go (is_mark byte) refl
  where
    go : (b : Bool) → is_mark byte ≡ b
        → pieces (byte ∷ text) ≡ take (if b then 1 else word_len (byte ∷ text)) (byte ∷ text) ∷ pieces (drop (if b then 1 else word_len (byte ∷ text)) (byte ∷ text))
    go true is = rw blank (rw is refl)
    go false is = pieces_word byte text blank is

pub piece_none : (text rest : List ℕ) → rest ≡ after_blanks text → length rest ≡ 0 → take_piece (pieces text) ≡ None
piece_none text [] same empty = rw (← pieces_after_blanks text) (rw (← same) refl)
piece_none text (byte ∷ rest) same empty = absurd (omega arith)

pub piece_some : (text rest : List ℕ) → rest ≡ after_blanks text → 0 < length rest
    → take_piece (pieces text) ≡ Some (take (piece_len rest) rest, pieces (drop (piece_len rest) rest))
piece_some text [] same some = absurd (omega arith)
piece_some text (byte ∷ rest) same some =
    let begins : Begins (byte ∷ rest) = subst Begins (sym same) (after_blanks_begins text) in
    let whole : pieces text ≡ pieces (byte ∷ rest) = sym (pieces_after_blanks text) ∙ ap pieces (sym same) in
    ap take_piece (whole ∙ pieces_piece byte rest begins)
