-- What a line says, by its grammar.
use Rattle.std.proofs.Common.{◌≡◌, ℕ, ◌-◌, ◌==◌, true, List, [], ◌∷◌, ◌++◌, length, take, get_or, refl, sym, ◌∙◌, ap, subst, arith, length-append}
use Rattle.std.specs.Prelude.{Option, Some, None, IsTrue, IfSome, nat_le, nat_lt, codes}
use Rattle.std.specs.List.{list_all}
use Rattle.std.proofs.lemmas.Bool.{eqb-true}
use Rattle.std.proofs.lemmas.Bool.Decides.{nat_tests}
use Rattle.std.proofs.lemmas.List.{take_at}
use Rattle.rv32_asm.specs.Assembled.{IsSource, said_of as statement_of}
use Rattle.std.specs.Prelude.{map}
use Rattle.rv32_asm.specs.Pieces.{pieces, without_comment}
use Rattle.rv32_asm.specs.Grammar.{is_name, Said, LineSaid, IsSaid, label_pieces, statement_pieces, Spells, Says}
use Rattle.rv32_asm.specs.Reading.{Pieces, statement_by, statement_in, is_label, label_name, pieces_in, line_in}
use Rattle.rv32_asm.proofs.RegisterLemmas.{some_is, and_true}
use Rattle.rv32_asm.proofs.OperandLemmas.{mapped}
use Rattle.rv32_asm.proofs.LineLemmas.{first_of, rest_of, first_rest, first_no_label, pick, said_by_is, said_by_again}

pub record IsMaybe (ps : Pieces) (s : Option Said) : Type 0 where
  pub parts : ps ≡ statement_pieces s
  pub fits : IfSome s IsSaid

statement_in_is : (ps : Pieces) (s : Option Said) → statement_in ps ≡ Some s → IsMaybe ps s
unfolding statement_in
statement_in_is [] s h = subst (IsMaybe []) (some_is None s h) (record { parts = refl; fits = tt })
statement_in_is (first ∷ rest) s h = mapped Some (statement_by first rest) h (λ said read same.
    let is = said_by_is first rest said read in
    subst (IsMaybe (first ∷ rest)) same (record { parts = is.parts; fits = is.fits }))

statement_again : (s : Option Said) → IfSome s IsSaid → statement_in (statement_pieces s) ≡ Some s
unfolding statement_in
statement_again None fits = refl
statement_again (Some said) fits = rw (first_rest said) (rw (said_by_again said fits) refl)

last_is : (b : ℕ) (bs : List ℕ) → take (length bs) (b ∷ bs) ++ get_or (b ∷ bs) (length bs) 0 ∷ [] ≡ b ∷ bs
last_is b [] = refl
last_is b (c ∷ cs) = ap (λ q. b ∷ q) (last_is c cs)

is_label_is : (piece : List ℕ) → is_label piece ≡ true → piece ≡ label_name piece ++ codes ":"
is_label_is [] h = absurd (cc)
is_label_is (b ∷ bs) h =
    let both = and_true (nat_le 1 (length (b ∷ bs))) (get_or (b ∷ bs) (length (b ∷ bs) - 1) 0 == 58) h in
    let len : length (b ∷ bs) - 1 ≡ length bs = omega arith in
    let colon : get_or (b ∷ bs) (length bs) 0 ≡ 58 = rw len at (eqb-true (get_or (b ∷ bs) (length (b ∷ bs) - 1) 0) 58 both.1) in
    rw len (sym (last_is b bs) ∙ ap (λ q. take (length bs) (b ∷ bs) ++ q ∷ []) colon)

colon_at : (name : List ℕ) → get_or (name ++ codes ":") (length name) 0 ≡ 58
colon_at [] = refl
colon_at (b ∷ name) = colon_at name

name_len : (name : List ℕ) → length (name ++ codes ":") - 1 ≡ length name
name_len name = omega (arith, length-append name (codes ":"))

label_again : (name : List ℕ) → is_label (name ++ codes ":") ≡ true
label_again name =
    let some : nat_le 1 (length (name ++ codes ":")) ≡ true = grind (arith, nat_tests, length-append name (codes ":")) in
    rw some (rw (name_len name) (rw (colon_at name) refl))

name_again : (name : List ℕ) → label_name (name ++ codes ":") ≡ name
name_again name = rw (name_len name) (take_at name (codes ":") (length name) refl)

-- a line by its pieces
pub record IsLine (ps : Pieces) (l : LineSaid) : Type 0 where
  pub label : IfSome l.label (λ name. IsTrue (is_name name))
  pub statement : IfSome l.statement IsSaid
  pub text : ps ≡ label_pieces l.label ++ statement_pieces l.statement

pub pieces_in_is : (ps : Pieces) (l : LineSaid) → pieces_in ps ≡ Some l → IsLine ps l
unfolding pieces_in
pieces_in_is [] l h = subst (IsLine []) (some_is (record { label = None; statement = None }) l h) (record { label = tt; statement = tt; text = refl })
pieces_in_is (first ∷ rest) l h =
    pick (is_label first) h
    (λ is x. pick (is_name (label_name first)) x
    (λ named y. mapped _ (statement_in rest) y (λ s read same.
    let m = statement_in_is rest s read in
    subst (IsLine (first ∷ rest)) same
    (record { label = named; statement = m.fits; text = ap (λ q. q ∷ rest) (is_label_is first is) ∙ ap (λ q. (label_name first ++ codes ":") ∷ q) m.parts })))
    (λ _ y. absurd (cc)))
    (λ _ x. mapped _ (statement_in (first ∷ rest)) x (λ s read same.
    let m = statement_in_is (first ∷ rest) s read in
    subst (IsLine (first ∷ rest)) same (record { label = tt; statement = m.fits; text = m.parts })))

unlabeled_again : (s : Option Said) → IfSome s IsSaid → pieces_in (statement_pieces s) ≡ Some (record { label = None; statement = s })
unfolding pieces_in
unlabeled_again None fits = refl
unlabeled_again (Some said) fits =
    let again : statement_in (first_of said ∷ rest_of said) ≡ Some (Some said) = ap statement_in (sym (first_rest said)) ∙ statement_again (Some said) fits in
    rw (first_rest said) (rw (first_no_label said) (rw again refl))

pub pieces_again : (label : Option (List ℕ)) (s : Option Said) → IfSome label (λ name. IsTrue (is_name name)) → IfSome s IsSaid
    → pieces_in (label_pieces label ++ statement_pieces s) ≡ Some (record { label = label; statement = s })
unfolding pieces_in
pieces_again None s named fits = unlabeled_again s fits
pieces_again (Some name) s named fits =
    let good : is_name name ≡ true = named in
    rw (label_again name) (rw (name_again name) (rw good (rw (statement_again s fits) refl)))

-- what is spelled so is read so
pub spelled : (line : List ℕ) (l : LineSaid) → Spells line l → line_in line ≡ Some l
spelled line l h =
    let ascii : list_all (λ byte. nat_lt byte 128) line ≡ true = h.ascii in
    rw ascii (ap pieces_in h.text ∙ pieces_again l.label l.statement h.label h.statement)

pub read_spells : (line : List ℕ) (l : LineSaid) → line_in line ≡ Some l → Spells line l
read_spells line l h = pick (list_all (λ byte. nat_lt byte 128) line) h
    (λ is x.
    let p = pieces_in_is (pieces (without_comment line)) l x in
    record { ascii = is; label = p.label; statement = p.statement; text = p.text })
    (λ _ y. absurd (cc))

pub line_says : (line : List ℕ) (o : Option LineSaid) → line_in line ≡ o → Says line o
line_says line None h = λ said spells. let both : ◌≡◌ {A = Option LineSaid} None (Some said) = sym h ∙ spelled line said spells in absurd (cc)
line_says line (Some l) h = read_spells line l h

-- a line says one thing
pub says_once : (line : List ℕ) (o : Option LineSaid) → Says line o → line_in line ≡ o
says_once line (Some l) h = spelled line l h
says_once line None h = go (line_in line) refl
  where
    go : (o : Option LineSaid) → line_in line ≡ o → line_in line ≡ None
    go None is = is
    go (Some l) is = absurd (h l (read_spells line l is))

pub statement_fits : (line : List ℕ) → IfSome (statement_of (line_in line)) IsSaid
statement_fits line = go (line_in line) (read_spells line)
  where
    go : (o : Option LineSaid) → ((l : LineSaid) → o ≡ Some l → Spells line l) → IfSome (statement_of o) IsSaid
    go None each = tt
    go (Some l) each = (each l refl).statement

pub lines_say : (lines : List (List ℕ)) → IsSource lines (map line_in lines)
lines_say [] = tt
lines_say (line ∷ lines) = (line_says line (line_in line) refl, lines_say lines)
