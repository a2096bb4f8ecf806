-- The bits of lists of lines.
use Rattle.std.proofs.Common.{◌≡◌, ℕ, ◌+◌, Bool, true, false, not, cond, ◌&&◌, ◌||◌, ◌⊎◌, inl, inr, List, [], ◌∷◌, ◌++◌, eqb, sym, ap, subst, refl, arith, ⊎_elim, ◌∙◌, append_assoc}
use Rattle.std.proofs.lemmas.List.{append-nil}
use Rattle.std.proofs.lemmas.Bool.{false≢true, eqb-true, eq-eqb, or_cases, or_left, or_right, and_from}
use Rattle.conda_base.specs.declared.Line.{Line}
use Rattle.conda_base.specs.LineLists.{names, same_line}
use Rattle.bloom_sig.specs.Signatures.{line_bit}
use Rattle.bloom_sig.specs.Images.{hits, hits_both, is_member_of, is_new, is_meeting, new_after, fill_of, ListedIsMember}

or_assoc : (a b c : Bool) → a || (b || c) ≡ (a || b) || c
or_assoc true b c = refl
or_assoc false b c = refl

pub hits-append : (bits constant : ℕ) (lines others : List Line) (n : ℕ) → hits bits constant (lines ++ others) n ≡ hits bits constant lines n || hits bits constant others n
hits-append bits constant [] others n = refl
hits-append bits constant (line ∷ lines) others n =
    ap (λ t. eqb (line_bit bits constant line) n || t) (hits-append bits constant lines others n) ∙
    or_assoc (eqb (line_bit bits constant line) n) (hits bits constant lines n) (hits bits constant others n)

or_false : (a : Bool) → a || false ≡ a
or_false true = refl
or_false false = refl

or_swap : (a b : Bool) → a || b ≡ b || a
or_swap true true = refl
or_swap true false = refl
or_swap false true = refl
or_swap false false = refl

-- the bits with one more line
pub hits-push : (bits constant : ℕ) (lines : List Line) (line : Line) (n : ℕ) → hits bits constant (lines ++ line ∷ []) n ≡ eqb (line_bit bits constant line) n || hits bits constant lines n
hits-push bits constant lines line n =
    hits-append bits constant lines (line ∷ []) n ∙
    ap (λ t. hits bits constant lines n || t) (or_false (eqb (line_bit bits constant line) n)) ∙
    or_swap (hits bits constant lines n) (eqb (line_bit bits constant line) n)

-- ---- lines of a list

same_bit : (bits constant : ℕ) (x line : Line) → same_line x line ≡ true → line_bit bits constant x ≡ line_bit bits constant line
same_bit bits constant x line same = ap (λ n. line_bit bits constant (record { 0 = n })) (eqb-true x.0 line.0 same)

-- a line of the list has its bits in it
pub hits-listed : (bits constant : ℕ) (lines : List Line) (line : Line) → names lines line ≡ true → hits bits constant lines (line_bit bits constant line) ≡ true
hits-listed bits constant [] line listed = absurd (false≢true listed)
hits-listed bits constant (x ∷ lines) line listed =
    ⊎_elim
    (λ (here : same_line x line ≡ true). or_left _ _ (eq-eqb _ _ (same_bit bits constant x line here)))
    (λ (there : names lines line ≡ true). or_right _ _ (hits-listed bits constant lines line there))
    (or_cases _ _ listed)

pub listed_is_member : ListedIsMember
listed_is_member bits lines line listed =
    and_from _ _
    (and_from _ _
    (and_from _ _ (hits-listed bits 0x9E3779B1 lines line listed) (hits-listed bits 0x85EBCA6B lines line listed))
    (hits-listed bits 0xC2B2AE35 lines line listed))
    (hits-listed bits 0x27D4EB2F lines line listed)

-- a bit is that of a line of the list
hit-listed : (bits constant : ℕ) (lines : List Line) (n : ℕ) → hits bits constant lines n ≡ true → (line : Line) × (names lines line ≡ true) × (line_bit bits constant line ≡ n)
hit-listed bits constant [] n hit = absurd (false≢true hit)
hit-listed bits constant (x ∷ lines) n hit =
    go (or_cases (eqb (line_bit bits constant x) n) (hits bits constant lines n) hit) (hit-listed bits constant lines n)
  where
    go : (eqb (line_bit bits constant x) n ≡ true) ⊎ (hits bits constant lines n ≡ true) → (hits bits constant lines n ≡ true → (line : Line) × (names lines line ≡ true) × (line_bit bits constant line ≡ n)) → (line : Line) × (names (x ∷ lines) line ≡ true) × (line_bit bits constant line ≡ n)
    go (inl here) later = (x, or_left _ _ (eq-eqb x.0 x.0 refl), eqb-true (line_bit bits constant x) n here)
    go (inr there) later = let found = later there in (found.0, or_right _ _ found.1, found.2)

same_bools : (a b : Bool) → (a ≡ true → b ≡ true) → (b ≡ true → a ≡ true) → a ≡ b
same_bools true b to from = sym (to refl)
same_bools false true to from = from refl
same_bools false false to from = refl

-- lists of the same lines have the same bits
hits-within : (bits constant : ℕ) (lines others : List Line) (n : ℕ) → ((line : Line) → names lines line ≡ names others line) → hits bits constant lines n ≡ true → hits bits constant others n ≡ true
hits-within bits constant lines others n each hit =
    let found = hit-listed bits constant lines n hit in
    subst (λ i. hits bits constant others i ≡ true) found.2 (hits-listed bits constant others found.0 (sym (each found.0) ∙ found.1))

pub hits-same : (bits constant : ℕ) (lines others : List Line) (n : ℕ) → ((line : Line) → names lines line ≡ names others line) → hits bits constant lines n ≡ hits bits constant others n
hits-same bits constant lines others n same =
    same_bools _ _ (hits-within bits constant lines others n same) (hits-within bits constant others lines n (λ line. sym (same line)))

-- ---- lines of two lists

-- a bit that both lists hit
pub hits_both-from : (bits constant : ℕ) (lines others : List Line) (n : ℕ) → hits bits constant lines n ≡ true → hits bits constant others n ≡ true → hits_both bits constant lines others ≡ true
hits_both-from bits constant [] others n hit other = absurd (false≢true hit)
hits_both-from bits constant (x ∷ lines) others n hit other =
    go (or_cases (eqb (line_bit bits constant x) n) (hits bits constant lines n) hit) (λ later. hits_both-from bits constant lines others n later other)
  where
    go : (eqb (line_bit bits constant x) n ≡ true) ⊎ (hits bits constant lines n ≡ true) → (hits bits constant lines n ≡ true → hits_both bits constant lines others ≡ true) → (hits bits constant others (line_bit bits constant x) || hits_both bits constant lines others) ≡ true
    go (inl here) later = or_left _ _ (ap (hits bits constant others) (eqb-true (line_bit bits constant x) n here) ∙ other)
    go (inr there) later = or_right _ _ (later there)

pub hits_both-bit : (bits constant : ℕ) (lines others : List Line) → hits_both bits constant lines others ≡ true → (n : ℕ) × (hits bits constant lines n ≡ true) × (hits bits constant others n ≡ true)
hits_both-bit bits constant [] others both = absurd (false≢true both)
hits_both-bit bits constant (x ∷ lines) others both =
    go (or_cases (hits bits constant others (line_bit bits constant x)) (hits_both bits constant lines others) both) (hits_both-bit bits constant lines others)
  where
    go : (hits bits constant others (line_bit bits constant x) ≡ true) ⊎ (hits_both bits constant lines others ≡ true) → (hits_both bits constant lines others ≡ true → (n : ℕ) × (hits bits constant lines n ≡ true) × (hits bits constant others n ≡ true)) → (n : ℕ) × (hits bits constant (x ∷ lines) n ≡ true) × (hits bits constant others n ≡ true)
    go (inl here) later = (line_bit bits constant x, or_left _ _ (eq-eqb (line_bit bits constant x) (line_bit bits constant x) refl), here)
    go (inr there) later = let found = later there in (found.0, or_right _ _ found.1, found.2)

-- lists with a line in common meet
hits_both-listed : (bits constant : ℕ) (lines others : List Line) (line : Line) → names lines line ≡ true → names others line ≡ true → hits_both bits constant lines others ≡ true
hits_both-listed bits constant lines others line one other =
    hits_both-from bits constant lines others (line_bit bits constant line) (hits-listed bits constant lines line one) (hits-listed bits constant others line other)

pub meeting-listed : (bits : ℕ) (lines others : List Line) (line : Line) → names lines line ≡ true → names others line ≡ true → is_meeting bits lines others ≡ true
meeting-listed bits lines others line one other =
    and_from _ _
    (and_from _ _
    (and_from _ _ (hits_both-listed bits 0x9E3779B1 lines others line one other) (hits_both-listed bits 0x85EBCA6B lines others line one other))
    (hits_both-listed bits 0xC2B2AE35 lines others line one other))
    (hits_both-listed bits 0x27D4EB2F lines others line one other)

-- no list meets the empty one
hits_both-none : (bits constant : ℕ) (lines : List Line) → hits_both bits constant lines [] ≡ false
hits_both-none bits constant [] = refl
hits_both-none bits constant (x ∷ lines) = hits_both-none bits constant lines

pub meeting-none : (bits : ℕ) (lines : List Line) → is_meeting bits lines [] ≡ false
meeting-none bits lines =
    ap (λ b. b && hits_both bits 0x85EBCA6B lines [] && hits_both bits 0xC2B2AE35 lines [] && hits_both bits 0x27D4EB2F lines [])
    (hits_both-none bits 0x9E3779B1 lines)

-- ---- the fill

new_after-push : (bits : ℕ) (earlier lines : List Line) (line : Line) → new_after bits earlier (lines ++ line ∷ []) ≡ new_after bits earlier lines + cond (is_new bits (earlier ++ lines) line) 1 0
new_after-push bits earlier [] line = rw (append-nil earlier) (omega arith)
new_after-push bits earlier (x ∷ lines) line =
    let later = new_after-push bits (earlier ++ x ∷ []) lines line in
    let all : (earlier ++ x ∷ []) ++ lines ≡ earlier ++ x ∷ lines = append_assoc earlier (x ∷ []) lines in
    let same = ap (λ ls. cond {A = ℕ} (is_new bits ls line) 1 0) all in
    omega arith

cond_not : (b : Bool) → cond {A = ℕ} (not b) 1 0 ≡ cond b 0 1
cond_not true = refl
cond_not false = refl

-- the fill with one more line
pub fill_of-push : (bits : ℕ) (lines : List Line) (line : Line) → fill_of bits (lines ++ line ∷ []) ≡ fill_of bits lines + cond (is_member_of bits lines line) 0 1
fill_of-push bits lines line =
    new_after-push bits [] lines line ∙ ap (λ n. new_after bits [] lines + n) (cond_not (is_member_of bits lines line))
