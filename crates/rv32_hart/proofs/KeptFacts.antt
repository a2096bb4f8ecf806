-- Instructions that are kept decoded.
use Rattle.std.proofs.Common.{◌≡◌, ℕ, zero, suc, ◌+◌, ◌*◌, ◌<◌, ◌≤◌, ⊎_elim, List, [], ◌∷◌, ◌++◌, Option, Some, length, subst, sym, ◌∙◌, refl, arith}
use Rattle.std.specs.List.{slice_get}
use Rattle.std.proofs.lemmas.Bool.{cases_lt}
use Rattle.rv32_decode.specs.declared.instr.Instr.{Instr}
use Rattle.rv32_decode.specs.Ranges.{FieldsFit}
use Rattle.rv32_hart.specs.Code.{CodeView}
use Rattle.rv32_hart.specs.Kept.{AreDecoded, instr_at}

slice_get-front : {A : Type 0} (xs ys : List A) (n : ℕ) → n < length xs → slice_get (xs ++ ys) n ≡ slice_get xs n
slice_get-front [] ys n h = absurd (omega arith)
slice_get-front (x ∷ xs) ys zero h = refl
slice_get-front (x ∷ xs) ys (suc n) h = slice_get-front xs ys n (omega arith)

slice_get-last : {A : Type 0} (xs : List A) (o i : A) (n : ℕ) → length xs ≤ n → slice_get (xs ++ o ∷ []) n ≡ Some i → (n ≡ length xs) × (o ≡ i)
slice_get-last [] o i zero h at = (refl, cc)
slice_get-last [] o i (suc n) h at = absurd cc
slice_get-last (x ∷ xs) o i zero h at = absurd (omega arith)
slice_get-last (x ∷ xs) o i (suc n) h at =
    let last = slice_get-last xs o i n (omega arith) at in (omega (arith, last.0), last.1)

-- one instruction more
pub AreDecoded-push : (code : CodeView) (first : ℕ) (kept : List (Option Instr)) (o : Option Instr) → AreDecoded code first kept
    → ((i : Instr) → o ≡ Some i → (instr_at code ((first + length kept) * 4) ≡ Some i) × FieldsFit i)
    → AreDecoded code first (kept ++ o ∷ [])
AreDecoded-push code first kept o are new place i there =
    ⊎_elim
    (λ (before : place < length kept). are place i (sym (slice_get-front kept (o ∷ []) place before) ∙ there))
    (λ (past : length kept ≤ place).
    let last = slice_get-last kept o (Some i) place past there in
    subst (λ n. (instr_at code ((first + n) * 4) ≡ Some i) × FieldsFit i) (sym last.0) (new i last.1))
    (cases_lt place (length kept))
