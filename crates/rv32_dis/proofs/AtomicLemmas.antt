-- The names of atomics of one fourth letter are sought among these alone.
use Rattle.std.proofs.Common.{◌≡◌, ℕ, ◌≤◌, List, [], ◌∷◌, take, drop, length, get_or, refl, sym, subst, arith}
use Rattle.std.specs.Prelude.{codes}
use Rattle.rv32_dis.specs.declared.mnemonic.Mnemonic.{Mnemonic}
use Rattle.rv32_dis.specs.declared.naming.TheConstants.{MNEMONICS}
use Rattle.rv32_dis.specs.Naming.{named_in}

-- a name by its first four letters
spelled : (name : List ℕ) (k : ℕ) → 4 ≤ length name → take 3 name ≡ codes "amo" → get_or name 3 0 ≡ k → name ≡ 97 ∷ 109 ∷ 111 ∷ k ∷ drop 4 name
spelled [] k long begins fourth = absurd (omega arith)
spelled (a ∷ []) k long begins fourth = absurd (omega arith)
spelled (a ∷ b ∷ []) k long begins fourth = absurd (omega arith)
spelled (a ∷ b ∷ c ∷ []) k long begins fourth = absurd (omega arith)
spelled (a ∷ b ∷ c ∷ d ∷ name) k long begins fourth =
    let first : a ≡ 97 = cc in
    let second : b ≡ 109 = cc in
    let third : c ≡ 111 = cc in
    let last : d ≡ k = fourth in
    rw (first, second, third, last) refl

-- what holds of every name with these letters holds of this one
pub by_letters : (some : List Mnemonic) (k : ℕ) → ((rest : List ℕ) → named_in some (97 ∷ 109 ∷ 111 ∷ k ∷ rest) ≡ named_in MNEMONICS (97 ∷ 109 ∷ 111 ∷ k ∷ rest))
    → (name : List ℕ) → 4 ≤ length name → take 3 name ≡ codes "amo" → get_or name 3 0 ≡ k → named_in some name ≡ named_in MNEMONICS name
by_letters some k each name long begins fourth =
    subst (λ n. named_in some n ≡ named_in MNEMONICS n) (sym (spelled name k long begins fourth)) (each (drop 4 name))
