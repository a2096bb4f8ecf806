-- Tests of the numbers below another.
use Rattle.std.proofs.Common.{◌≡◌, ◌≢◌, ◌<◌, ◌||◌, ℕ, zero, suc, Bool, true, false, ⊎_elim, ap, sym, ◌∙◌, refl, arith}
use Rattle.std.proofs.Math.Path.{fun_ext}
use Rattle.std.proofs.lemmas.Bool.{or_cases, or_from, or_parts, cases_eq}
use Rattle.line_memory.specs.Tags.{some_below}

-- a number below n that passes
pub some_found : (n k : ℕ) (test : ℕ → Bool) → k < n → test k ≡ true → some_below n test ≡ true
some_found zero k test below is = absurd (omega arith)
some_found (suc n) k test below is =
    ⊎_elim
    (λ (same : k ≡ n). rw (ap test (sym same) ∙ is) (or_true (some_below n test)))
    (λ (apart : k ≢ n). rw (some_found n k test (omega arith) is) refl)
    (cases_eq k n)
  where
    or_true : (b : Bool) → (b || true) ≡ true
    or_true true = refl
    or_true false = refl

pub some_exists : (n : ℕ) (test : ℕ → Bool) → some_below n test ≡ true → (k : ℕ) × (k < n) × (test k ≡ true)
some_exists zero test is = absurd cc
some_exists (suc n) test is =
    ⊎_elim
    (λ (earlier : some_below n test ≡ true). let found = some_exists n test earlier in (found.0, omega arith, found.2))
    (λ (last : test n ≡ true). (n, omega arith, last))
    (or_cases (some_below n test) (test n) is)

-- where each number below n fails, and where none passes
pub none_found : (n : ℕ) (test : ℕ → Bool) → ((k : ℕ) → k < n → test k ≡ false) → some_below n test ≡ false
none_found zero test none = refl
none_found (suc n) test none = or_from _ _ (none_found n test (λ k below. none k (omega arith))) (none n (omega arith))

pub none_at : (n k : ℕ) (test : ℕ → Bool) → some_below n test ≡ false → k < n → test k ≡ false
none_at zero k test none below = absurd (omega arith)
none_at (suc n) k test none below =
    let parts = or_parts (some_below n test) (test n) none in
    ⊎_elim
    (λ (same : k ≡ n). ap test same ∙ parts.1)
    (λ (apart : k ≢ n). none_at n k test parts.0 (omega arith))
    (cases_eq k n)

-- two tests that agree on each number
pub some_same : (n : ℕ) (one other : ℕ → Bool) → ((k : ℕ) → one k ≡ other k) → some_below n one ≡ some_below n other
some_same n one other same = ap (λ (test : ℕ → Bool). some_below n test) (fun_ext same)
